use Rattle.std.proofs.Common.{◌^◌, ◌<◌, sym, ◌∙◌, arith}
use Rattle.std.proofs.lemmas.Bool.{lt-leb, ne_eqb}
use Rattle.std.proofs.lemmas.Nat.{pow_below}
use Rattle.rg_c_values.specs.Simplified.{top}
use Rattle.rg_c_values.proofs.simplify.is_top_number.Goals as goal

pub returns-else-width-le-MOST_WIDTH : goal.returns-else-width-le-MOST_WIDTH
returns-else-width-le-MOST_WIDTH c =
    let w = c.args.width in
    let n = c.args.n in
    let more : 64 < w = omega arith in
    let larger : 2 ^ 64 < 2 ^ w = pow_below 64 w more in
    lt-leb w 64 more ∙ sym (ne_eqb n (top w) (λ e. omega (arith, e, larger, c.ranges.n.fits)))
