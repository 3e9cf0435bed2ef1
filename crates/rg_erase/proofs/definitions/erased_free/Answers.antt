use Rattle.std.proofs.Common.{◌≡◌, ◌∙◌, ◌<◌, ◌+◌, ◌++◌, [], ◌∷◌, List, Bool, drop, length, sym, ap, arith, append_assoc, rules}
use Rattle.rg_erase.specs.Faults.{erased_free}
use Rattle.rg_erase.proofs.Loops.{free_more}
use Rattle.rg_erase.proofs.definitions.erased_free.Goals as goal

pub loop-word-preserved : goal.loop-word-preserved
loop-word-preserved c =
    let i = c.loop-word.word in
    let es = c.args.erased.now in
    let ws = c.args.layout.now in
    let flags = c.loop-word.flags.items in
    let flag = c.is_erased_free.result in
    let rest = erased_free (drop (i + 1) es) (drop (i + 1) ws) in
    let less : i < length ws = omega (arith, c.loop-word-test.true, c.len-word-end.ensures.count) in
    let inv : flags ++ erased_free (drop i es) (drop i ws) ≡ erased_free es ws = c.loop-word.invariant in
    let more : erased_free (drop i es) (drop i ws) ≡ flag ∷ rest = free_more es ws i less ∙ ap (λ (b : Bool). b ∷ rest) (sym c.is_erased_free.ensures) in
    let went : c.push.new.self.items ≡ flags ++ flag ∷ [] = search rules in
    ap (λ (xs : List Bool). xs ++ rest) went ∙ append_assoc flags (flag ∷ []) rest ∙ ap (λ (ys : List Bool). flags ++ ys) (sym more) ∙ inv
