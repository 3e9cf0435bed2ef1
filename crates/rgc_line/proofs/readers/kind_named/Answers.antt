use Rattle.std.proofs.Common.{◌∙◌, ap, option_map, sym}
use Rattle.std.specs.Prelude.{find}
use Rattle.std.specs.Str.{bytes_eq}
use Rattle.std.proofs.lemmas.List.{at_drop_all}
use Rattle.rgc_line.specs.App.{kinds}
use Rattle.rgc_line.proofs.Reading.{found_here, found_after, kind_found}
use Rattle.rgc_line.specs.declared.commands.Row.{Row}
use Rattle.rgc_line.proofs.readers.kind_named.Goals as goal

pub loop-row-preserved : goal.loop-row-preserved
loop-row-preserved c =
    found_after (λ row. bytes_eq row.name.now c.args.name.now) c.args.rows.now c.loop-row.row-index _ c.loop-row-test.true (sym c.eq.ensures ∙ c.if-eq.false)
    ∙ c.loop-row.invariant

pub returns-then-eq : goal.returns-then-eq
returns-then-eq c =
    let here = found_here (λ row. bytes_eq row.name.now c.args.name.now) c.args.rows.now c.loop-row.row-index _ c.loop-row-test.true (sym c.eq.ensures ∙ c.if-eq.true) in
    ap (option_map (λ (row : Row). row.kind)) (sym here ∙ c.loop-row.invariant) ∙ kind_found (λ name. bytes_eq name c.args.name.now) c.args.rows.now kinds c.requires

pub returns : goal.returns
returns c =
    let done = at_drop_all (find (λ (row : Row). bytes_eq row.name.now c.args.name.now)) c.args.rows.now c.loop-row.row-index c.loop-row-test.false in
    ap (option_map (λ (row : Row). row.kind)) (sym done ∙ c.loop-row.invariant) ∙ kind_found (λ name. bytes_eq name c.args.name.now) c.args.rows.now kinds c.requires
