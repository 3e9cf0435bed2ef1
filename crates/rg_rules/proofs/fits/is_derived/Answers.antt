use Rattle.std.proofs.Common.{map, rules, refl, subst, sym, ◌∙◌}
use Rattle.std.proofs.lemmas.Bool.{false≢true}
use Rattle.rg_tree.specs.ProgramView.{specification}
use Rattle.rg_tree.specs.Lines.{line_tree}
use Rattle.rg_rules.specs.Faults.{IsDerived}
use Rattle.rg_rules.proofs.Find.{here}
use Rattle.rg_rules.proofs.Faults.{derived_here, derived_else}
use Rattle.rg_rules.proofs.fits.is_derived.Goals as goal

pub returns-then-is_line_of : goal.returns-then-is_line_of
returns-then-is_line_of c =
    let n = c.args.number in
    let spec = specification c.args.spec.now in
    let e = here c.args.lines.now c.loop-line.line-index c.line-item.result (search rules) (search rules) in
    let both = c.is_line_of.ensures.0 c.if-is_line_of.true in
    (λ _. c.loop-line.invariant.1 (subst (λ ls. IsDerived (map line_tree ls) n spec) (sym e) (derived_here (line_tree c.line-item.result) _ n spec both.0 both.1)), λ _. refl)

pub loop-line-preserved : goal.loop-line-preserved
loop-line-preserved c =
    let n = c.args.number in
    let spec = specification c.args.spec.now in
    let e = here c.args.lines.now c.loop-line.line-index c.line-item.result (search rules) (search rules) in
    let other = derived_else (line_tree c.line-item.result) _ n spec (λ p q. false≢true (sym c.if-is_line_of.false ∙ c.is_line_of.ensures.1 (p, q))) in
    let whole = c.loop-line.invariant in
    (λ d. other.0 (subst (λ ls. IsDerived (map line_tree ls) n spec) e (whole.0 d)), λ d. whole.1 (subst (λ ls. IsDerived (map line_tree ls) n spec) (sym e) (other.1 d)))
