use Rattle.std.proofs.Common.{subst, ℕ, length, sym, ◌∙◌, ◌≡◌, ap}
use Rattle.std.proofs.lemmas.List.{length-map}
use Rattle.rg_tree.specs.View.{formula}
use Rattle.rg_tree.specs.Fits.{FormulaFits}
use Rattle.rg_monitor.proofs.record.is_covered.Goals as goal

pub inside-requires-clause-fits : goal.inside-requires-clause-fits
inside-requires-clause-fits c =
    let P : ℕ → Type 0 = λ n. FormulaFits (formula c.args.part.now.spec.guar) n in
    let e : length c.args.layout.now ≡ length c.args.before.now.widths = sym (ap (λ ws. length ws) c.requires.before ∙ length-map c.args.layout.now (λ w. w.width)) in
    subst P e (c.typed_trees_fit.ensures.formulas c.args.layout.now c.facts.ensures.layout (formula c.args.part.now.spec.guar) c.requires.part.2)
