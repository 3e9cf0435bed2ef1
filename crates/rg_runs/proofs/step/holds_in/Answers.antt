use Rattle.std.proofs.Common.{subst, ℕ, length, sym, ◌∙◌, ◌≡◌}
use Rattle.rg_tree.specs.View.{formula}
use Rattle.rg_tree.specs.Fits.{FormulaFits}
use Rattle.rg_runs.proofs.Words.{state_length}
use Rattle.rg_runs.proofs.step.holds_in.Goals as goal

pub holds-requires-clause-fits : goal.holds-requires-clause-fits
holds-requires-clause-fits c =
    let P : ℕ → Type 0 = λ n. FormulaFits (formula c.args.f.now) n in
    let e : length c.args.layout.now ≡ length c.args.state.now.widths = sym (c.facts-2.ensures.widths ∙ state_length c.args.layout.now c.args.state.now.values c.requires.state) in
    subst P e (c.typed_trees_fit.ensures.formulas c.args.layout.now c.facts.ensures.layout (formula c.args.f.now) c.requires.formula.0)
