use Rattle.std.proofs.Common.{◌∙◌, ap}
use Rattle.std.proofs.lemmas.Result.{err_from_is_err_and}
use Rattle.rg_tree.specs.Moves.{given}
use Rattle.rg_resolve.proofs.Set.{values_fit, start_stands, refused_start}
use Rattle.rg_resolve.proofs.resolve.resolve_start.Goals as goal

pub returns-in_err-values-clause-refused : goal.returns-in_err-values-clause-refused
returns-in_err-values-clause-refused c =
    let p = err_from_is_err_and c.from_residual.result c.from_residual.ensures.1 in
    rw (p.1, p.2) (refused_start _ _ _ _ c.in_err-values.ensures.fault)

pub give-requires : goal.give-requires
give-requires c =
    values_fit _ _ _ _ c.in_ok-values.ensures.faultless (c.deref.ensures.value ∙ c.in_ok-values.ensures.values) c.in_ok-state.ensures.widths

pub returns-clause-stands : goal.returns-clause-stands
returns-clause-stands c =
    start_stands _ _ _ _ c.in_ok-values.ensures.faultless (c.deref.ensures.value ∙ c.in_ok-values.ensures.values) (c.give.ensures.values ∙ ap (λ s. given c.deref.result.now s) c.in_ok-state.ensures.values)
