use Rattle.std.proofs.Common.{◌∙◌, None, List, ap, sym, length, inl, inr, refl}
use Rattle.std.proofs.lemmas.List.{length-map}
use Rattle.rg_tree.specs.ConditionTrees.{ConditionTree}
use Rattle.rg_tree.specs.Conditions.{condition_tree}
use Rattle.std.proofs.lemmas.Result.{err_from_is_err_and}
use Rattle.rgc_line.specs.declared.command.Command.TheVariants.{Prove}
use Rattle.rgc_commands.proofs.Stopping.{device_stop}
use Rattle.rgc_commands.proofs.Proving.{all_answer}
use Rattle.rgc_commands.proofs.texts.prove_all.Goals as goal

pub returns-in_err-text-clause-stopped : goal.returns-in_err-text-clause-stopped
returns-in_err-text-clause-stopped g c = λ s t d.
    let p = err_from_is_err_and c.from_residual.result c.from_residual.ensures.1 in
    rw (p.1, p.2) (device_stop s (Prove t d c.args.steps None) c.args.files.now _ (c.in_err-text.ensures.unread None))

pub returns-in_err-derived-clause-stopped : goal.returns-in_err-derived-clause-stopped
returns-in_err-derived-clause-stopped g c = λ s t d.
    let p = err_from_is_err_and c.from_residual-in_err-derived.result c.from_residual-in_err-derived.ensures.1 in
    rw (p.1, p.2, c.in_ok-text.ensures.text, c.in_ok-text.ensures.derivation) (inl (inl c.in_err-derived.ensures.refused))

pub returns-in_err-found-clause-stopped : goal.returns-in_err-found-clause-stopped
returns-in_err-found-clause-stopped g c = λ s t d.
    let p = err_from_is_err_and c.from_residual-in_err-found.result c.from_residual-in_err-found.ensures.1 in
    rw (p.1, p.2, c.in_ok-text.ensures.text, c.in_ok-text.ensures.derivation) (inl (inr (_, _, c.in_ok-derived.ensures.derived, c.in_err-found.ensures.refused)))

pub returns-in_err-conditions-clause-stopped : goal.returns-in_err-conditions-clause-stopped
returns-in_err-conditions-clause-stopped g c = λ s t d.
    let p = err_from_is_err_and c.from_residual-in_err-conditions.result c.from_residual-in_err-conditions.ensures.1 in
    rw (p.1, p.2) (inr refl)

pub returns-clause-answer : goal.returns-clause-answer
returns-clause-answer g c = λ s t d.
    let counted =
    c.len-count.ensures
    ∙ c.in_ok-conditions.conditions.ok.0
    ∙ sym (length-map c.in_ok-conditions.conditions.items condition_tree)
    ∙ ap (λ (cs : List ConditionTree). length cs) c.in_ok-conditions.ensures.list in
    all_answer s t d c.args.steps c.args.files.now c.in_ok-text.text c.in_ok-text.derivation c.in_ok-derived.derived c.len-count.result c.in_ok-found.found c.proofs_answer.result c.in_ok-text.ensures.text c.in_ok-text.ensures.derivation c.in_ok-derived.ensures.derived counted c.in_ok-found.ensures.found c.proofs_answer.ensures
