use Rattle.std.proofs.Common.{◌≡◌, ◌∙◌, List, [], map, ap, subst}
use Rattle.std.proofs.lemmas.Result.{err_from_is_err_and}
use Rattle.rg_syntax.specs.declared.written.Declaration.{Declaration}
use Rattle.rg_syntax.specs.declared.written.PartText.{PartText}
use Rattle.rg_syntax.specs.Written.{declared_word, part_text, program_text}
use Rattle.rg_resolve.specs.Words.{words_of, declaration_faults}
use Rattle.rg_resolve.specs.Programs.{parts_faults}
use Rattle.rg_resolve.specs.Inner.ProgramTrees.{part_tree}
use Rattle.rg_resolve.specs.Faults.{IsRefusal}
use Rattle.rg_resolve.proofs.ResolvedStands.{refused_program}
use Rattle.rg_resolve.proofs.Resolved.{whole_spec_refused, parts_refused, whole_typed, whole_stands}
use Rattle.rg_resolve.proofs.resolve.resolve_program.Goals as goal

pub returns-in_err-spec-clause-fault : goal.returns-in_err-spec-clause-fault
returns-in_err-spec-clause-fault c =
    let p = err_from_is_err_and c.from_residual-in_err-spec.result c.from_residual-in_err-spec.ensures.1 in
    let src = c.args.source.now in
    let ds = ap (λ (l : List Declaration). map (declared_word src) l) c.deref.ensures.value in
    let declared = subst (λ l. declaration_faults l ≡ []) ds c.in_ok-layout.ensures.faultless in
    rw (p.1, p.2) (whole_spec_refused (program_text src c.args.written.now) c.in_ok-layout.layout (c.in_ok-layout.ensures.words ∙ ap words_of ds) declared c.args.file _ c.in_err-spec.ensures.fault)

pub returns-in_err-spec-clause-refused : goal.returns-in_err-spec-clause-refused
returns-in_err-spec-clause-refused c =
    let p = err_from_is_err_and c.from_residual-in_err-spec.result c.from_residual-in_err-spec.ensures.1 in
    let src = c.args.source.now in
    let ds = ap (λ (l : List Declaration). map (declared_word src) l) c.deref.ensures.value in
    let declared = subst (λ l. declaration_faults l ≡ []) ds c.in_ok-layout.ensures.faultless in
    rw (p.1, p.2) (refused_program (program_text src c.args.written.now) c.args.file _ (whole_spec_refused (program_text src c.args.written.now) c.in_ok-layout.layout (c.in_ok-layout.ensures.words ∙ ap words_of ds) declared c.args.file _ c.in_err-spec.ensures.fault))

pub returns-in_err-parts-clause-refused : goal.returns-in_err-parts-clause-refused
returns-in_err-parts-clause-refused c =
    let p = err_from_is_err_and c.from_residual-in_err-parts.result c.from_residual-in_err-parts.ensures.1 in
    let src = c.args.source.now in
    let ds = ap (λ (l : List Declaration). map (declared_word src) l) c.deref.ensures.value in
    let ps = ap (λ (l : List PartText). map (part_text src) l) c.deref-2.ensures.value in
    let declared = subst (λ l. declaration_faults l ≡ []) ds c.in_ok-layout.ensures.faultless in
    let fault = subst (λ l. IsRefusal c.args.file (parts_faults c.in_ok-layout.layout l) c.in_err-parts.field-0.0) ps c.in_err-parts.ensures.fault in
    rw (p.1, p.2) (refused_program (program_text src c.args.written.now) c.args.file _ (parts_refused (program_text src c.args.written.now) c.in_ok-layout.layout (c.in_ok-layout.ensures.words ∙ ap words_of ds) declared c.in_ok-spec.ensures.faultless c.args.file _ fault))

pub invariant_of-result : goal.invariant_of-result
invariant_of-result c =
    let src = c.args.source.now in
    let ds = ap (λ (l : List Declaration). map (declared_word src) l) c.deref.ensures.value in
    let ps = ap (λ (l : List PartText). map (part_text src) l) c.deref-2.ensures.value in
    let declared = subst (λ l. declaration_faults l ≡ []) ds c.in_ok-layout.ensures.faultless in
    let parts_fine = subst (λ l. parts_faults c.in_ok-layout.layout l ≡ []) ps c.in_ok-parts.ensures.faultless in
    let trees = c.in_ok-parts.ensures.trees ∙ ap (λ l. map (part_tree c.in_ok-layout.layout) l) ps in
    record { typed = whole_typed (program_text src c.args.written.now) c.in_ok-layout.layout (c.in_ok-layout.ensures.words ∙ ap words_of ds) declared c.in_ok-spec.ensures.faultless parts_fine _ _ c.in_ok-spec.ensures.tree trees c.facts.ensures.layout c.requires.limits }

pub returns-clause-stands : goal.returns-clause-stands
returns-clause-stands c =
    let src = c.args.source.now in
    let ds = ap (λ (l : List Declaration). map (declared_word src) l) c.deref.ensures.value in
    let ps = ap (λ (l : List PartText). map (part_text src) l) c.deref-2.ensures.value in
    let declared = subst (λ l. declaration_faults l ≡ []) ds c.in_ok-layout.ensures.faultless in
    let parts_fine = subst (λ l. parts_faults c.in_ok-layout.layout l ≡ []) ps c.in_ok-parts.ensures.faultless in
    let trees = c.in_ok-parts.ensures.trees ∙ ap (λ l. map (part_tree c.in_ok-layout.layout) l) ps in
    whole_stands (program_text src c.args.written.now) c.in_ok-layout.layout (c.in_ok-layout.ensures.words ∙ ap words_of ds) declared c.in_ok-spec.ensures.faultless parts_fine _ _ c.in_ok-spec.ensures.tree trees c.facts.ensures.layout c.requires.limits
