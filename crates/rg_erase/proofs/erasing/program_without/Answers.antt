use Rattle.std.proofs.Common.{◌≡◌, ◌∙◌, List, map, sym, ap, subst}
use Rattle.rg_words.specs.Layout.{Word}
use Rattle.rg_tree.specs.declared.part.Part.{Part}
use Rattle.rg_tree.specs.Statements.{Specification, PartTree, ProgramTree}
use Rattle.rg_tree.specs.ProgramView.{specification, part}
use Rattle.rg_tree.specs.ProgramTrees.{program as program_tree}
use Rattle.rg_tree.specs.TypedPrograms.{IsTypedProgram}
use Rattle.rg_erase.specs.Erased.{staying, first_free, kept_specification, part_without, erased_program}
use Rattle.rg_erase.proofs.Left.{left_typed}
use Rattle.rg_erase.proofs.erasing.program_without.Goals as goal
use Rattle.rg_erase.proofs.erasing.program_without.Goals.{In_ok-parts}

-- what comes out is the program that the definition gives
comes : (c : In_ok-parts) → erased_program c.args.erased.now (program_tree c.args.program.now) ≡ record { words = c.args.words; spec = specification c.in_ok-spec.spec; parts = map part c.in_ok-parts.parts.items }
comes c =
    let p = program_tree c.args.program.now in
    let own = c.first_free-own.ensures ∙ ap (λ (ws : List Word). first_free ws) c.requires.words in
    let parts = c.in_ok-parts.ensures ∙ ap (λ (ps : List Part). map (part_without c.args.erased.now c.first_free-own.result) (map part ps)) c.deref.ensures.value ∙ ap (λ n. map (part_without c.args.erased.now n) p.parts) own in
    ap (λ (ws : List Word). let q : ProgramTree = record { words = ws; spec = kept_specification c.args.erased.now p.spec; parts = map (part_without c.args.erased.now (first_free (staying c.args.erased.now p.words))) p.parts } in q) (sym c.requires.words)
    ∙ ap (λ (spec : Specification). let q : ProgramTree = record { words = c.args.words; spec = spec; parts = map (part_without c.args.erased.now (first_free (staying c.args.erased.now p.words))) p.parts } in q) (sym c.in_ok-spec.ensures)
    ∙ ap (λ (ps : List PartTree). let q : ProgramTree = record { words = c.args.words; spec = specification c.in_ok-spec.spec; parts = ps } in q) (sym parts)

pub invariant_of-result : goal.invariant_of-result
invariant_of-result c = record { typed = subst IsTypedProgram (comes c) (left_typed c.args.erased.now (program_tree c.args.program.now) c.requires.erasable c.args.program.now.typed) }
