use Rattle.std.proofs.Common.{◌≡◌, ◌∙◌, ◌+◌, List, map, ap, subst, sym}
use Rattle.rg_tree.specs.Conditions.{condition_tree}
use Rattle.rg_hint_lines.specs.declared.sections.SectionBytes.{SectionBytes}
use Rattle.rg_hints.specs.Sections.{SectionText}
use Rattle.rg_hints.specs.Placed.{text_of}
use Rattle.rg_hints.specs.Proved.{AllProvedFrom}
use Rattle.rg_pool.proofs.PieceSteps.{one_of_pieces}
use Rattle.rg_pool.proofs.proof_pieces.prove_pieces.Goals as goal

pub returns-clause-accepts : goal.returns-clause-accepts
returns-clause-accepts g c = λ by.
    let same = one_of_pieces c.args.count 0 _ by.sections (map text_of c.in-Ok.sections.items) by.files c.in-Ok.ensures.sections in
    let lent = ap (λ (xs : List SectionBytes). map text_of xs) (sym c.deref.ensures.value) in
    c.prove_each_all.ensures.accepts (subst (λ (l : List SectionText). AllProvedFrom l (c.args.before + 1) (map condition_tree c.args.conditions.now)) (same ∙ lent) by.each)
