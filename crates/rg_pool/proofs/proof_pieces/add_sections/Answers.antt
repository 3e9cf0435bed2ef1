use Rattle.std.proofs.Common.{◌≡◌, ◌∙◌, List, map, ap, subst}
use Rattle.rg_hint_lines.specs.declared.sections.SectionBytes.{SectionBytes}
use Rattle.rg_hints.specs.Placed.{text_of}
use Rattle.rg_pool.specs.ProofPieces.{last_named, GoesOn}
use Rattle.rg_pool.proofs.PieceSteps.{up_to_more}
use Rattle.rg_pool.proofs.proof_pieces.add_sections.Goals as goal

pub returns-clause-rising : goal.returns-clause-rising
returns-clause-rising c =
    let items = c.in-Ok.sections.items in
    let on : GoesOn c.args.before (map text_of items) = subst (λ (ss : List SectionBytes). GoesOn c.args.before (map text_of ss)) c.deref.ensures.value c.in-Ok-check_goes_on.ensures.on in
    let last = c.last_named-last.ensures ∙ ap (λ (ss : List SectionBytes). last_named c.args.before (map text_of ss)) c.deref-2.ensures.value in
    rw (last, c.in_ok-append.ensures.items) (up_to_more c.args.before c.args.all.now.items items c.requires c.in-Ok.ensures.from on)
