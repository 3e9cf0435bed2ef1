use Rattle.std.proofs.Common.{◌≡◌, ◌∙◌, ◌+◌, ◌++◌, ◌∷◌, [], List, map, take, get_or, ap, sym}
use Rattle.std.proofs.lemmas.List.{take_more, map-append}
use Rattle.rg_hint_lines.specs.declared.sections.SectionBytes.{SectionBytes}
use Rattle.rg_hints.specs.Placed.{text_of}
use Rattle.rg_pool.proofs.PieceSteps.{last_more}
use Rattle.rg_pool.proofs.proof_pieces.last_named.Goals as goal

abbrev no_section : SectionBytes
no_section = record { condition = 0; first_line = 0; bytes = record { ref_ptr = (0, 0); now = [] } }

pub loop-section-preserved : goal.loop-section-preserved
loop-section-preserved c =
    let xs = c.args.sections.now in
    let i = c.loop-section.section-index in
    let more : map text_of (take (i + 1) xs) ≡ map text_of (take i xs) ++ text_of (get_or xs i no_section) ∷ [] =
    ap (λ (ss : List SectionBytes). map text_of ss) (take_more xs i no_section c.loop-section-test.true) ∙ map-append text_of (take i xs) (get_or xs i no_section ∷ []) in
    rw more (sym (last_more c.args.before (map text_of (take i xs)) (text_of (get_or xs i no_section))))
