use Rattle.std.proofs.Common.{◌≡◌, ◌∙◌, ◌++◌, ◌∷◌, [], ℕ, ◌+◌, List, Bor, map, take, get_or, ap, sym, subst}
use Rattle.std.proofs.lemmas.List.{take_more, map-append}
use Rattle.rg_tree.specs.Lines.{line_tree}
use Rattle.rg_accept.specs.Pieces.{AreSpelledInPieces, IsPieceRefusal}
use Rattle.rg_accept.proofs.InPieces.{around, spelled_more, piece_refused, piece_spelled}
use Rattle.rg_accept.proofs.stages.pieces.lines_of.Goals as goal

abbrev bytes_of : Bor (List ℕ) → List ℕ
bytes_of piece = piece.now

abbrev no_piece : Bor (List ℕ)
no_piece = record { ref_ptr = (0, 0); now = [] }

pub returns-in-Err-clause-refused : goal.returns-in-Err-clause-refused
returns-in-Err-clause-refused c =
    let here = around bytes_of c.args.pieces.now c.loop-piece.piece-index no_piece c.loop-piece-test.true in
    subst (λ (ps : List (List ℕ)). IsPieceRefusal c.args.layout.now ps c.in-Err.refusal) (sym here) (piece_refused c.args.layout.now 1 _ _ _ _ _ _ c.loop-piece.invariant.1 c.in-Err.ensures.refused)

pub returns-in-Err-clause-accepts : goal.returns-in-Err-clause-accepts
returns-in-Err-clause-accepts c = λ ls last spelled.
    let here = around bytes_of c.args.pieces.now c.loop-piece.piece-index no_piece c.loop-piece-test.true in
    let piece = piece_spelled c.args.layout.now 1 _ _ _ ls last (subst (λ (ps : List (List ℕ)). AreSpelledInPieces c.args.layout.now 1 ps ls last) here spelled) in
    c.in-Err.ensures.accepts piece.0 piece.1 piece.2

pub loop-piece-preserved : goal.loop-piece-preserved
loop-piece-preserved c =
    let pieces = c.args.pieces.now in
    let i = c.loop-piece.piece-index in
    let more : map bytes_of (take (i + 1) pieces) ≡ map bytes_of (take i pieces) ++ (get_or pieces i no_piece).now ∷ [] =
    ap (λ (ps : List (Bor (List ℕ))). map bytes_of ps) (take_more pieces i no_piece c.loop-piece-test.true) ∙ map-append bytes_of (take i pieces) (get_or pieces i no_piece ∷ []) in
    let s = c.in-Ok.ensures.spelled in (
      c.in-Ok.ensures.typed c.loop-piece.invariant.0,
      rw (more, s.2) (spelled_more c.args.layout.now 1 (map bytes_of (take i pieces)) (map line_tree c.loop-piece.all.items) c.loop-piece.last (get_or pieces i no_piece).now s.0 c.in-Ok.last c.loop-piece.invariant.1 s.1),
    )
