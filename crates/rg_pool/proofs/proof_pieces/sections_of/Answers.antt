use Rattle.std.proofs.Common.{◌≡◌, ◌∙◌, ◌++◌, ◌∷◌, [], ℕ, ◌+◌, List, Bor, map, take, get_or, ap, sym, subst, inl, inr, ⊎_elim, arith}
use Rattle.std.proofs.lemmas.List.{take_more, take_all, map-append}
use Rattle.rg_hints.specs.Sections.{SectionText}
use Rattle.rg_hints.specs.Placed.{text_of}
use Rattle.rg_pool.specs.ProofPieces.{AreSectionsOf, IsFirstPieceRefusal, last_named}
use Rattle.rg_pool.specs.Inner.PieceSections.{AreSectionsTo}
use Rattle.rg_pool.proofs.PieceSteps.{around, of_pieces, piece_more, piece_refused, piece_has}
use Rattle.rg_pool.proofs.proof_pieces.sections_of.Goals as goal

abbrev bytes_of : Bor (List ℕ) → List ℕ
bytes_of piece = piece.now

abbrev no_piece : Bor (List ℕ)
no_piece = record { ref_ptr = (0, 0); now = [] }

pub returns-in-Err-clause-refused : goal.returns-in-Err-clause-refused
returns-in-Err-clause-refused c =
    let here = around bytes_of c.args.pieces.now c.loop-piece.piece-index no_piece c.loop-piece-test.true in
    ⊎_elim
    inl
    (λ why. inr (subst (λ (ps : List (List ℕ)). IsFirstPieceRefusal c.args.count 0 ps c.in-Err.refusal) (sym here) (piece_refused c.args.count 0 _ _ _ _ _ _ c.loop-piece.invariant.1 why)))
    c.in-Err.ensures.refused

pub returns-in-Err-clause-accepts : goal.returns-in-Err-clause-accepts
returns-in-Err-clause-accepts c = λ all are.
    let here = around bytes_of c.args.pieces.now c.loop-piece.piece-index no_piece c.loop-piece-test.true in
    let has = piece_has c.args.count 0 _ _ _ _ _ all c.loop-piece.invariant.1 (subst (λ (ps : List (List ℕ)). AreSectionsOf c.args.count 0 ps all) here are) in
    c.in-Err.ensures.accepts has.0 has.1 has.2

pub loop-piece-preserved : goal.loop-piece-preserved
loop-piece-preserved c =
    let pieces = c.args.pieces.now in
    let i = c.loop-piece.piece-index in
    let more : map bytes_of (take (i + 1) pieces) ≡ map bytes_of (take i pieces) ++ (get_or pieces i no_piece).now ∷ [] =
    ap (λ (ps : List (Bor (List ℕ))). map bytes_of ps) (take_more pieces i no_piece c.loop-piece-test.true) ∙ map-append bytes_of (take i pieces) (get_or pieces i no_piece ∷ []) in
    let a = c.in-Ok.ensures.added in (
      c.in-Ok.ensures.rising,
      rw (more, a.joined, a.last_is) (piece_more c.args.count 0 (map bytes_of (take i pieces)) (map text_of c.loop-piece.all.items) c.loop-piece.last (get_or pieces i no_piece).now a.first c.loop-piece.invariant.1 a.has a.on),
    )

pub returns-clause-sections : goal.returns-clause-sections
returns-clause-sections c =
    let whole : take c.loop-piece.piece-index c.args.pieces.now ≡ c.args.pieces.now = take_all c.loop-piece.piece-index c.args.pieces.now (omega (arith, c.loop-piece-test.false)) in
    of_pieces c.args.count 0 _ _ _ (subst (λ (ps : List (Bor (List ℕ))). AreSectionsTo c.args.count 0 (map bytes_of ps) (map text_of c.loop-piece.all.items) c.loop-piece.last) whole c.loop-piece.invariant.1)
