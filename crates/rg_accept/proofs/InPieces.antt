-- Lines that are spelled in pieces: one piece more, the first piece that is refused, and one list of lines.
use Rattle.std.proofs.Common.{◌≡◌, ◌∙◌, ◌⊎◌, ℕ, ◌+◌, ◌<◌, List, [], ◌∷◌, ◌++◌, map, length, take, drop, get_or, refl, ap, sym, subst, inl, inr, ⊎_elim}
use Rattle.std.proofs.lemmas.List.{append_assoc, append-nil, take-append-drop, drop_more, map-append}
use Rattle.rg_words.specs.Layout.{Word}
use Rattle.rg_words.specs.Refusals.{no_memory}
use Rattle.rg_words.specs.declared.refusal.Refusal.{Refusal}
use Rattle.rg_tree.specs.Statements.{ProgramTree}
use Rattle.rg_tree.specs.Lines.{LineTree, AreTypedLines}
use Rattle.rg_parse.specs.Derivations.{SpellsDerivation, IsDerivationTextRefusal, OneSpelledDerivation}
use Rattle.rg_rules.specs.Faults.{Derives, IsFirstFault, DerivationsHaveNoFault}
use Rattle.rg_accept.specs.Pieces.{AreSpelledInPieces, FitsInPieces, IsPieceRefusal}

-- a list is what stands before one of its items, this item, and what stands after it; and so it is under a function
pub around : {X Y : Type 0} (f : X → Y) (xs : List X) (i : ℕ) (d : X) → i < length xs → map f xs ≡ map f (take i xs) ++ f (get_or xs i d) ∷ map f (drop (i + 1) xs)
around {X} f xs i d below =
    let cut : xs ≡ take i xs ++ get_or xs i d ∷ drop (i + 1) xs =
    sym (take-append-drop i xs) ∙ ap (λ (ys : List X). take i xs ++ ys) (drop_more xs i d below) in
    ap (λ (ys : List X). map f ys) cut ∙ map-append f (take i xs) (get_or xs i d ∷ drop (i + 1) xs)

-- lines after lines are typed where both are
pub typed_append : (words : List Word) (some more : List LineTree) → AreTypedLines words some → AreTypedLines words more → AreTypedLines words (some ++ more)
typed_append words [] more _ typed = typed
typed_append words (line ∷ some) more both typed = (both.0, typed_append words some more both.1 typed)

-- one piece more spells its lines after those that there are
pub spelled_more : (words : List Word) (before : ℕ) (pieces : List (List ℕ)) (lines : List LineTree) (last : ℕ) (piece : List ℕ) (first : List LineTree) (end : ℕ) → AreSpelledInPieces words before pieces lines last → SpellsDerivation words piece first end → AreSpelledInPieces words before (pieces ++ piece ∷ []) (lines ++ first) end
spelled_more words before [] lines last piece first end s spells =
    (first, end, [], spells, (refl, refl), ap (λ (l : List LineTree). l ++ first) s.0 ∙ sym (append-nil first))
spelled_more words before (p ∷ pieces) lines last piece first end s spells = (
  s.0,
  s.1,
  s.2 ++ first,
  s.3,
  spelled_more words s.1 pieces s.2 last piece first end s.4 spells,
  ap (λ (l : List LineTree). l ++ first) s.5 ∙ append_assoc s.0 s.2 first,
)

-- a piece that is refused is the first where those before it spell lines
pub piece_refused : (words : List Word) (before : ℕ) (pieces : List (List ℕ)) (lines : List LineTree) (last : ℕ) (piece : List ℕ) (after : List (List ℕ)) (e : Refusal) → AreSpelledInPieces words before pieces lines last → IsDerivationTextRefusal words piece e → IsPieceRefusal words (pieces ++ piece ∷ after) e
piece_refused words before [] lines last piece after e s refused = inl refused
piece_refused words before (p ∷ pieces) lines last piece after e s refused =
    inr (s.0, s.1, s.3, piece_refused words s.1 pieces s.2 last piece after e s.4 refused)

-- each of the pieces that spell lines spells some of them
pub piece_spelled : (words : List Word) (before : ℕ) (pieces : List (List ℕ)) (piece : List ℕ) (after : List (List ℕ)) (lines : List LineTree) (last : ℕ) → AreSpelledInPieces words before (pieces ++ piece ∷ after) lines last → (first : List LineTree) × (end : ℕ) × SpellsDerivation words piece first end
piece_spelled words before [] piece after lines last s = (s.0, s.1, s.3)
piece_spelled words before (p ∷ pieces) piece after lines last s = piece_spelled words s.1 pieces piece after s.2 last s.4

-- the same pieces spell one list of lines, which ends on one line
pub one_in_pieces : OneSpelledDerivation → (words : List Word) (before : ℕ) (pieces : List (List ℕ)) (ls ls' : List LineTree) (last last' : ℕ) → AreSpelledInPieces words before pieces ls last → AreSpelledInPieces words before pieces ls' last' → (ls ≡ ls') × (last ≡ last')
one_in_pieces one words before [] ls ls' last last' s t = (s.0 ∙ sym t.0, s.1 ∙ sym t.1)
one_in_pieces one words before (piece ∷ pieces) ls ls' last last' s t =
    let same = one words piece s.0 t.0 s.1 t.1 s.3 t.3 in
    let other = subst (λ (n : ℕ). AreSpelledInPieces words n pieces t.2 last') (sym same.1) t.4 in
    let rest = one_in_pieces one words s.1 pieces s.2 t.2 last last' s.4 other in
    (s.5 ∙ ap (λ (l : List LineTree). l ++ s.2) same.0 ∙ ap (λ (l : List LineTree). t.0 ++ l) rest.0 ∙ sym t.5, rest.1)

-- lines that derive the parts aren't refused where they are those of the pieces
pub pieces_accepted : OneSpelledDerivation → DerivationsHaveNoFault → (program : ProgramTree) (pieces : List (List ℕ)) (lines ls : List LineTree) (last : ℕ) (e : Refusal) → AreSpelledInPieces program.words 1 pieces lines last → FitsInPieces program pieces ls → (e ≡ no_memory) ⊎ IsFirstFault program.parts lines last e → e ≡ no_memory
pieces_accepted one no_fault program pieces lines ls last e spelled fits r =
    let same = (one_in_pieces one program.words 1 pieces ls lines fits.last last fits.spelled spelled).0 in
    ⊎_elim (λ m. m) (λ f. absurd (no_fault program.parts lines last e (subst (λ (l : List LineTree). Derives program.parts l) same fits.derives) f)) r
