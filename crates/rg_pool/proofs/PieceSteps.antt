-- Sections of pieces: one piece more, the first piece that is refused, and one list of sections.
use Rattle.std.proofs.Common.{◌≡◌, ◌∙◌, ◌⊎◌, ℕ, ◌+◌, ◌-◌, ◌<◌, ◌≤◌, zero, suc, List, [], ◌∷◌, ◌++◌, length, map, take, drop, get_or, All, Ok, refl, ap, sym, subst, inl, inr, ⊎_elim, arith, rules}
use Rattle.std.specs.List.{AllPairs}
use Rattle.std.proofs.lemmas.List.{append_assoc, append-nil, map-append, take-append-drop, drop_more}
use Rattle.std.proofs.lemmas.List.Elements.{All-append, All-cons, All-weaker}
use Rattle.std.proofs.lemmas.List.Kept.{AllPairs-cons}
use Rattle.rg_words.specs.declared.refusal.Refusal.{Refusal}
use Rattle.rg_hint_lines.specs.declared.sections.SectionBytes.{SectionBytes}
use Rattle.rg_hints.specs.Sections.{SectionText}
use Rattle.rg_hints.specs.Placed.{text_of, HasRoom, AreRising, AreFrom, HasSections}
use Rattle.rg_pool.specs.ProofPieces.{last_named, GoesOn, AreSectionsOf, IsPieceRefusal, IsFirstPieceRefusal}
use Rattle.rg_pool.specs.Inner.PieceSections.{AreUpTo, AreSectionsTo}

-- a list is what stands before one of its items, this item, and what stands after it; and so it is under a function
pub around : {X Y : Type 0} (f : X → Y) (xs : List X) (i : ℕ) (d : X) → i < length xs → map f xs ≡ map f (take i xs) ++ f (get_or xs i d) ∷ map f (drop (i + 1) xs)
around {X} f xs i d below =
    let cut : xs ≡ take i xs ++ get_or xs i d ∷ drop (i + 1) xs =
    sym (take-append-drop i xs) ∙ ap (λ (ys : List X). take i xs ++ ys) (drop_more xs i d below) in
    ap (λ (ys : List X). map f ys) cut ∙ map-append f (take i xs) (get_or xs i d ∷ drop (i + 1) xs)

-- one section more is named last
pub last_more : (before : ℕ) (some : List SectionText) (s : SectionText) → last_named before (some ++ s ∷ []) ≡ s.condition
last_more before [] s = refl
last_more before (x ∷ some) s = last_more x.condition some s

-- sections are spelled by pieces up to the last one that is named
pub of_pieces : (count before : ℕ) (pieces : List (List ℕ)) (sections : List SectionText) (last : ℕ) → AreSectionsTo count before pieces sections last → AreSectionsOf count before pieces sections
of_pieces count before [] sections last s = s.0
of_pieces count before (p ∷ pieces) sections last s = (s.0, s.1, s.2, s.3, of_pieces count (last_named before s.0) pieces s.1 last s.4, s.5)

-- one piece more has its sections after those that there are
pub piece_more : (count before : ℕ) (pieces : List (List ℕ)) (sections : List SectionText) (last : ℕ) (piece : List ℕ) (first : List SectionText) → AreSectionsTo count before pieces sections last → HasSections count piece first → GoesOn last first → AreSectionsTo count before (pieces ++ piece ∷ []) (sections ++ first) (last_named last first)
piece_more count before [] sections last piece first s has on =
    let on_from : GoesOn before first = subst (λ (n : ℕ). GoesOn n first) s.1 on in
    (first, [], has, on_from, (refl, ap (λ (n : ℕ). last_named n first) s.1), ap (λ (l : List SectionText). l ++ first) s.0 ∙ sym (append-nil first))
piece_more count before (p ∷ pieces) sections last piece first s has on = (
  s.0,
  s.1 ++ first,
  s.2,
  s.3,
  piece_more count (last_named before s.0) pieces s.1 last piece first s.4 has on,
  ap (λ (l : List SectionText). l ++ first) s.5 ∙ append_assoc s.0 s.1 first,
)

-- a piece that is refused is the first where those before it have sections
pub piece_refused : (count before : ℕ) (pieces : List (List ℕ)) (sections : List SectionText) (last : ℕ) (piece : List ℕ) (after : List (List ℕ)) (e : Refusal) → AreSectionsTo count before pieces sections last → IsPieceRefusal count last piece e → IsFirstPieceRefusal count before (pieces ++ piece ∷ after) e
piece_refused count before [] sections last piece after e s refused = inl (subst (λ (n : ℕ). IsPieceRefusal count n piece e) s.1 refused)
piece_refused count before (p ∷ pieces) sections last piece after e s refused =
    inr (s.0, s.2, s.3, piece_refused count (last_named before s.0) pieces s.1 last piece after e s.4 refused)

-- a piece has one list of sections
one_list : (count : ℕ) (piece : List ℕ) (a b : List SectionText) → HasSections count piece a → HasSections count piece b → a ≡ b
one_list count piece a b x y = cc (x.heads, y.heads)

-- the pieces have one list of sections
pub one_of_pieces : (count before : ℕ) (pieces : List (List ℕ)) (a b : List SectionText) → AreSectionsOf count before pieces a → AreSectionsOf count before pieces b → a ≡ b
one_of_pieces count before [] a b s t = s ∙ sym t
one_of_pieces count before (piece ∷ pieces) a b s t =
    let same = one_list count piece s.0 t.0 s.2 t.2 in
    let rest : s.1 ≡ t.1 = one_of_pieces count (last_named before s.0) pieces s.1 t.1 s.4 (subst (λ (l : List SectionText). AreSectionsOf count (last_named before l) pieces t.1) (sym same) t.4) in
    s.5 ∙ ap (λ (l : List SectionText). l ++ s.1) same ∙ ap (λ (l : List SectionText). t.0 ++ l) rest ∙ sym t.5

-- each piece of those that have sections has some, which go on after those of the pieces before it
pub piece_has : (count before : ℕ) (pieces : List (List ℕ)) (sections : List SectionText) (last : ℕ) (piece : List ℕ) (after : List (List ℕ)) (all : List SectionText) → AreSectionsTo count before pieces sections last → AreSectionsOf count before (pieces ++ piece ∷ after) all → (first : List SectionText) × HasSections count piece first × GoesOn last first
piece_has count before [] sections last piece after all s t = (t.0, t.2, subst (λ (n : ℕ). GoesOn n t.0) (sym s.1) t.3)
piece_has count before (p ∷ pieces) sections last piece after all s t =
    let same = one_list count p s.0 t.0 s.2 t.2 in
    piece_has count (last_named before s.0) pieces s.1 last piece after t.1 s.4 (subst (λ (l : List SectionText). AreSectionsOf count (last_named before l) (pieces ++ piece ∷ after) t.1) (sym same) t.4)

-- the later ones of rising sections rise, too
tail_rising : (y : SectionBytes) (ys : List SectionBytes) → AreRising (y ∷ ys) → AreRising ys
tail_rising y ys rising = λ i j d lt within. rising (suc i) (suc j) d (omega (arith, lt)) (omega (arith, within))

-- the first of them is below all later ones
head_below : (y : SectionBytes) (ys : List SectionBytes) → AreRising (y ∷ ys) → All (λ (s : SectionBytes). y.condition < s.condition) ys
head_below y ys rising = λ j d small. rising zero (suc j) d (omega arith) (omega (arith, small))

-- no section is above the last one that is named
first_within : (y : SectionBytes) (ys : List SectionBytes) → AreRising (y ∷ ys) → y.condition ≤ last_named y.condition (map text_of ys)
first_within y [] rising = omega arith
first_within y (z ∷ zs) rising =
    let here : y.condition < z.condition = head_below y (z ∷ zs) rising zero z (omega arith) in
    let there : z.condition ≤ last_named z.condition (map text_of zs) = first_within z zs (tail_rising y (z ∷ zs) rising) in
    omega (arith, here, there)

all_within : (before : ℕ) (ys : List SectionBytes) → AreRising ys → All (λ (s : SectionBytes). s.condition ≤ last_named before (map text_of ys)) ys
all_within before [] rising = λ i d small. absurd (omega (arith, small))
all_within before (y ∷ ys) rising =
    All-cons (λ (s : SectionBytes). s.condition ≤ last_named y.condition (map text_of ys)) y ys (first_within y ys rising) (all_within y.condition ys (tail_rising y ys rising))

-- sections that go on are above the last one before them
above : (before : ℕ) (ys : List SectionBytes) → AreFrom 1 ys → GoesOn before (map text_of ys) → All (λ (s : SectionBytes). before < s.condition) ys
above before [] are on = λ i d small. absurd (omega (arith, small))
above before (y ∷ ys) are on =
    ⊎_elim
    (λ none. All-weaker (λ (s : SectionBytes). 1 ≤ s.condition) (λ (s : SectionBytes). before < s.condition) (λ s h. omega (arith, h, none)) (y ∷ ys) are.from)
    (λ more. All-cons (λ (s : SectionBytes). before < s.condition) y ys more
    (All-weaker (λ (s : SectionBytes). y.condition < s.condition) (λ (s : SectionBytes). before < s.condition) (λ s h. omega (arith, h, more)) ys (head_below y ys are.rising)))
    on

-- the last one that is named doesn't go back
on_within : (before : ℕ) (ys : List SectionBytes) → AreFrom 1 ys → GoesOn before (map text_of ys) → before ≤ last_named before (map text_of ys)
on_within before [] are on = omega arith
on_within before (y ∷ ys) are on =
    let here : before < y.condition = above before (y ∷ ys) are on zero y (omega arith) in
    let there : y.condition ≤ last_named y.condition (map text_of ys) = first_within y ys are.rising in
    omega (arith, here, there)

-- sections after sections rise where these go on
rising_append : (before : ℕ) (xs ys : List SectionBytes) → AreRising xs → All (λ (s : SectionBytes). s.condition ≤ before) xs → AreRising ys → All (λ (s : SectionBytes). before < s.condition) ys → AreRising (xs ++ ys)
rising_append before [] ys rising below more over = more
rising_append before (x ∷ xs) ys rising below more over =
    let low : x.condition ≤ before = below zero x (omega arith) in
    let after : All (λ (s : SectionBytes). x.condition < s.condition) ys = All-weaker (λ (s : SectionBytes). before < s.condition) (λ (s : SectionBytes). x.condition < s.condition) (λ s h. omega (arith, h, low)) ys over in
    AllPairs-cons (λ (a b : SectionBytes). a.condition < b.condition) x (xs ++ ys)
    (All-append (λ (s : SectionBytes). x.condition < s.condition) xs ys (head_below x xs rising) after)
    (rising_append before xs ys (tail_rising x xs rising) (λ i d small. below (suc i) d (omega (arith, small))) more over)

pub up_to_more : (before : ℕ) (xs ys : List SectionBytes) → AreUpTo before xs → AreFrom 1 ys → GoesOn before (map text_of ys) → AreUpTo (last_named before (map text_of ys)) (xs ++ ys)
up_to_more before xs ys old are on =
    let last = last_named before (map text_of ys) in
    let on_to = on_within before ys are on in
    record {
      from = record {
        rising = rising_append before xs ys old.from.rising old.up_to are.rising (above before ys are on);
        from = All-append (λ (s : SectionBytes). 1 ≤ s.condition) xs ys old.from.from are.from;
        room = All-append HasRoom xs ys old.from.room are.room;
      };
      up_to = All-append (λ (s : SectionBytes). s.condition ≤ last) xs ys
          (All-weaker (λ (s : SectionBytes). s.condition ≤ before) (λ (s : SectionBytes). s.condition ≤ last) (λ s h. omega (arith, h, on_to)) xs old.up_to)
          (all_within before ys are.rising);
    }
