-- lines and their parts
use Rattle.std.proofs.Common.{◌≡◌, ℕ, zero, suc, ◌<◌, ℤ, List, [], ◌∷◌, ◌++◌, length, get_or, refl, sym, ap, ◌∙◌, arith, subst, ◌≢◌, ◌+◌, ◌≤◌, Option, Some, None, ⊎_elim, length-append}
use Rattle.std.specs.Prelude.{MatchOption}
use Rattle.std.proofs.lemmas.Bool.{cases_lt}
use Rattle.std.proofs.lemmas.List.{get_or_default}
use Rattle.std.proofs.lemmas.List.Quantifiers.{all_pairs_push}
use Rattle.std.specs.Prelude.{All, AllPairs}
use Rattle.std.specs.List.{HoldsAt}
use Rattle.std.proofs.lemmas.List.Elements.{All-from_get_or, All-push}
use Rattle.rg_hint_lines.specs.declared.lines.Head.{Head}
use Rattle.rg_hint_lines.specs.Lines.{HintLine, Section, IsSection, IsLine, no_line, hint_line_at}
use Rattle.rg_hint_lines.specs.Lines.{IsHintLiteral}
use Rattle.rg_hint_lines.specs.Zipped.{zipped, IsZipped}

pub length-zipped : (heads : List Head) (literals : List (List ℤ)) (hints : List (List ℕ)) → length literals ≡ length heads → length hints ≡ length heads → length (zipped heads literals hints) ≡ length heads
length-zipped [] literals hints e f = refl
length-zipped (head ∷ heads) [] hints e f = absurd (omega arith)
length-zipped (head ∷ heads) (clause ∷ literals) [] e f = absurd (omega arith)
length-zipped (head ∷ heads) (clause ∷ literals) (row ∷ hints) e f = ap suc (length-zipped heads literals hints (omega arith) (omega arith))

-- a line's parts stand at its place
pub record IsLineOf (heads : List Head) (literals : List (List ℤ)) (hints : List (List ℕ)) (k : ℕ) (d : Head) (line : HintLine) : Type 0 where
  pub id : line.id ≡ (get_or heads k d).id
  pub text_line : line.text_line ≡ (get_or heads k d).text_line
  pub literals_ : line.literals ≡ get_or literals k []
  pub hints_ : line.hints ≡ get_or hints k []

pub line_of : (heads : List Head) (literals : List (List ℤ)) (hints : List (List ℕ)) → length literals ≡ length heads → length hints ≡ length heads → (k : ℕ) (d : Head) (e : HintLine) → k < length heads → IsLineOf heads literals hints k d (get_or (zipped heads literals hints) k e)
line_of [] literals hints e f k d l h = absurd (omega arith)
line_of (head ∷ heads) [] hints e f k d l h = absurd (omega arith)
line_of (head ∷ heads) (clause ∷ literals) [] e f k d l h = absurd (omega arith)
line_of (head ∷ heads) (clause ∷ literals) (row ∷ hints) e f zero d l h = record { id = refl; text_line = refl; literals_ = refl; hints_ = refl }
line_of (head ∷ heads) (clause ∷ literals) (row ∷ hints) e f (suc k) d l h =
    let r = line_of heads literals hints (omega arith) (omega arith) k d l (omega arith) in
    record { id = r.id; text_line = r.text_line; literals_ = r.literals_; hints_ = r.hints_ }

-- the parts of a section
pub record IsPartsOf (heads : List Head) (literals : List (List ℤ)) (hints : List (List ℕ)) (s : Section) : Type 0 where
  pub heads_length : length heads ≡ length s.lines
  pub literals_length : length literals ≡ length s.lines
  pub hints_length : length hints ≡ length s.lines
  pub at : (k : ℕ) (d : Head) → k < length s.lines → IsLineOf heads literals hints k d (hint_line_at s k)
  pub section : IsSection s

parts_at_view : (given : ℕ) (heads : List Head) (literals : List (List ℤ)) (hints : List (List ℕ)) → IsZipped given heads literals hints → IsPartsOf heads literals hints (record { given = given; lines = zipped heads literals hints })
parts_at_view given heads literals hints z =
    let e = length-zipped heads literals hints z.literals_fit z.hints_fit in
    record {
      heads_length = sym e;
      literals_length = z.literals_fit ∙ sym e;
      hints_length = z.hints_fit ∙ sym e;
      at = λ k d h. line_of heads literals hints z.literals_fit z.hints_fit k d no_line (omega (arith, e, h));
      section = z.section;
    }

pub parts : (given : ℕ) (heads : List Head) (literals : List (List ℤ)) (hints : List (List ℕ)) (s : Section) → IsZipped given heads literals hints → record { given = given; lines = zipped heads literals hints } ≡ s → IsPartsOf heads literals hints s
parts given heads literals hints s z e =
    let P : Section → Type 0 = λ t. IsPartsOf heads literals hints t in
    subst P e (parts_at_view given heads literals hints z)

abbrev pub no_head : Head
no_head = record { id = 0; text_line = 0 }

-- the numbers of the heads rise
pub heads_rise : (heads : List Head) (literals : List (List ℤ)) (hints : List (List ℕ)) (s : Section) → IsPartsOf heads literals hints s → AllPairs (λ a b. a.id < b.id) heads
heads_rise heads literals hints s p = λ i j d less small.
    let first = p.at i d (omega (arith, p.heads_length)) in
    let second = p.at j d (omega (arith, p.heads_length)) in
    omega (arith, first.id, second.id, p.section.rising i j no_line less (omega (arith, p.heads_length)))

-- no head has the number, so no line has it
pub none_found : (heads : List Head) (literals : List (List ℤ)) (hints : List (List ℕ)) (s : Section) (id : ℕ) → IsPartsOf heads literals hints s → All (λ a. a.id ≢ id) heads → All (λ line. line.id ≢ id) s.lines
none_found heads literals hints s id p h =
    All-from_get_or (λ line. line.id ≢ id) s.lines no_line (λ k small e.
    h k no_head (omega (arith, p.heads_length)) (sym ((p.at k no_head small).id) ∙ e))

pub one_found : (heads : List Head) (literals : List (List ℤ)) (hints : List (List ℕ)) (s : Section) (id k : ℕ) → IsPartsOf heads literals hints s → (k < length heads) × HoldsAt (λ a. a.id ≡ id) heads k → (k < length s.lines) × ((hint_line_at s k).id ≡ id)
one_found heads literals hints s id k p h =
    let small : k < length s.lines = omega (arith, p.heads_length, h.0) in
    (small, (p.at k no_head small).id ∙ h.1 no_head)

pub match_option : {X : Type 0} (o : Option X) (P P' : Type 0) (Q Q' : X → Type 0) → (P → P') → ((x : X) → Q x → Q' x) → MatchOption o P Q → MatchOption o P' Q'
match_option None P P' Q Q' f g h = f h
match_option (Some x) P P' Q Q' f g h = g x h

-- a step of the binary search: heads up to the middle are below, or heads from the middle on are above
module _ (heads : List Head) (id middle : ℕ) (rises : AllPairs (λ a b. a.id < b.id) heads) (small : middle < length heads) where
  pub below_middle : (get_or heads middle no_head).id < id → (k : ℕ) (d : Head) → k < middle + 1 → (get_or heads k d).id < id
  below_middle here k d h =
      let same = get_or_default heads middle d no_head small in
      ⊎_elim (λ less. omega (arith, rises k middle d less small, ap (λ (a : Head). a.id) same, here))
      (λ ge. let e : k ≡ middle = omega arith in rw (e, same) here) (cases_lt k middle)

  pub above_middle : id < (get_or heads middle no_head).id → (k : ℕ) (d : Head) → middle ≤ k → k < length heads → id < (get_or heads k d).id
  above_middle here k d h in_range =
      let same = get_or_default heads middle d no_head small in
      ⊎_elim (λ less. omega (arith, rises middle k d less in_range, ap (λ (a : Head). a.id) same, here))
      (λ ge. let e : k ≡ middle = omega arith in rw (e, same) here) (cases_lt middle k)

-- one more line
pub zipped-push : (heads : List Head) (literals : List (List ℤ)) (hints : List (List ℕ)) (head : Head) (clause : List ℤ) (row : List ℕ) → length literals ≡ length heads → length hints ≡ length heads → zipped (heads ++ head ∷ []) (literals ++ clause ∷ []) (hints ++ row ∷ []) ≡ zipped heads literals hints ++ record { id = head.id; text_line = head.text_line; literals = clause; hints = row } ∷ []
zipped-push [] [] [] head clause row e f = refl
zipped-push [] [] (r ∷ hints) head clause row e f = absurd (omega arith)
zipped-push [] (c ∷ literals) hints head clause row e f = absurd (omega arith)
zipped-push (h ∷ heads) [] hints head clause row e f = absurd (omega arith)
zipped-push (h ∷ heads) (c ∷ literals) [] head clause row e f = absurd (omega arith)
zipped-push (h ∷ heads) (c ∷ literals) (r ∷ hints) head clause row e f =
    ap (λ (ls : List HintLine). record { id = h.id; text_line = h.text_line; literals = c; hints = r } ∷ ls) (zipped-push heads literals hints head clause row (omega arith) (omega arith))

pub IsZipped-push : (given : ℕ) (heads : List Head) (literals : List (List ℤ)) (hints : List (List ℕ)) (head : Head) (clause : List ℤ) (row : List ℕ) → IsZipped given heads literals hints → given < head.id → All (λ line. line.id < head.id) (zipped heads literals hints) → All IsHintLiteral clause → IsZipped given (heads ++ head ∷ []) (literals ++ clause ∷ []) (hints ++ row ∷ [])
IsZipped-push given heads literals hints head clause row z past below fits =
    let line : HintLine = record { id = head.id; text_line = head.text_line; literals = clause; hints = row } in
    record {
      literals_fit = omega (arith, length-append literals (clause ∷ []), length-append heads (head ∷ []), z.literals_fit);
      hints_fit = omega (arith, length-append hints (row ∷ []), length-append heads (head ∷ []), z.hints_fit);
      section = rw (zipped-push heads literals hints head clause row z.literals_fit z.hints_fit) (record {
        each = All-push (IsLine given) (zipped heads literals hints) line z.section.each (record { past = past; literals = fits });
        rising = all_pairs_push (λ a b. a.id < b.id) (zipped heads literals hints) line z.section.rising below;
      });
    }
