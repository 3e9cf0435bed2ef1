use Rattle.std.proofs.Common.{◌≡◌, ◌+◌, ◌-◌, ◌≤◌, ◌<◌, ◌∙◌, ℕ, ℤ, pos, negsuc, Bool, true, false, not, List, get_or, length, length-append, subst, sym, ap, arith, inl, inr}
use Rattle.std.proofs.lemmas.Bool.{cases_order}
use Rattle.std.proofs.lemmas.Bool.Decides.{nat_tests}
use Rattle.std.proofs.lemmas.List.Elements.{All-push}
use Rattle.std.proofs.lemmas.List.{get_or_default, get_or_append_left}
use Rattle.std.proofs.Math.Seq.{get_or-append_seam}
use Rattle.std.specs.Prelude.{All, ◌++◌, ◌∷◌, []}
use Rattle.rg_hints.specs.Lines.{HintLine, no_line}
use lib.Signed.{lt_z}
use Rattle.std.specs.Int.RustNames.{unsigned_abs}
use Rattle.rg_clauses.specs.ClauseLists.{literal_value, value_at, Satisfies}

no_test : (n : ℕ) → lt_z (pos n) (pos 0) ≡ true → ⊥
no_test n h = grind (arith, nat_tests)

pub negative_value : (values : List Bool) (x : ℤ) (b : Bool) → lt_z x (pos 0) ≡ true → b ≡ get_or values (unsigned_abs x - 1) false → not b ≡ literal_value (value_at values) x
negative_value values (pos n) b h e = absurd (no_test n h)
negative_value values (negsuc n) b h e = ap not e

pub positive_value : (values : List Bool) (x : ℤ) (b : Bool) → lt_z x (pos 0) ≡ false → b ≡ get_or values (unsigned_abs x - 1) false → b ≡ literal_value (value_at values) x
positive_value values (pos n) b h e = e
positive_value values (negsuc n) b h e = cc

-- numbers up to the last, and one more line
pub numbers_pushed : (lines : List HintLine) (line : HintLine) (last next : ℕ) → All (λ (l : HintLine). l.id ≤ last) lines → last ≤ next → line.id ≤ next → All (λ (l : HintLine). l.id ≤ next) (lines ++ line ∷ [])
numbers_pushed lines line last next all le here =
    All-push (λ (l : HintLine). l.id ≤ next) lines line (λ k d h. omega (arith, all k d h)) here

-- a count of lines after the given clauses, and one more line
pub count_pushed : (given last : ℕ) (lines : List HintLine) (line : HintLine) → last ≡ given + length lines → last + 1 ≡ given + length (lines ++ line ∷ [])
count_pushed given last lines line e = omega (arith, e, length-append lines (line ∷ []))

-- lines whose numbers have no gaps, and one more line
pub order_pushed : (given : ℕ) (lines : List HintLine) (line : HintLine) → ((k : ℕ) → k < length lines → (get_or lines k no_line).id ≡ given + 1 + k) → line.id ≡ given + 1 + length lines
    → (k : ℕ) → k < length (lines ++ line ∷ []) → (get_or (lines ++ line ∷ []) k no_line).id ≡ given + 1 + k
order_pushed given lines line before is k inside =
    elim (cases_order k (length lines)) [
      | inl e ↦ subst (λ j. (get_or (lines ++ line ∷ []) j no_line).id ≡ given + 1 + j) (sym e) (ap (λ (l : HintLine). l.id) (get_or-append_seam lines line [] no_line) ∙ is)
      | inr (inl less) ↦ ap (λ (l : HintLine). l.id) (get_or_append_left lines (line ∷ []) no_line k less) ∙ before k less
      | inr (inr more) ↦ absurd (omega (arith, inside, more, length-append lines (line ∷ [])))
    ]

-- what holds of each place holds of all items
pub all_of : (P : List ℤ → Type 0) (xs : List (List ℤ)) → ((k : ℕ) → k < length xs → P (get_or xs k [])) → All P xs
all_of P xs h k d lt = subst P (get_or_default xs k [] d lt) (h k lt)

pub satisfied_by : (values seen : List Bool) (clauses : List (List ℤ)) → seen ≡ values → Satisfies (value_at seen) clauses → Satisfies (value_at values) clauses
satisfied_by values seen clauses is h =
    let P : List Bool → Type 0 = λ v. Satisfies (value_at v) clauses in subst P is h
