-- the section of a condition among sections in their order
use Rattle.std.proofs.Common.{◌≡◌, ◌≢◌, ℕ, ◌+◌, ◌<◌, zero, suc, eqb, Some, None, ℤ, List, [], ◌∷◌, length, map, get_or, drop, refl, sym, ap, subst, ◌∙◌, arith}
use Rattle.std.specs.Prelude.{All, Contains}
use Rattle.std.proofs.lemmas.Bool.{cond-false, ne_eqb}
use Rattle.std.proofs.lemmas.List.Elements.{All-head, All-tail}
use Rattle.std.proofs.Math.Seq.{drop-cons}
use Rattle.rg_clauses.specs.ClauseLists.{SatisfiesClause, IsUnsatisfiable}
use Rattle.rg_hint_lines.specs.declared.sections.SectionBytes.{SectionBytes}
use Rattle.rg_hints.specs.Proved.{section_for}
use Rattle.rg_hints.specs.Placed.{text_of, HasRoom, AreFrom}

found_after : (s : SectionBytes) (rest : List SectionBytes) (k : ℕ) → s.condition ≢ k → section_for (map text_of (s ∷ rest)) k ≡ section_for (map text_of rest) k
found_after s rest k n = cond-false (eqb s.condition k) (Some (text_of s)) (section_for (map text_of rest) k) (ne_eqb s.condition k n)

-- sections of greater conditions
found_none : (sections : List SectionBytes) (k : ℕ) → All (λ (s : SectionBytes). k < s.condition) sections → section_for (map text_of sections) k ≡ None
found_none [] k all = refl
found_none (s ∷ rest) k all =
    let above = All-head (λ (t : SectionBytes). k < t.condition) s rest all in
    found_after s rest k (λ e. omega (arith, e, above)) ∙ found_none rest k (All-tail (λ (t : SectionBytes). k < t.condition) s rest all)

-- the sections after the first
from_after : (s : SectionBytes) (rest : List SectionBytes) (k : ℕ) → AreFrom k (s ∷ rest) → s.condition ≡ k → AreFrom (k + 1) rest
from_after s rest k a e = record {
  rising = λ i j d less small. a.rising (suc i) (suc j) d (omega (arith, less)) (omega (arith, small));
  from = λ j d small. omega (arith, e, a.rising 0 (suc j) d (omega arith) (omega (arith, small)));
  room = All-tail HasRoom s rest a.room;
}

-- the first section is of a later condition
above_all : (s : SectionBytes) (rest : List SectionBytes) (k : ℕ) → AreFrom k (s ∷ rest) → s.condition ≢ k → All (λ (t : SectionBytes). k < t.condition) (s ∷ rest)
above_all s rest k a n zero d small = omega (arith, n, a.from 0 d small)
above_all s rest k a n (suc j) d small = omega (arith, a.from 0 d (omega arith), a.rising 0 (suc j) d (omega arith) small)

from_above : (s : SectionBytes) (rest : List SectionBytes) (k : ℕ) → AreFrom k (s ∷ rest) → s.condition ≢ k → AreFrom (k + 1) (s ∷ rest)
from_above s rest k a n = record {
  rising = a.rising;
  from = λ j d small. omega (arith, above_all s rest k a n j d small);
  room = a.room;
}

none_above : (s : SectionBytes) (rest : List SectionBytes) (k : ℕ) → AreFrom k (s ∷ rest) → s.condition ≢ k → section_for (map text_of (s ∷ rest)) k ≡ None
none_above s rest k a n = found_none (s ∷ rest) k (above_all s rest k a n)

module _ (xs : List SectionBytes) (i : ℕ) (d : SectionBytes) (k : ℕ) (small : i < length xs) (a : AreFrom k (drop i xs)) where
  at_place : drop i xs ≡ get_or xs i d ∷ drop (i + 1) xs
  at_place = let more : suc i ≡ i + 1 = omega arith in drop-cons xs i d small ∙ ap (λ (n : ℕ). get_or xs i d ∷ drop n xs) more

  -- the section at a place is taken, or is of a later condition
  pub taken_after : (get_or xs i d).condition ≡ k → AreFrom (k + 1) (drop (i + 1) xs)
  taken_after e = from_after (get_or xs i d) (drop (i + 1) xs) k (subst (AreFrom k) at_place a) e

  pub later_from : (get_or xs i d).condition ≢ k → AreFrom (k + 1) (drop i xs)
  later_from n = subst (AreFrom (k + 1)) (sym at_place) (from_above (get_or xs i d) (drop (i + 1) xs) k (subst (AreFrom k) at_place a) n)

  pub later_none : (get_or xs i d).condition ≢ k → section_for (map text_of (drop i xs)) k ≡ None
  later_none n =
      ap (λ (ss : List SectionBytes). section_for (map text_of ss) k) at_place
      ∙ none_above (get_or xs i d) (drop (i + 1) xs) k (subst (AreFrom k) at_place a) n

-- no values satisfy an empty clause
pub empty_unsatisfiable : (clauses : List (List ℤ)) → Contains clauses [] → IsUnsatisfiable clauses
empty_unsatisfiable clauses m = λ values satisfied.
    let one = satisfied m.0 [] m.1 in
    let none = subst (SatisfiesClause values) m.2 one in
    omega (arith, none.1.1)
