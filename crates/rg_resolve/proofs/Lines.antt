-- Lines of a derivation stand for lines exactly where they have no faults, and then for these.
use Rattle.std.proofs.Common.{◌≡◌, ℕ, ◌≤◌, List, [], ◌∷◌, map, refl, sym, subst, ◌∙◌, inl, inr}
use Rattle.std.specs.Prelude.{◌⊎◌, nat_le}
use Rattle.std.specs.List.{flat_map}
use Rattle.std.proofs.lemmas.Bool.{leb-true, le-leb}
use Rattle.rg_words.specs.declared.limits.TheConstants.{MOST_PLAIN_NUMBER}
use Rattle.rg_words.specs.declared.refusal.RefusalNumber.TheVariants.{NumberTooLarge}
use Rattle.rg_words.specs.declared.refusal.Refusal.{Refusal}
use Rattle.rg_words.specs.declared.refusal.SourceFile.{SourceFile}
use Rattle.rg_words.specs.Refusals.{no_memory}
use Rattle.rg_words.specs.Layout.{Word, IsLayout}
use Rattle.rg_text.specs.Text.{Leaf}
use Rattle.rg_tree.specs.Lines.{LineTree, AreTypedLines}
use Rattle.rg_tree.specs.TypedPrograms.{IsTypedSpecification}
use Rattle.rg_syntax.specs.Written.{WrittenLine}
use Rattle.rg_resolve.specs.Faults.{plain_faults, IsRefusal}
use Rattle.rg_resolve.specs.Derivations.{line_faults, derivation_faults, leaf_number, NumberStandsFor, NumbersStandFor, LineStandsFor, DerivationStandsFor, OneListOfLines, FaultlessDerivation}
use Rattle.rg_resolve.specs.Inner.ProgramTrees.{spec_tree}
use Rattle.rg_leaves.proofs.Refusals.{no_faults, no_test}
use Rattle.rg_resolve.proofs.Typed.{none_left, none_right, unless-none, layout_is_narrow}
use Rattle.rg_resolve.proofs.ResolvedStands.{spec_stands, spec_faultless, spec_is}
use Rattle.rg_resolve.proofs.ResolvedTyping.{spec_typed}
use Rattle.rg_resolve.specs.Inner.LineTrees.{resolved_line}

-- numbers
number_stands : (x : Leaf) → plain_faults x ≡ [] → NumberStandsFor x (leaf_number x)
number_stands x h = record { is = refl; small = leb-true _ _ (unless-none _ _ _ h) }

number_faultless : (x : Leaf) (n : ℕ) → NumberStandsFor x n → plain_faults x ≡ []
number_faultless x n h =
    let small = let P : ℕ → Type 0 = λ k. k ≤ MOST_PLAIN_NUMBER in subst P (sym h.is) h.small in
    no_test (nat_le (leaf_number x) MOST_PLAIN_NUMBER) NumberTooLarge x.line (le-leb _ _ small)

numbers_stand : (xs : List Leaf) → flat_map plain_faults xs ≡ [] → NumbersStandFor xs (map leaf_number xs)
numbers_stand [] h = tt
numbers_stand (x ∷ xs) h = (number_stands x (none_left _ _ h), numbers_stand xs (none_right _ _ h))

numbers_faultless : (xs : List Leaf) (ns : List ℕ) → NumbersStandFor xs ns → flat_map plain_faults xs ≡ []
numbers_faultless [] [] h = refl
numbers_faultless (x ∷ xs) (n ∷ ns) h = no_faults _ _ (number_faultless x n h.0) (numbers_faultless xs ns h.1)
numbers_faultless [] (n ∷ ns) h = absurd h
numbers_faultless (x ∷ xs) [] h = absurd h

numbers_are : (xs : List Leaf) (ns : List ℕ) → NumbersStandFor xs ns → ns ≡ map leaf_number xs
numbers_are [] [] h = refl
numbers_are (x ∷ xs) (n ∷ ns) h = rw (h.0.is, ← numbers_are xs ns h.1) refl
numbers_are [] (n ∷ ns) h = absurd h
numbers_are (x ∷ xs) [] h = absurd h

-- lines
line_stands : (words : List Word) (l : WrittenLine) → line_faults words l ≡ [] → LineStandsFor words l (resolved_line words l)
unfolding line_faults
line_stands words l h =
    let rest = none_right _ _ h in
    let more = none_right _ _ rest in
    record {
      begin = refl;
      own = number_stands l.number (none_left _ _ h);
      rule = refl;
      statement = number_stands l.statement (none_left _ _ rest);
      premises = numbers_stand l.premises (none_left _ _ more);
      spec = spec_stands words l.spec (none_right _ _ more);
    }

line_faultless : (words : List Word) (l : WrittenLine) (t : LineTree) → LineStandsFor words l t → line_faults words l ≡ []
unfolding line_faults
line_faultless words l t h =
    no_faults _ _ (number_faultless l.number t.own_number h.own) (no_faults _ _ (number_faultless l.statement t.number h.statement) (no_faults _ _ (numbers_faultless l.premises t.premises h.premises) (spec_faultless words l.spec t.spec h.spec)))

line_is : (words : List Word) (l : WrittenLine) (t : LineTree) → LineStandsFor words l t → t ≡ resolved_line words l
line_is words l t h = by (sym h.own.is) (sym h.begin) (sym h.rule) (sym h.statement.is) (numbers_are l.premises t.premises h.premises) (spec_is words l.spec t.spec h.spec)
  where
    by : t.own_number ≡ leaf_number l.number → t.source_line ≡ l.begin.line → t.rule ≡ l.rule → t.number ≡ leaf_number l.statement → t.premises ≡ map leaf_number l.premises → t.spec ≡ (resolved_line words l).spec → t ≡ resolved_line words l
    by o b r n p s = rw (← o, ← b, ← r, ← n, ← p, ← s) refl

lines_stand : (words : List Word) (ls : List WrittenLine) → derivation_faults words ls ≡ [] → DerivationStandsFor words ls (map (resolved_line words) ls)
lines_stand words [] h = tt
lines_stand words (l ∷ ls) h = (line_stands words l (none_left _ _ h), lines_stand words ls (none_right _ _ h))

lines_faultless : (words : List Word) (ls : List WrittenLine) (ts : List LineTree) → DerivationStandsFor words ls ts → derivation_faults words ls ≡ []
lines_faultless words [] [] h = refl
lines_faultless words (l ∷ ls) (t ∷ ts) h = no_faults _ _ (line_faultless words l t h.0) (lines_faultless words ls ts h.1)
lines_faultless words [] (t ∷ ts) h = absurd h
lines_faultless words (l ∷ ls) [] h = absurd h

lines_are : (words : List Word) (ls : List WrittenLine) (ts : List LineTree) → DerivationStandsFor words ls ts → ts ≡ map (resolved_line words) ls
lines_are words [] [] h = refl
lines_are words (l ∷ ls) (t ∷ ts) h = rw (← line_is words l t h.0, ← lines_are words ls ts h.1) refl
lines_are words [] (t ∷ ts) h = absurd h
lines_are words (l ∷ ls) [] h = absurd h

pub one_list_of_lines : OneListOfLines
one_list_of_lines words ls s t h g = lines_are words ls s h ∙ sym (lines_are words ls t g)

pub faultless_derivation : FaultlessDerivation
faultless_derivation words ls = (λ h. (_, lines_stand words ls h), λ s. lines_faultless words ls s.0 s.1)

-- a refusal that isn't want of memory reports a fault
pub refused_lines : (words : List Word) (ls : List WrittenLine) (file : SourceFile) (refusal : Refusal) → IsRefusal file (derivation_faults words ls) refusal → (refusal ≡ no_memory) ⊎ ((ts : List LineTree) → DerivationStandsFor words ls ts → ⊥)
refused_lines words ls file refusal h = elim h.cause [ inl e ↦ inl e | inr e ↦ inr (λ ts g. rw (lines_faultless words ls ts g) at e) ]

pub lines_stand_as : (words : List Word) (ls : List WrittenLine) (ts : List LineTree) → derivation_faults words ls ≡ [] → ts ≡ map (resolved_line words) ls → DerivationStandsFor words ls ts
lines_stand_as words ls ts h same = rw same (lines_stand words ls h)

line_typed : (words : List Word) → IsLayout words → (l : WrittenLine) → line_faults words l ≡ [] → IsTypedSpecification words (spec_tree words l.spec)
unfolding line_faults
line_typed words layout l h =
    let rest = none_right (plain_faults l.number) _ h in
    let more = none_right (plain_faults l.statement) _ rest in
    spec_typed words (layout_is_narrow words layout) l.spec (none_right (flat_map plain_faults l.premises) _ more)

each_typed : (words : List Word) → IsLayout words → (ls : List WrittenLine) → derivation_faults words ls ≡ [] → AreTypedLines words (map (resolved_line words) ls)
each_typed words layout [] h = tt
each_typed words layout (l ∷ ls) h = (line_typed words layout l (none_left _ _ h), each_typed words layout ls (none_right _ _ h))

pub lines_typed : (words : List Word) → IsLayout words → (ls : List WrittenLine) (ts : List LineTree) → derivation_faults words ls ≡ [] → ts ≡ map (resolved_line words) ls → AreTypedLines words ts
lines_typed words layout ls ts h same = rw same (each_typed words layout ls h)
