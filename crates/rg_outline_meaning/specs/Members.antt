-- Members of families of words, and ranges of numbers.
use Rattle.std.specs.Prelude.{◌≡◌, ℕ, zero, suc, ◌^◌, ◌==◌, ltb, ℤ, pos, negsuc, ◌+ℤ◌, ◌-ℤ◌, ◌≤ℤ◌, Bool, true, false, cond, not, ◌||◌, List, [], ◌∷◌, ◌++◌, map, filter, Option, Some, None, decimal}
use Rattle.std.specs.Ordering.{int_eq}
use Rattle.std.specs.Option.{option_or}
use Rattle.rg_words.specs.Layout.{Word, index_of}
use Rattle.rg_tree.specs.Trees.{Expression, Proposition, number, word, next_word, inverse, binary, shifted, choice, truth, negation, connected, compared}
use Rattle.rg_outline_meaning.specs.Meanings.{equals}

-- so many numbers from one on
abbrev pub numbers_from : ℤ → ℕ → List ℤ
numbers_from z zero = []
numbers_from z (suc n) = z ∷ numbers_from (z +ℤ pos 1) n

-- how many a whole number is
abbrev pub count_of : ℤ → ℕ
count_of (pos n) = n
count_of (negsuc n) = 0

-- the numbers from the one to the other
abbrev pub numbers : ℤ → ℤ → List ℤ
numbers first last = numbers_from first (count_of ((last -ℤ first) +ℤ pos 1))

abbrev pub is_among : List ℤ → ℤ → Bool
is_among [] z = false
is_among (y ∷ ys) z = int_eq y z || is_among ys z

-- numbers without some
abbrev pub without : List ℤ → List ℤ → List ℤ
without left_out zs = filter (λ z. not (is_among left_out z)) zs

-- indices are numbers of their ranges; the last ones may be left out
abbrev pub AreWithin : List (ℤ × ℤ) → List ℤ → Type 0
AreWithin ranges [] = Unit {0}
AreWithin [] (z ∷ zs) = ⊥
AreWithin (r ∷ rs) (z ∷ zs) = (r.0 ≤ℤ z) × (z ≤ℤ r.1) × AreWithin rs zs

-- indices, each longer by each number of a range
abbrev pub longer : ℤ × ℤ → List (List ℤ) → List (List ℤ)
longer r [] = []
longer r (zs ∷ rest) = map (λ z. zs ++ z ∷ []) (numbers r.0 r.1) ++ longer r rest

-- the indices of all members with these first indices: the last index runs fastest
abbrev pub members : List (ℤ × ℤ) → List (List ℤ) → List (List ℤ)
members [] all = all
members (r ∷ rs) all = members rs (longer r all)

-- the name of a member: `f_1_2`
abbrev pub member_name : List ℕ → List ℤ → List ℕ
member_name name [] = name
member_name name (pos n ∷ zs) = member_name (name ++ 95 ∷ decimal n) zs
member_name name (negsuc n ∷ zs) = name

-- the word of a family at these indices
abbrev pub IsMember : List Word → List ℕ → List ℤ → ℕ → Type 0
IsMember words name zs k = index_of words (member_name name zs) ≡ Some k

-- the words of a family at indices, one by one
abbrev pub AreMembers : List Word → List ℕ → List (List ℤ) → List ℕ → Type 0
AreMembers words name [] [] = Unit {0}
AreMembers words name (zs ∷ rest) (k ∷ ks) = IsMember words name zs k × AreMembers words name rest ks
AreMembers words name [] (k ∷ ks) = ⊥
AreMembers words name (zs ∷ rest) [] = ⊥

-- the first word of a value, outside of the tests of its choices: its width is that of the value
abbrev pub first_word : Expression → Option ℕ
first_word (number w n) = None
first_word (word k) = Some k
first_word (next_word k) = Some k
first_word (inverse w a) = first_word a
first_word (binary o w a b) = option_or (first_word a) (first_word b)
first_word (shifted d w a k) = first_word a
first_word (choice f a b) = option_or (first_word a) (first_word b)

-- a value, and a formula, in which a word stands
abbrev mutual
  pub mentions : ℕ → Expression → Bool
  mentions k (number w n) = false
  mentions k (word j) = j == k
  mentions k (next_word j) = j == k
  mentions k (inverse w a) = mentions k a
  mentions k (binary o w a b) = mentions k a || mentions k b
  mentions k (shifted d w a n) = mentions k a
  mentions k (choice f a b) = mentions_in k f || mentions k a || mentions k b

  pub mentions_in : ℕ → Proposition → Bool
  mentions_in k (truth b) = false
  mentions_in k (negation f) = mentions_in k f
  mentions_in k (connected c f g) = mentions_in k f || mentions_in k g
  mentions_in k (compared c a b) = mentions k a || mentions k b

-- a number of so many bits
abbrev pub fits : ℕ → ℤ → Bool
fits width (pos n) = ltb n (2 ^ width)
fits width (negsuc n) = false

-- a member that an index over words may choose: its number there, and its word
pub record Candidate : Type 0 where
  pub number : ℕ
  pub word : ℕ

-- the members with these indices before and after one that is each of these numbers
abbrev pub AreCandidates : List Word → List ℕ → List ℤ → List ℤ → List ℤ → List Candidate → Type 0
AreCandidates words name before after [] [] = Unit {0}
AreCandidates words name before after (z ∷ rest) (c ∷ cs) =
    (z ≡ pos c.number)
    × IsMember words name (before ++ z ∷ after) c.word
    × AreCandidates words name before after rest cs
AreCandidates words name before after [] (c ∷ cs) = ⊥
AreCandidates words name before after (z ∷ rest) [] = ⊥

-- the value of the member that an index chooses: the last one where it is the number of none
abbrev pub chosen_of : Expression → Candidate → List Candidate → Expression
chosen_of e c [] = word c.word
chosen_of e c (d ∷ cs) = choice (equals e c.number) (word c.word) (chosen_of e d cs)
