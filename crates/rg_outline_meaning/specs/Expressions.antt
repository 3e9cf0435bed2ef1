-- What the expressions of an outline stand for, by rules. One of them fits at most.
use Rattle.std.specs.Prelude.{◌≡◌, ◌≢◌, ℕ, suc, ℤ, pos, Bool, true, false, List, [], ◌∷◌, ◌++◌, length, map, drop, All, Contains, Option, Some, None, slice_get, filter}
use Rattle.rg_words.specs.Layout.{Word, widths_of, fixed_of}
use Rattle.rg_tree.specs.Trees.{Expression, Proposition, word, next_word, inverse, truth}
use Rattle.rg_outline_syntax.specs.declared.span.Span.{Span}
use Rattle.rg_outline_syntax.specs.declared.written.Binder.{Binder}
use Rattle.rg_outline_syntax.specs.declared.written.Binder.TheVariants as binder
use Rattle.rg_outline_syntax.specs.declared.written.Junction.TheVariants.{And, Or}
use Rattle.rg_outline_syntax.specs.declared.written.Operator.TheVariants.{Add}
use Rattle.rg_outline_syntax.specs.declared.written.Comparison as outline
use Rattle.rg_outline_syntax.specs.declared.written.Conditional.{Conditional}
use Rattle.rg_outline_syntax.specs.declared.written.Junction.{Junction}
use Rattle.rg_outline_syntax.specs.declared.written.Operator as operator
use Rattle.rg_outline_syntax.specs.declared.written.List as written
use Rattle.rg_outline_syntax.specs.declared.written.ExpressionKind.TheVariants.{Number, Truth, Name, Group, Not, Keeps, Inverse, Unchanged, UnchangedBut, Bound, Choice, Compare, Operate, Join, Imply}
use Rattle.rg_outline_meaning.specs.Meanings.{Meaning, whole, value, claim, value_of, negated, joined, implied, keeping, operated, comparing, choosing, is_primed, IsUsed, same_word, IsConjunction}
use Rattle.rg_outline_meaning.specs.Names.{Outline, text_of, listed, parameters_of, HasKind, family, tree, part_number, Names, IsUnbound, Knows, Binds, with_number, HasArguments, inside, bound_to}
use Rattle.rg_outline_meaning.specs.Members.{numbers, without, AreWithin, members, IsMember, AreMembers, first_word, fits, Candidate, AreCandidates, chosen_of}

-- a value: no formula
abbrev pub IsValue : Meaning → Type 0
IsValue (whole z) = Unit {0}
IsValue (value e) = Unit {0}
IsValue (claim p) = ⊥

-- a number: it has no prime
abbrev pub IsWhole : Meaning → Type 0
IsWhole (whole z) = Unit {0}
IsWhole (value e) = ⊥
IsWhole (claim p) = ⊥

-- the instances of a tree so far, and one more
abbrev pub combined : Binder → Meaning → Meaning → Option Meaning
combined binder.All (claim p) (claim q) = Some (claim (joined And p q))
combined binder.Some (claim p) (claim q) = Some (claim (joined Or p q))
combined binder.Sum m n = operated Add m n
combined binder.All m n = None
combined binder.Some m n = None

-- what is made of no instance
abbrev pub of_nothing : Binder → Meaning
of_nothing binder.All = claim (truth true)
of_nothing binder.Some = claim (truth false)
of_nothing binder.Sum = whole (pos 0)

-- what is made of instances, nested to the left
pub data IsCollected (b : Binder) : List Meaning → Meaning → Type 0 where
  of_none : IsCollected b [] (of_nothing b)
  of_one : (m : Meaning) → IsCollected b (m ∷ []) m
  of_more : (ms : List Meaning) (m n r : Meaning) → ms ≢ [] → IsCollected b ms m → combined b m n ≡ Some r → IsCollected b (ms ++ n ∷ []) r

-- an instance: a value in a sum, else a formula
abbrev pub IsInstance : Binder → Meaning → Type 0
IsInstance binder.All m = (p : Proposition) × (m ≡ claim p)
IsInstance binder.Some m = (p : Proposition) × (m ≡ claim p)
IsInstance binder.Sum m = IsValue m

-- the words that `unchanged all but` speaks of: all from a place on, but for the fixed ones and these
pub data AreOthers (but : List ℕ) : ℕ → List Bool → List ℕ → Type 0 where
  at_end : (k : ℕ) → AreOthers but k [] []
  fixed : (k : ℕ) (rest : List Bool) (ks : List ℕ) → AreOthers but (suc k) rest ks → AreOthers but k (true ∷ rest) ks
  named : (k : ℕ) (b : Bool) (rest : List Bool) (ks : List ℕ) → Contains but k → AreOthers but (suc k) rest ks → AreOthers but k (b ∷ rest) ks
  other : (k : ℕ) (rest : List Bool) (ks : List ℕ)
      → All (λ j. j ≢ k) but
      → AreOthers but (suc k) rest ks
      → AreOthers but k (false ∷ rest) (k ∷ ks)

-- all words but these and the fixed ones stay the same
abbrev pub IsUnchanged : List Word → List ℕ → Proposition → Type 0
IsUnchanged words but p = (ks : List ℕ) × AreOthers but 0 (fixed_of words) ks × IsConjunction (map same_word ks) p

-- a word, or several of which an index over words chooses one
pub data Selected : Type 0 where
  one : ℕ → Selected
  among : Expression → Candidate → List Candidate → Selected

abbrev pub selected_value : Selected → Expression
selected_value (one k) = word k
selected_value (among e c cs) = chosen_of e c cs

mutual
  pub data StandsFor (o : Outline) (words : List Word) : Names → ℕ → Meaning → Type 0 where
    number : (names : Names) (i n : ℕ) → HasKind o i (Number n) → StandsFor o words names i (whole (pos n))
    truth_value : (names : Names) (i : ℕ) (b : Bool) → HasKind o i (Truth b) → StandsFor o words names i (claim (truth b))
    group : (names : Names) (i j : ℕ) (m : Meaning) → HasKind o i (Group j) → StandsFor o words names j m → StandsFor o words names i m
    negation : (names : Names) (i j : ℕ) (p : Proposition)
        → HasKind o i (Not j)
        → StandsFor o words names j (claim p)
        → StandsFor o words names i (claim (negated p))
    keeps : (names : Names) (i j : ℕ) (p : Proposition)
        → HasKind o i (Keeps j)
        → StandsFor o words names j (claim p)
        → is_primed (claim p) ≡ false
        → StandsFor o words names i (claim (keeping p))
    inverted : (names : Names) (i j : ℕ) (m : Meaning) (e : Expression)
        → HasKind o i (Inverse j)
        → StandsFor o words names j m
        → value_of m ≡ Some e
        → StandsFor o words names i (value (inverse 0 e))
    operation : (names : Names) (i j k : ℕ) (f : operator.Operator) (m n r : Meaning)
        → HasKind o i (Operate f j k)
        → StandsFor o words names j m
        → StandsFor o words names k n
        → operated f m n ≡ Some r
        → StandsFor o words names i r
    comparison : (names : Names) (i j k : ℕ) (c : outline.Comparison) (m n : Meaning) (p : Proposition)
        → HasKind o i (Compare c j k)
        → StandsFor o words names j m
        → StandsFor o words names k n
        → comparing c m n ≡ Some p
        → StandsFor o words names i (claim p)
    junction : (names : Names) (i j k : ℕ) (c : Junction) (p q : Proposition)
        → HasKind o i (Join c j k)
        → StandsFor o words names j (claim p)
        → StandsFor o words names k (claim q)
        → StandsFor o words names i (claim (joined c p q))
    conditional : (names : Names) (i j k : ℕ) (c : Conditional) (p q : Proposition)
        → HasKind o i (Imply c j k)
        → StandsFor o words names j (claim p)
        → StandsFor o words names k (claim q)
        → StandsFor o words names i (claim (implied c p q))
    choice : (names : Names) (i j k l : ℕ) (p : Proposition) (m n r : Meaning)
        → HasKind o i (Choice j k l)
        → StandsFor o words names j (claim p)
        → StandsFor o words names k m
        → StandsFor o words names l n
        → IsValue m
        → IsValue n
        → choosing p m n ≡ Some r
        → StandsFor o words names i r
    instances : (names : Names) (i : ℕ) (b : Binder) (index : Span) (range body : ℕ) (zs : List ℤ) (ms : List Meaning) (m : Meaning)
        → HasKind o i (Bound b index range body)
        → IsUnbound names (text_of o index)
        → RangeIs o words names range zs
        → InstancesStandFor o words names b (text_of o index) body zs ms
        → IsCollected b ms m
        → StandsFor o words names i m
    unchanged : (names : Names) (i : ℕ) (l : written.List) (ks : List ℕ) (p : Proposition)
        → HasKind o i (Unchanged l)
        → WordsStandFor o words names (listed o l) ks
        → IsConjunction (map same_word ks) p
        → StandsFor o words names i (claim p)
    unchanged_but : (names : Names) (i : ℕ) (l : written.List) (but : List ℕ) (p : Proposition)
        → HasKind o i (UnchangedBut l)
        → WordsStandFor o words names (listed o l) but
        → IsUnchanged words but p
        → StandsFor o words names i (claim p)
    -- a parameter or an index, which has no arguments; a number has no prime
    bound : (names : Names) (i k : ℕ) (name : Span) (l : written.List) (is_next : Bool) (m r : Meaning)
        → HasKind o i (Name name l false is_next)
        → Binds names k (text_of o name) m
        → listed o l ≡ []
        → (is_next ≡ true → IsWhole m → ⊥)
        → IsUsed is_next m r
        → StandsFor o words names i r
    -- the number of a part in its family
    number_of_part : (names : Names) (i : ℕ) (name : Span) (l : written.List) (z : ℤ)
        → HasKind o i (Name name l false false)
        → Knows o names name (part_number z)
        → listed o l ≡ []
        → StandsFor o words names i (whole z)
    -- a name for a tree, with arguments for its parameters
    named : (names : Names)
        → (i body : ℕ) (name : Span) (l : written.List) (has_arguments is_next : Bool) (parameters : List (List ℕ)) (ms : List Meaning) (m r : Meaning)
        → HasKind o i (Name name l has_arguments is_next)
        → Knows o names name (tree parameters body)
        → HasArguments o has_arguments l
        → AllStandFor o words names (listed o l) ms
        → length ms ≡ length parameters
        → StandsFor o words (inside names (bound_to parameters ms)) body m
        → IsUsed is_next m r
        → StandsFor o words names i r
    -- a word, or the member of a family that an index over words chooses
    selection : (names : Names) (i : ℕ) (name : Span) (l : written.List) (is_next : Bool) (s : Selected) (r : Meaning)
        → HasKind o i (Name name l false is_next)
        → Selects o words names name l s
        → IsUsed is_next (value (selected_value s)) r
        → StandsFor o words names i r

  -- what a name with indices selects
  pub data Selects (o : Outline) (words : List Word) : Names → Span → written.List → Selected → Type 0 where
    -- a word, with numbers for its indices
    single : (names : Names) (w : ℕ) (name : Span) (l : written.List) (ranges : List (ℤ × ℤ)) (zs : List ℤ)
        → Knows o names name (family ranges)
        → AllStandFor o words names (listed o l) (map (λ z. whole z) zs)
        → length zs ≡ length ranges
        → AreWithin ranges zs
        → IsMember words (text_of o name) zs w
        → Selects o words names name l (one w)
    -- the members that one index over words may choose, in the width of the index; the indices before it and after it are numbers
    several : (names : Names) (v : ℕ) (name : Span) (l : written.List) (earlier later : List (ℤ × ℤ)) (range : ℤ × ℤ)
        → (before after : List ℤ) (e : Expression) (width : ℕ) (c : Candidate) (cs : List Candidate)
        → Knows o names name (family (earlier ++ range ∷ later))
        → AllStandFor o words names (listed o l) (map (λ z. whole z) before ++ value e ∷ map (λ z. whole z) after)
        → length before ≡ length earlier
        → length after ≡ length later
        → AreWithin earlier before
        → AreWithin later after
        → first_word e ≡ Some v
        → slice_get (widths_of words) v ≡ Some width
        → AreCandidates words (text_of o name) before after (filter (fits width) (numbers range.0 range.1)) (c ∷ cs)
        → Selects o words names name l (among e c cs)

  -- expressions stand for these, one by one
  pub data AllStandFor (o : Outline) (words : List Word) : Names → List ℕ → List Meaning → Type 0 where
    none : (names : Names) → AllStandFor o words names [] []
    also : (names : Names) (i : ℕ) (is : List ℕ) (m : Meaning) (ms : List Meaning)
        → StandsFor o words names i m
        → AllStandFor o words names is ms
        → AllStandFor o words names (i ∷ is) (m ∷ ms)

  -- the numbers of a range, without those that are left out
  pub data RangeIs (o : Outline) (words : List Word) : Names → ℕ → List ℤ → Type 0 where
    range : (names : Names) (i first last : ℕ) (but : written.List) (span : Span) (a b : ℤ) (left_out : List ℤ)
        → slice_get o.written.ranges.items i ≡ Some (record { first = first; last = last; without = but; span = span })
        → StandsFor o words names first (whole a)
        → StandsFor o words names last (whole b)
        → AllStandFor o words names (listed o but) (map (λ z. whole z) left_out)
        → RangeIs o words names i (without left_out (numbers a b))

  -- a tree with an index that is each of these numbers
  pub data InstancesStandFor (o : Outline) (words : List Word) : Names → Binder → List ℕ → ℕ → List ℤ → List Meaning → Type 0 where
    no_number : (names : Names) (b : Binder) (index : List ℕ) (body : ℕ) → InstancesStandFor o words names b index body [] []
    number_and_more : (names : Names) (b : Binder) (index : List ℕ) (body : ℕ) (z : ℤ) (zs : List ℤ) (m : Meaning) (ms : List Meaning)
        → StandsFor o words (with_number names index z) body m
        → IsInstance b m
        → InstancesStandFor o words names b index body zs ms
        → InstancesStandFor o words names b index body (z ∷ zs) (m ∷ ms)

  -- the words of a list in their order: a family without its last indices stands for all its members with the first ones
  pub data WordsStandFor (o : Outline) (words : List Word) : Names → List ℕ → List ℕ → Type 0 where
    no_words : (names : Names) → WordsStandFor o words names [] []
    words_and_more : (names : Names) (i : ℕ) (is : List ℕ) (name : Span) (l : written.List) (ranges : List (ℤ × ℤ)) (zs : List ℤ) (ks rest : List ℕ)
        → HasKind o i (Name name l false false)
        → Knows o names name (family ranges)
        → AllStandFor o words names (listed o l) (map (λ z. whole z) zs)
        → AreWithin ranges zs
        → AreMembers words (text_of o name) (members (drop (length zs) ranges) (zs ∷ [])) ks
        → WordsStandFor o words names is rest
        → WordsStandFor o words names (i ∷ is) (ks ++ rest)
