-- What only proofs need.
use Rattle.std.specs.Prelude.{◌≡◌, ℕ, ◌<◌, ℤ, pos, Bool, true, List, [], ◌∷◌, length, map, drop, Option, Some, None, slice_set}
use Rattle.rg_words.specs.Layout.{Word}
use Rattle.rg_tree.specs.Trees.{Expression}
use Rattle.rg_outline_meaning.specs.Meanings.{Meaning, whole, value}
use Rattle.rg_outline_syntax.specs.declared.written.Binder.{Binder}
use Rattle.rg_outline_syntax.specs.declared.written.Junction.{Junction}
use Rattle.rg_outline_syntax.specs.declared.written.ExpressionKind.TheVariants.{Join}
use Rattle.rg_outline_syntax.specs.declared.span.Span.{Span}
use Rattle.rg_outline_meaning.specs.Names.{Outline, text_of, HasKind, Names, IsUnbound, Knows, family, Bound, bound_to}
use Rattle.rg_outline_meaning.specs.Members.{AreWithin, members, IsMember, AreMembers, Candidate}
use Rattle.rg_outline_meaning.specs.Expressions.{AllStandFor, RangeIs, InstancesStandFor, IsCollected, IsWhole, combined, of_nothing}

-- numbers that are the meanings of indices, but for a value over words at a place
abbrev pub AreIndices : List Meaning → List ℤ → Option (ℕ × Expression) → Type 0
AreIndices ms zs None = ms ≡ map (λ z. whole z) zs
AreIndices ms zs (Some c) = (c.0 < length zs) × (ms ≡ slice_set (map (λ z. whole z) zs) c.0 (value c.1))

-- what expressions stand for, under the names of parameters, of which there are as many
abbrev pub AreArguments : Outline → List Word → Names → List ℕ → List (List ℕ) → List Bound → Type 0
AreArguments o words names is parameters bs =
    (ms : List Meaning)
    × AllStandFor o words names is ms
    × (length ms ≡ length parameters)
    × (bs ≡ bound_to parameters ms)

-- a chain of `and` and `or`: an expression has these links, the last of them innermost, and this first operand
abbrev pub Descends : Outline → ℕ → List (Junction × ℕ) → ℕ → Type 0
Descends o i [] first = i ≡ first
Descends o i (l ∷ links) first = (left : ℕ) × HasKind o i (Join l.0 left l.1) × Descends o left links first

-- what is made of the instances so far, if there are any, and of the next one
abbrev pub IsCollectedWith : Binder → Option Meaning → Meaning → Meaning → Type 0
IsCollectedWith b None next m = m ≡ next
IsCollectedWith b (Some before) next m = combined b before next ≡ Some m

-- what is made of all instances
abbrev pub of_all : Binder → Option Meaning → Meaning
of_all b None = of_nothing b
of_all b (Some m) = m

-- the words of a family with these first indices
abbrev pub AreWordsOf : Outline → List Word → Names → Span → List ℤ → List ℕ → Type 0
AreWordsOf o words names name zs ks =
    (ranges : List (ℤ × ℤ))
    × Knows o names name (family ranges)
    × AreWithin ranges zs
    × AreMembers words (text_of o name) (members (drop (length zs) ranges) (zs ∷ [])) ks

-- a number has no prime
abbrev pub MayBePrimed : Bool → Meaning → Type 0
MayBePrimed is_primed m = is_primed ≡ true → IsWhole m → ⊥

-- what a quantifier or a sum stands for
pub record StandForInstances (o : Outline) (words : List Word) (names : Names) (b : Binder) (index : List ℕ) (range body : ℕ) (m : Meaning) : Type 0 where
  pub zs : List ℤ
  pub ms : List Meaning
  pub fresh : IsUnbound names index
  pub numbers : RangeIs o words names range zs
  pub each : InstancesStandFor o words names b index body zs ms
  pub made : IsCollected b ms m

-- the members with these indices, but for the one at a place, whose numbers there are these
abbrev pub AreCandidatesAt : List Word → List ℕ → List ℤ → ℕ → List ℤ → List Candidate → Type 0
AreCandidatesAt words name zs place [] [] = Unit {0}
AreCandidatesAt words name zs place (z ∷ rest) (c ∷ cs) =
    (z ≡ pos c.number)
    × IsMember words name (slice_set zs place z) c.word
    × AreCandidatesAt words name zs place rest cs
AreCandidatesAt words name zs place [] (c ∷ cs) = ⊥
AreCandidatesAt words name zs place (z ∷ rest) [] = ⊥
