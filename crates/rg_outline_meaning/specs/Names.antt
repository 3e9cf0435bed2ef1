-- Names of an outline, and what they stand for. A name of the outline or of a part is new where it is declared, and known from there on, in the order of the
-- bytes. A parameter or an index is known in its tree alone, and there it goes before a name that is the same. The tree of a name, and its statements, know no
-- parameters and indices but their own.
use Rattle.std.specs.Prelude.{◌≡◌, ◌≢◌, ℕ, ◌-◌, ◌≤◌, ℤ, Bool, false, List, [], ◌∷◌, ◌++◌, take, drop, map, All, Some, slice_get}
use Rattle.rg_outline_syntax.specs.declared.span.Span.{Span}
use Rattle.rg_outline_syntax.specs.declared.written.List as written
use Rattle.rg_outline_syntax.specs.declared.written.Written.{Written}
use Rattle.rg_outline_syntax.specs.declared.written.ExpressionKind.{ExpressionKind}
use Rattle.rg_outline_meaning.specs.Meanings.{Meaning, whole}

-- an outline: its bytes, and the trees that they were read as
pub record Outline : Type 0 where
  pub source : List ℕ
  pub written : Written

-- the bytes of a name
abbrev pub text_of : Outline → Span → List ℕ
text_of o s = take (s.end - s.start) (drop s.start o.source)

-- the elements of a list that a `List` of the trees is
abbrev pub piece_of : {A : Type 0} → List A → written.List → List A
piece_of items l = take (l.end - l.start) (drop l.start items)

abbrev pub listed : Outline → written.List → List ℕ
listed o l = piece_of o.written.listed.items l

-- the names of the parameters in a list
abbrev pub parameters_of : Outline → written.List → List (List ℕ)
parameters_of o l = map (text_of o) (piece_of o.written.names.items l)

-- an expression is of a kind
abbrev pub HasKind : Outline → ℕ → ExpressionKind → Type 0
HasKind o i kind = (span : Span) × (slice_get o.written.expressions.items i ≡ Some (record { kind = kind; span = span }))

-- what a name of the outline or of a part stands for: a word, or words with these first and last numbers of indices; a tree or statements with parameters; the
-- number of a part in its family
pub data Sense : Type 0 where
  family : List (ℤ × ℤ) → Sense
  tree : List (List ℕ) → ℕ → Sense
  statements : List (List ℕ) → List ℕ → Sense
  part_number : ℤ → Sense

-- with the place of the outline after which it is known
pub record Known : Type 0 where
  pub name : List ℕ
  pub since : ℕ
  pub sense : Sense

-- a parameter or an index
pub record Bound : Type 0 where
  pub name : List ℕ
  pub meaning : Meaning

-- the names that are known at a place: those of the outline and the part in their order, then parameters and indices
pub record Names : Type 0 where
  pub known : List Known
  pub bound : List Bound

-- no parameter or index is called so
abbrev pub IsUnbound : Names → List ℕ → Type 0
IsUnbound names name = All (λ b. b.name ≢ name) names.bound

-- nothing is called so
abbrev pub IsNew : Names → List ℕ → Type 0
IsNew names name = All (λ k. k.name ≢ name) names.known × IsUnbound names name

-- no two of these names are equal
abbrev pub AreDifferent : List (List ℕ) → Type 0
AreDifferent [] = Unit {0}
AreDifferent (name ∷ rest) = All (λ other. other ≢ name) rest × AreDifferent rest

-- the parameters of a name
abbrev pub parameters_in : Sense → List (List ℕ)
parameters_in (family ranges) = []
parameters_in (tree parameters body) = parameters
parameters_in (statements parameters body) = parameters
parameters_in (part_number z) = []

-- a name of the outline or the part stands for this
abbrev pub IsAmong : List Known → List ℕ → ℕ → Sense → Type 0
IsAmong known name since sense = (k : ℕ) × (slice_get known k ≡ Some (record { name = name; since = since; sense = sense }))

-- the same where it is used: after its declaration, and not where a parameter or an index is called so. The bytes of used files stand first, so that they may
-- have a parameter with the name of a word of the file that uses them
abbrev pub Knows : Outline → Names → Span → Sense → Type 0
Knows o names name sense =
    ((since : ℕ) × IsAmong names.known (text_of o name) since sense × (since ≤ name.start))
    × IsUnbound names (text_of o name)

-- the name at a place of the parameters and indices
abbrev pub Binds : Names → ℕ → List ℕ → Meaning → Type 0
Binds names k name m = slice_get names.bound k ≡ Some (record { name = name; meaning = m })

-- with an index that is a number
abbrev pub with_number : Names → List ℕ → ℤ → Names
with_number names name z = record { known = names.known; bound = names.bound ++ record { name = name; meaning = whole z } ∷ [] }

-- arguments stand in `(..)`: what stands in `[..]` are indices
abbrev pub HasArguments : Outline → Bool → written.List → Type 0
HasArguments o has_arguments l = has_arguments ≡ false → listed o l ≡ []

-- what is known in the tree of a name: of parameters and indices only its own
abbrev pub inside : Names → List Bound → Names
inside names bound = record { known = names.known; bound = bound }

-- parameters with their arguments, one by one
abbrev pub bound_to : List (List ℕ) → List Meaning → List Bound
bound_to [] ms = []
bound_to (name ∷ rest) [] = []
bound_to (name ∷ rest) (m ∷ ms) = record { name = name; meaning = m } ∷ bound_to rest ms
