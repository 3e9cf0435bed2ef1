-- A start of a program: what plain equations of its pre say, where that is inside the pre.
use Rattle.std.specs.Prelude.{◌≡◌, ℕ, ◌+◌, ◌^◌, nat_eq, nat_lt, true, List, [], ◌∷◌, ◌++◌, codes, map, Option, Some, None, IfSome, if◌then◌else◌}
use Rattle.std.specs.Option.{option_or, option_map_or}
use Rattle.std.specs.Fmt.{decimal}
use Rattle.rg_words.specs.declared.operators.Connective.TheVariants.{And}
use Rattle.rg_words.specs.declared.operators.Comparison.TheVariants.{Equal}
use Rattle.rg_words.specs.Layout.{Word, IsLayout}
use Rattle.rg_words.specs.States.{IsState}
use Rattle.rg_tree.specs.Trees.{Proposition, number, word, connected, compared}
use Rattle.rg_tree.specs.Statements.{ProgramTree}
use Rattle.rg_tree.specs.TypedPrograms.{IsTypedProgram}
use Rattle.rg_tree.specs.Traces.{State, holds_at}
use Rattle.rg_c_plan.specs.Accesses.{places}
use Rattle.rg_c_values.specs.Arrays.{member_of}
use Rattle.rg_c.specs.Heads.{start_lines}

-- the number that a formula gives the k-th word: that of its first conjunct of the form (word = number) or (number = word)
abbrev pub given : ℕ → Proposition → Option ℕ
given k (connected And f g) = option_or (given k f) (given k g)
given k (compared Equal (word j) (number w n)) = if nat_eq k j then Some n else None
given k (compared Equal (number w n) (word j)) = if nat_eq k j then Some n else None
given k f = None

-- the value that it gives the k-th word; 0 where it gives none
abbrev pub given_value : Proposition → ℕ → ℕ
given_value f k = option_map_or (λ n. n) (given k f) 0

-- and all words
abbrev pub given_values : List Word → Proposition → State
given_values words f = map (given_value f) (places words)

-- the state that the pre gives, where it is inside the pre
abbrev pub start_of : ProgramTree → Option State
start_of p = if holds_at p.spec.pre (given_values p.words p.spec.pre) then Some (given_values p.words p.spec.pre) else None

-- a start is a state of the words, inside the pre
abbrev pub StartsAreInside : Type 0
StartsAreInside = (p : ProgramTree) → IsLayout p.words → IsTypedProgram p → IfSome (start_of p) (λ s. IsState p.words s × (holds_at p.spec.pre s ≡ true))

-- a number as a constant of C
unfoldable pub constant_text : ℕ → List ℕ
constant_text n = if nat_lt n (2 ^ 32) then decimal n ++ codes "u" else codes "UINT64_C(" ++ (decimal n ++ codes ")")

-- the k-th member and its value
abbrev pub member_text : List Word → ℕ → ℕ → List ℕ
member_text words k n = codes "." ++ (member_of words k ++ (codes " = " ++ constant_text n))

-- members from the k-th one on, each after a comma
abbrev pub more_members : List Word → ℕ → State → List ℕ
more_members words k [] = []
more_members words k (n ∷ s) = codes ", " ++ (member_text words k n ++ more_members words (k + 1) s)

-- all members, with commas between them
abbrev pub members_text : List Word → State → List ℕ
members_text words [] = []
members_text words (n ∷ s) = member_text words 0 n ++ more_members words 1 s

-- a start of a program with this name, as a macro; nothing where none is known
unfoldable pub start_text : List ℕ → ProgramTree → List ℕ
start_text name p = option_map_or (λ s. start_lines name (members_text p.words s)) (start_of p) []
