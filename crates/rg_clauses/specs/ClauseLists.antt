-- Literals are signed numbers, as in DIMACS: n is the variable n, and -n its negation.
use Rattle.std.specs.Prelude.{◌≡◌, ℕ, suc, ◌-◌, ◌<◌, ◌≤◌, ℤ, pos, negsuc, Bool, true, false, not, List, get_or, All, Contains}
use Rattle.std.specs.Int.RustNames.{unsigned_abs}

-- a literal of the variables 1 to n
pub record IsLiteral (n : ℕ) (x : ℤ) : Type 0 where
  pub nonzero : 0 < unsigned_abs x
  pub within : unsigned_abs x ≤ n

-- clauses, each a list of literals, and the count of variables, the first of which are inputs
pub record Cnf : Type 0 where
  pub inputs : ℕ
  pub variables : ℕ
  pub clauses : List (List ℤ)

-- each literal is one of the formula's variables
abbrev pub IsFormula : Cnf → Type 0
IsFormula f = All (All (IsLiteral f.variables)) f.clauses

-- a literal under values of the variables
abbrev pub literal_value : (ℕ → Bool) → ℤ → Bool
literal_value values (pos n) = values n
literal_value values (negsuc n) = not (values (suc n))

-- the value of a variable, in the list of the values of all: the first is of the variable 1
abbrev pub value_at : List Bool → ℕ → Bool
value_at values n = get_or values (n - 1) false

-- values satisfy a clause where they make a literal of it true
abbrev pub SatisfiesClause : (ℕ → Bool) → List ℤ → Type 0
SatisfiesClause values clause = (x : ℤ) × Contains clause x × (literal_value values x ≡ true)

-- values satisfy clauses where they satisfy each of them
abbrev pub Satisfies : (ℕ → Bool) → List (List ℤ) → Type 0
Satisfies values clauses = All (SatisfiesClause values) clauses

-- no values satisfy all clauses
abbrev pub IsUnsatisfiable : List (List ℤ) → Type 0
IsUnsatisfiable clauses = (values : ℕ → Bool) → Satisfies values clauses → ⊥
