-- What lies within a circuit, and the rows in vectors: words of the contracts of private functions alone.
use Rattle.std.specs.Prelude.{ℕ, List, [], get_or, map, Vec}
use Rattle.std.specs.Global.{Global}
use Rattle.rg_gates.specs.declared.Lit.{Lit}
use Rattle.rg_gates.specs.declared.Lit.TheVariants.{True}
use Rattle.rg_gates.specs.Circuit.{Circuit}
use Rattle.rg_gates.specs.Extends.{IsIn}
use Rattle.rg_rows.specs.declared.rows.BitOperation.{BitOperation}
use Rattle.rg_rows.specs.declared.rows.BitOperation.TheVariants.{Pick}

-- a row of literals of the circuit
pub record IsRowIn (c : Circuit) (row : List Lit) : Type 0 where
  pub bits : (k : ℕ) → IsIn c (get_or row k True)

-- both literals are of the circuit
pub record AreIn (c : Circuit) (both : Lit × Lit) : Type 0 where
  pub first : IsIn c both.0
  pub second : IsIn c both.1

-- the literal that an operation holds is of the circuit
abbrev pub IsOperationIn : Circuit → BitOperation → Type 0
IsOperationIn c (Pick l) = IsIn c l
IsOperationIn c _ = Unit {0}

-- a row of the circuit's literals for each word
pub record AreRowsIn (c : Circuit) (rows : List (List Lit)) : Type 0 where
  pub word : (k : ℕ) → IsRowIn c (get_or rows k [])

-- the rows in the vectors
unfoldable pub rows_of : List (Vec Lit Global) → List (List Lit)
rows_of rows = map (λ r. r.items) rows
