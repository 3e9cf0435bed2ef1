-- Expressions and formulas, without where they lie in memory.
use Rattle.std.specs.Prelude.{ℕ, Bool}
use Rattle.rg_words.specs.declared.operators.Operator.{Operator}
use Rattle.rg_words.specs.declared.operators.Shift.{Shift}
use Rattle.rg_words.specs.declared.operators.Comparison.{Comparison}
use Rattle.rg_words.specs.declared.operators.Connective.{Connective}

-- an expression and a formula: a word is its place among the declared words, from 0, and a number or an operation on numbers has its width before it
mutual
  pub data Expression : Type 0 where
    number : ℕ → ℕ → Expression
    word : ℕ → Expression
    next_word : ℕ → Expression
    inverse : ℕ → Expression → Expression
    binary : Operator → ℕ → Expression → Expression → Expression
    shifted : Shift → ℕ → Expression → ℕ → Expression
    choice : Proposition → Expression → Expression → Expression

  pub data Proposition : Type 0 where
    truth : Bool → Proposition
    negation : Proposition → Proposition
    connected : Connective → Proposition → Proposition → Proposition
    compared : Comparison → Expression → Expression → Proposition

-- an assignment to a word
pub record Assignment : Type 0 where
  pub target : ℕ
  pub value : Expression
