-- Expressions of C, without where they lie in memory.
use Rattle.std.specs.Prelude.{ℕ, Bool}
use Rattle.rg_words.specs.declared.operators.Operator.{Operator}
use Rattle.rg_words.specs.declared.operators.Shift.{Shift}
use Rattle.rg_words.specs.declared.operators.Comparison.{Comparison}
use Rattle.rg_c_values.specs.declared.tree.Joint.{Joint}

-- a value and a test: an operation, a cast and a word have the bits of their unsigned type before them; a word is its place among the declared words, from 0;
-- a rest is what a division by the number leaves
mutual
  pub data CValue : Type 0 where
    c_literal : ℕ → CValue
    c_word : ℕ → ℕ → CValue
    c_cast : ℕ → CValue → CValue
    c_inverse : ℕ → CValue → CValue
    c_binary : Operator → ℕ → CValue → CValue → CValue
    c_rest : ℕ → CValue → ℕ → CValue
    c_shifted : Shift → ℕ → CValue → ℕ → CValue
    c_choice : CTest → CValue → CValue → CValue

  pub data CTest : Type 0 where
    c_truth : Bool → CTest
    c_not : CTest → CTest
    c_joined : Joint → CTest → CTest → CTest
    c_compared : Comparison → CValue → CValue → CTest
