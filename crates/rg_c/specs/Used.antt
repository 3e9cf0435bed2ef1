-- Whether the local of a step that loads a word is read.
use Rattle.std.specs.Prelude.{ℕ, Bool, false, ◌||◌, nat_eq, List}
use Rattle.std.specs.List.{list_any}
use Rattle.std.specs.Option.{option_map_or}
use Rattle.rg_c_values.specs.CTrees.{CValue, CTest, c_literal, c_word, c_cast, c_inverse, c_binary, c_rest, c_shifted, c_choice, c_truth, c_not, c_joined, c_compared}
use Rattle.rg_c.specs.Assigned.{GivenTree}

abbrev mutual
  -- a word stands in a value
  pub value_reads : ℕ → CValue → Bool
  value_reads x (c_literal n) = false
  value_reads x (c_word g k) = nat_eq x k
  value_reads x (c_cast n v) = value_reads x v
  value_reads x (c_inverse g v) = value_reads x v
  value_reads x (c_binary o g a b) = value_reads x a || value_reads x b
  value_reads x (c_rest g v n) = value_reads x v
  value_reads x (c_shifted d g v k) = value_reads x v
  value_reads x (c_choice t a b) = test_reads x t || (value_reads x a || value_reads x b)

  -- it stands in a test
  pub test_reads : ℕ → CTest → Bool
  test_reads x (c_truth b) = false
  test_reads x (c_not t) = test_reads x t
  test_reads x (c_joined j t u) = test_reads x t || test_reads x u
  test_reads x (c_compared c a b) = value_reads x a || value_reads x b

-- it stands in the value of an assignment, or in its test
abbrev pub given_reads : ℕ → GivenTree → Bool
given_reads x g = option_map_or (test_reads x) g.test false || value_reads x g.value

-- it stands in a step with this test and these assignments
abbrev pub is_used : ℕ → CTest → List GivenTree → Bool
is_used x t gs = test_reads x t || list_any (given_reads x) gs
