-- An expression of C in the code, without where it lies in memory.
use Rattle.rg_c_values.specs.declared.tree.Value.{Value}
use Rattle.rg_c_values.specs.declared.tree.Value.TheVariants.{Literal, Word, Cast', Inverse', Binary', Rest', Shifted', Choice'}
use Rattle.rg_c_values.specs.declared.tree.Test.{Test}
use Rattle.rg_c_values.specs.declared.tree.Test.TheVariants.{Truth, Not', Joined', Compared}
use Rattle.rg_c_values.specs.CTrees.{CValue, CTest, c_literal, c_word, c_cast, c_inverse, c_binary, c_rest, c_shifted, c_choice, c_truth, c_not, c_joined, c_compared}

abbrev mutual
  -- a value of the code
  pub value : Value → CValue
  value (Literal n) = c_literal n
  value (Word c k) = c_word c k
  value (Cast' n p v) = c_cast n (value v)
  value (Inverse' g p v) = c_inverse g (value v)
  value (Binary' o g p a q b) = c_binary o g (value a) (value b)
  value (Rest' g p v n) = c_rest g (value v) n
  value (Shifted' d g p v k) = c_shifted d g (value v) k
  value (Choice' p t q a r b) = c_choice (test t) (value a) (value b)

  -- a test of the code
  pub test : Test → CTest
  test (Truth b) = c_truth b
  test (Not' p t) = c_not (test t)
  test (Joined' j p t q u) = c_joined j (test t) (test u)
  test (Compared c a b) = c_compared c (value a) (value b)
