-- The expressions of C for the values and tests of the language.
use Rattle.std.specs.Prelude.{ℕ, ◌^◌, Bool, true, false, ◌&&◌, not, nat_eq, nat_le, if◌then◌else◌, List, slice_index}
use Rattle.rg_words.specs.declared.operators.Operator.{Operator}
use Rattle.rg_words.specs.declared.operators.Operator.TheVariants.{Add, Subtract, BitAnd, BitOr, BitXor}
use Rattle.rg_words.specs.declared.operators.Shift.{Shift}
use Rattle.rg_words.specs.declared.operators.Shift.TheVariants.{Left, Right}
use Rattle.rg_words.specs.declared.operators.Connective.{Connective}
use Rattle.rg_words.specs.declared.operators.Connective.TheVariants as connectives
use Rattle.rg_c_values.specs.declared.tree.Joint.TheVariants.{And, Or, Same}
use Rattle.rg_tree.specs.Trees.{Expression, Proposition, number, word, next_word, inverse, binary, shifted, choice, truth, negation, connected, compared}
use Rattle.rg_c_values.specs.Simplified.{top, simplified, simplified_test}
use Rattle.rg_c_values.specs.CTrees.{CValue, CTest, c_literal, c_word, c_cast, c_inverse, c_binary, c_rest, c_shifted, c_choice, c_truth, c_not, c_joined, c_compared}

-- the bits of the least unsigned type that holds w bits
abbrev pub container : ℕ → ℕ
container w = if nat_le w 8 then 8 else if nat_le w 16 then 16 else if nat_le w 32 then 32 else 64

-- the bits of the type in which values of w bits are computed
abbrev pub computed : ℕ → ℕ
computed w = if nat_le w 32 then 32 else 64

-- the low w bits of a value
abbrev pub masked : ℕ → CValue → CValue
masked w v = if nat_eq w (computed w) then v else c_rest (computed w) v (2 ^ w)

-- the low w bits, or the value as it stands where only those of its bits count
abbrev pub masked_if : Bool → ℕ → CValue → CValue
masked_if whole w v = if whole then masked w v else v

-- the k-th word, of width w: as it is kept, and of the type in which it is computed
abbrev pub kept_word : ℕ → ℕ → CValue
kept_word w k = c_word (container w) k

abbrev pub read_word : ℕ → ℕ → CValue
read_word w k = if nat_eq (container w) (computed w) then kept_word w k else c_cast (computed w) (kept_word w k)

-- a value beside another one: a number needs no cast
abbrev pub beside : Expression → CValue → CValue
beside (number w n) v = c_literal n
beside (word k) v = v
beside (next_word k) v = v
beside (inverse w a) v = v
beside (binary o w a b) v = v
beside (shifted d w a k) v = v
beside (choice f a b) v = v

-- a value that nothing is computed with: a number and a word need no cast
abbrev pub alone : List ℕ → Expression → CValue → CValue
alone widths (number w n) v = c_literal n
alone widths (word k) v = kept_word (slice_index widths k) k
alone widths (next_word k) v = kept_word (slice_index widths k) k
alone widths (inverse w a) v = v
alone widths (binary o w a b) v = v
alone widths (shifted d w a k) v = v
alone widths (choice f a b) v = v

-- whether an expression is the greatest number of w bits
abbrev pub is_top : ℕ → Expression → Bool
is_top w (number v n) = nat_eq n (top w)
is_top w (word k) = false
is_top w (next_word k) = false
is_top w (inverse v a) = false
is_top w (binary o v a b) = false
is_top w (shifted d v a k) = false
is_top w (choice f a b) = false

-- an operation at w bits: sum and difference may pass them
abbrev pub operation_in_c : Bool → Operator → ℕ → CValue → CValue → CValue
operation_in_c whole Add w a b = masked_if whole w (c_binary Add (computed w) a b)
operation_in_c whole Subtract w a b = masked_if whole w (c_binary Subtract (computed w) a b)
operation_in_c whole BitAnd w a b = c_binary BitAnd (computed w) a b
operation_in_c whole BitOr w a b = c_binary BitOr (computed w) a b
operation_in_c whole BitXor w a b = c_binary BitXor (computed w) a b

-- all w bits turned
abbrev pub inverse_in_c : Bool → ℕ → CValue → CValue
inverse_in_c whole w a = masked_if whole w (c_inverse (computed w) a)

-- whether an operation with all bits of 1 turns the other operand
abbrev pub is_xor : Operator → Bool
is_xor Add = false
is_xor Subtract = false
is_xor BitAnd = false
is_xor BitOr = false
is_xor BitXor = true

-- an operation of two expressions with their values
abbrev pub binary_in_c : Bool → Operator → ℕ → Expression → CValue → Expression → CValue → CValue
binary_in_c whole o w a u b v =
    if is_xor o && is_top w b then inverse_in_c whole w u
    else if is_xor o && is_top w a then inverse_in_c whole w v
    else operation_in_c whole o w u (beside b v)

-- a shift by k at w bits, which leaves nothing where k reaches w
abbrev pub shift_in_c : Bool → Shift → ℕ → CValue → ℕ → CValue
shift_in_c whole Left w v k = if nat_le w k then c_cast (computed w) (c_literal 0) else masked_if whole w (c_shifted Left (computed w) v k)
shift_in_c whole Right w v k = if nat_le w k then c_cast (computed w) (c_literal 0) else c_shifted Right (computed w) v k

-- a connective of two tests
abbrev pub connected_in_c : Connective → CTest → CTest → CTest
connected_in_c connectives.And t u = c_joined And t u
connected_in_c connectives.Or t u = c_joined Or t u
connected_in_c connectives.Implies t u = c_joined Or (c_not t) u
connected_in_c connectives.Iff t u = c_joined Same t u

abbrev mutual
  -- an expression over words of these widths: whole, it is its value; else only the low bits are, as many as it is wide
  pub translated : List ℕ → Bool → Expression → CValue
  translated widths whole (number w n) = c_cast (computed w) (c_literal n)
  translated widths whole (word k) = read_word (slice_index widths k) k
  translated widths whole (next_word k) = read_word (slice_index widths k) k
  translated widths whole (inverse w a) = inverse_in_c whole w (translated widths true a)
  translated widths whole (binary o w a b) = binary_in_c whole o w a (translated widths true a) b (translated widths true b)
  translated widths whole (shifted d w a k) = shift_in_c whole d w (translated widths true a) k
  translated widths whole (choice f a b) = c_choice (tested widths f) (translated widths whole a) (beside b (translated widths whole b))

  -- a formula over words of these widths
  pub tested : List ℕ → Proposition → CTest
  tested widths (truth b) = c_truth b
  tested widths (negation f) = c_not (tested widths f)
  tested widths (connected c f g) = connected_in_c c (tested widths f) (tested widths g)
  tested widths (compared c a b) =
      c_compared c (alone widths a (translated widths true a)) (alone widths b (translated widths true b))

-- the value of an expression, of the type in which it is computed
abbrev pub value_in_c : List ℕ → Expression → CValue
value_in_c widths e = translated widths true (simplified e)

-- a formula
abbrev pub test_in_c : List ℕ → Proposition → CTest
test_in_c widths f = tested widths (simplified_test f)

-- what is stored into a word of width w: cast to its container, unless it has that type. Where the container has w bits, the cast cuts off what passes them
abbrev pub stored : List ℕ → ℕ → Expression → CValue
stored widths w e = alone widths e (
    if nat_eq (container w) (computed w) then translated widths true e
    else c_cast (container w) (translated widths (not (nat_eq w (container w))) e))

-- an expression as what is stored into a word of width w
abbrev pub stored_in_c : List ℕ → ℕ → Expression → CValue
stored_in_c widths w e = stored widths w (simplified e)
