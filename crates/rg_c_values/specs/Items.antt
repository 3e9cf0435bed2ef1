-- Choices that are an item of an array at an index, as (E == 0 ? slot[0] : E == 1 ? slot[1] : slot[2]), which is slot[E] where E is below 3.
use Rattle.std.specs.Prelude.{◌≡◌, ℕ, ◌+◌, ◌<◌, ◌^◌, Bool, true, false, ◌&&◌, nat_eq, nat_lt, nat_le, List, length, Option, Some, None, slice_index, slice_index_or, if◌then◌else◌}
use Rattle.std.specs.List.{list_all, range_with_len}
use Rattle.std.specs.Option.{option_map_or}
use Rattle.rg_words.specs.declared.operators.Operator.{Operator}
use Rattle.rg_words.specs.declared.operators.Operator.TheVariants.{Add, Subtract, BitAnd, BitOr, BitXor}
use Rattle.rg_words.specs.declared.operators.Comparison.{Comparison}
use Rattle.rg_words.specs.declared.operators.Comparison.TheVariants.{Equal}
use Rattle.rg_words.specs.Layout.{Word, widths_of, IsLayout}
use Rattle.rg_words.specs.States.{IsState}
use Rattle.rg_c_values.specs.declared.print.Read.{Read}
use Rattle.rg_c_values.specs.declared.print.Read.TheVariants.{Plain, Load, Local}
use Rattle.rg_c_values.specs.CTrees.{CValue, CTest, c_literal, c_word, c_cast, c_inverse, c_binary, c_rest, c_shifted, c_choice, c_truth, c_not, c_joined, c_compared}
use Rattle.rg_c_values.specs.Arithmetic.{c_value}
use Rattle.rg_c_values.specs.Arrays.{array_length}

-- two operators are the same
abbrev pub is_operator : Operator → Operator → Bool
is_operator Add Add = true
is_operator Subtract Subtract = true
is_operator BitAnd BitAnd = true
is_operator BitOr BitOr = true
is_operator BitXor BitXor = true
is_operator o p = false

-- two values are the same: words, numbers, casts, remainders and operations on such
abbrev pub is_value : CValue → CValue → Bool
is_value (c_literal n) (c_literal m) = nat_eq n m
is_value (c_word c k) (c_word d j) = nat_eq c d && nat_eq k j
is_value (c_cast n v) (c_cast m u) = nat_eq n m && is_value v u
is_value (c_binary o g a b) (c_binary p h c d) = (is_operator o p && nat_eq g h) && (is_value a c && is_value b d)
is_value (c_rest g v n) (c_rest h u m) = (nat_eq g h && nat_eq n m) && is_value v u
is_value v u = false

-- the word that a value is, perhaps cast
abbrev pub word_in : CValue → Option ℕ
word_in (c_word c k) = Some k
word_in (c_cast n v) = word_in v
word_in v = None

-- what such a value is of the j-th word
abbrev pub with_word : ℕ → CValue → CValue
with_word j (c_word c k) = c_word c j
with_word j (c_cast n v) = c_cast n (with_word j v)
with_word j v = v

-- the second value is that
abbrev pub is_with_word : ℕ → CValue → CValue → Bool
is_with_word j (c_word c k) (c_word d i) = nat_eq c d && nat_eq i j
is_with_word j (c_cast n v) (c_cast m u) = nat_eq n m && is_with_word j v u
is_with_word j v u = false

-- the test is that this index is the number i
abbrev pub is_at : CValue → ℕ → CTest → Bool
is_at e i (c_compared Equal a (c_literal n)) = is_value e a && nat_eq i n
is_at e i t = false

-- a value is the i-th item of n where the index e is i, the next one where it is one more, and so on; the last one where it is none of these. The items are what a is,
-- of the words from the k-th one on
abbrev pub chooses : CValue → CValue → ℕ → ℕ → ℕ → CValue → Bool
chooses e a k n i (c_choice t b c) = (nat_lt (i + 1) n && is_at e i t) && (is_with_word (k + i) a b && chooses e a k n (i + 1) c)
chooses e a k n i v = nat_eq (i + 1) n && is_with_word (k + i) a v

-- a value is a number below n
abbrev pub is_number_below : ℕ → CValue → Bool
is_number_below n (c_literal m) = nat_lt m n
is_number_below n v = false

-- a value is seen to be below n: by the width of a word, by a mask, or by what it is the remainder of
abbrev pub is_below : List Word → ℕ → CValue → Bool
is_below words n (c_word c k) = nat_lt k (length words) && nat_le (2 ^ slice_index (widths_of words) k) n
is_below words n (c_cast g v) = is_below words n v
is_below words n (c_binary BitAnd g v u) = is_number_below n u
is_below words n (c_rest g v m) = nat_lt 0 m && nat_le m n
is_below words n v = false

-- how the k-th word is read
abbrev pub read_of : List Read → ℕ → Read
read_of reads k = slice_index_or reads k Plain

-- both are read from the struct, or both by a load
abbrev pub is_read_alike : Read → Read → Bool
is_read_alike Plain Plain = true
is_read_alike Load Load = true
is_read_alike r s = false

-- n words from the k-th one on are read alike
abbrev pub are_read_alike : List Read → ℕ → ℕ → Bool
are_read_alike reads k n = list_all (λ i. is_read_alike (read_of reads k) (read_of reads (k + i))) (range_with_len 0 n)

-- a value is the item at the index e of the array that begins at the k-th word; the items are what a is
abbrev pub is_item_at : List Word → List Read → CValue → CValue → ℕ → CValue → Bool
is_item_at words reads e a k v =
    let n = array_length words k in
    (nat_lt 1 n && are_read_alike reads k n) && (is_below words n e && chooses e a k n 0 v)

-- where the array begins of which a value is an item at an index, if it is one
abbrev pub item_in : List Word → List Read → CValue → Option ℕ
item_in words reads (c_choice (c_compared c e u) a b) =
    option_map_or (λ k. if nat_lt k (length words) && is_item_at words reads e a k (c_choice (c_compared c e u) a b) then Some k else None) (word_in a) None
item_in words reads v = None

-- what is written as an item of an array is one: the index is within the array, the value is the word's at that place, and this is read as the first one is
abbrev pub ItemsAreRight : Type 0
ItemsAreRight =
    (words : List Word) (s : List ℕ) → IsLayout words → IsState words s →
    (reads : List Read) (c : Comparison) (e u a b : CValue) (k : ℕ) → item_in words reads (c_choice (c_compared c e u) a b) ≡ Some k →
    let i = c_value e s in
    (i < array_length words k) × (c_value (c_choice (c_compared c e u) a b) s ≡ c_value (with_word (k + i) a) s) × (read_of reads (k + i) ≡ read_of reads k)
