-- The texts of expressions of C. Each operation of the language makes one pair of parentheses at most, so that they are nested as deep as it is.
use Rattle.std.specs.Prelude.{ℕ, Bool, true, false, List, [], ◌++◌, codes}
use Rattle.std.specs.Fmt.{decimal}
use Rattle.std.specs.Option.{option_map_or}
use Rattle.rg_words.specs.declared.operators.Operator.{Operator}
use Rattle.rg_words.specs.declared.operators.Operator.TheVariants.{Add, Subtract, BitAnd, BitOr, BitXor}
use Rattle.rg_words.specs.declared.operators.Shift.{Shift}
use Rattle.rg_words.specs.declared.operators.Shift.TheVariants.{Left, Right}
use Rattle.rg_words.specs.declared.operators.Comparison.{Comparison}
use Rattle.rg_words.specs.declared.operators.Comparison.TheVariants.{Equal, NotEqual, Less, LessOrEqual, Greater, GreaterOrEqual}
use Rattle.rg_words.specs.Layout.{Word}
use Rattle.rg_c_values.specs.declared.tree.Joint.{Joint}
use Rattle.rg_c_values.specs.declared.tree.Joint.TheVariants.{And, Or, Same}
use Rattle.rg_c_values.specs.declared.print.Read.{Read}
use Rattle.rg_c_values.specs.declared.print.Read.TheVariants.{Plain, Load, Local}
use Rattle.rg_c_values.specs.CNames.{c_name}
use Rattle.rg_c_values.specs.Arrays.{name_at, array_name, member_of}
use Rattle.rg_c_values.specs.Items.{read_of, item_in}
use Rattle.rg_c_values.specs.CTrees.{CValue, CTest, c_literal, c_word, c_cast, c_inverse, c_binary, c_rest, c_shifted, c_choice, c_truth, c_not, c_joined, c_compared}

-- how an operation is written
abbrev pub operator_text : Operator → List ℕ
operator_text Add = codes " + "
operator_text Subtract = codes " - "
operator_text BitAnd = codes " & "
operator_text BitOr = codes " | "
operator_text BitXor = codes " ^ "

-- how a shift is written
abbrev pub shift_text : Shift → List ℕ
shift_text Left = codes " << "
shift_text Right = codes " >> "

-- how a comparison is written
abbrev pub comparison_text : Comparison → List ℕ
comparison_text Equal = codes " == "
comparison_text NotEqual = codes " != "
comparison_text Less = codes " < "
comparison_text LessOrEqual = codes " <= "
comparison_text Greater = codes " > "
comparison_text GreaterOrEqual = codes " >= "

-- how two tests are joined
abbrev pub joint_text : Joint → List ℕ
joint_text And = codes " && "
joint_text Or = codes " || "
joint_text Same = codes " == "

-- how a truth is written
abbrev pub truth_text : Bool → List ℕ
truth_text true = codes "true"
truth_text false = codes "false"

-- a number
abbrev pub number_text : ℕ → List ℕ
number_text n = decimal n ++ codes "u"

-- a cast to the unsigned type of n bits
abbrev pub cast_text : ℕ → List ℕ
cast_text n = codes "(uint" ++ (decimal n ++ codes "_t)")

-- a word of this name in C, which is this member of the struct, as it is read: from the struct, by a load, or from a local
abbrev pub read_text : Read → List ℕ → List ℕ → List ℕ
read_text Plain name member = codes "w->" ++ member
read_text Load name member = codes "RGC_LOAD(&w->" ++ (member ++ codes ")")
read_text Local name member = name ++ codes "_"

-- the k-th word, read as is told for it
abbrev pub word_text : List Word → List Read → ℕ → List ℕ
word_text words reads k = read_text (read_of reads k) (c_name (name_at words k)) (member_of words k)

-- the casts of a word
abbrev pub casts_text : CValue → List ℕ
casts_text (c_cast n v) = cast_text n ++ casts_text v
casts_text v = []

-- what stands before a member of the struct that is read so, and behind it
abbrev pub read_before : Read → List ℕ
read_before Plain = codes "w->"
read_before Load = codes "RGC_LOAD(&w->"
read_before Local = []

abbrev pub read_after : Read → List ℕ
read_after Plain = []
read_after Load = codes ")"
read_after Local = []

-- what stands before the index of an item of the array that begins at the k-th word, and behind it; the first item is what a is
abbrev pub item_before : List Word → List Read → ℕ → CValue → List ℕ
item_before words reads k a = casts_text a ++ (read_before (read_of reads k) ++ (array_name words k ++ codes "["))

abbrev pub item_after : List Read → ℕ → List ℕ
item_after reads k = codes "]" ++ read_after (read_of reads k)

-- parentheses, unless the text stands bare
abbrev pub opening : Bool → List ℕ
opening true = []
opening false = codes "("

abbrev pub closing : Bool → List ℕ
closing true = []
closing false = codes ")"

abbrev pub enclosed : Bool → List ℕ → List ℕ
enclosed bare text = opening bare ++ (text ++ closing bare)

-- a choice of these three
abbrev pub choice_text : Bool → List ℕ → Bool → List ℕ → Bool → List ℕ → List ℕ
choice_text p t q a r b = enclosed p t ++ (codes " ? " ++ (enclosed q a ++ (codes " : " ++ enclosed r b)))

-- behind `~` and a cast, and before `%`, what binds tightest stands bare: literals, words, casts and `~`
abbrev pub is_tight : CValue → Bool
is_tight (c_literal n) = true
is_tight (c_word c k) = true
is_tight (c_cast n v) = true
is_tight (c_inverse g v) = true
is_tight (c_binary o g a b) = false
is_tight (c_rest g v n) = false
is_tight (c_shifted d g v k) = false
is_tight (c_choice t a b) = false

-- elsewhere so does `%`, which binds tighter than the other operators
abbrev pub is_bare : CValue → Bool
is_bare (c_literal n) = true
is_bare (c_word c k) = true
is_bare (c_cast n v) = true
is_bare (c_inverse g v) = true
is_bare (c_binary o g a b) = false
is_bare (c_rest g v n) = true
is_bare (c_shifted d g v k) = false
is_bare (c_choice t a b) = false

-- truths and `!` stand bare
abbrev pub is_bare_test : CTest → Bool
is_bare_test (c_truth b) = true
is_bare_test (c_not t) = true
is_bare_test (c_joined j t u) = false
is_bare_test (c_compared c a b) = false

-- a chain of `&&`, or one of `||`, goes on
abbrev pub is_chain : Joint → Joint → Bool
is_chain And And = true
is_chain And Or = false
is_chain And Same = false
is_chain Or And = false
is_chain Or Or = true
is_chain Or Same = false
is_chain Same And = false
is_chain Same Or = false
is_chain Same Same = false

-- `!` needs no parentheses before `&&` and `||`; before `==` it has some, as compilers ask for them
abbrev pub is_loose : Joint → Bool
is_loose And = true
is_loose Or = true
is_loose Same = false

-- as first of two that are joined, a chain of the same joint stands bare too
abbrev pub is_bare_first : Joint → CTest → Bool
is_bare_first j (c_truth b) = true
is_bare_first j (c_not t) = is_loose j
is_bare_first j (c_joined i t u) = is_chain j i
is_bare_first j (c_compared c a b) = false

abbrev mutual
  -- a value
  pub value_text : List Word → List Read → CValue → List ℕ
  value_text words reads (c_literal n) = number_text n
  value_text words reads (c_word c k) = word_text words reads k
  value_text words reads (c_cast n v) = cast_text n ++ enclosed (is_tight v) (value_text words reads v)
  value_text words reads (c_inverse g v) = codes "~" ++ enclosed (is_tight v) (value_text words reads v)
  value_text words reads (c_binary o g a b) =
      enclosed (is_bare a) (value_text words reads a) ++ (operator_text o ++ enclosed (is_bare b) (value_text words reads b))
  value_text words reads (c_rest g v n) = enclosed (is_tight v) (value_text words reads v) ++ (codes " % " ++ number_text n)
  value_text words reads (c_shifted d g v k) =
      enclosed (is_bare v) (value_text words reads v) ++ (shift_text d ++ number_text k)
  value_text words reads (c_choice t a b) =
      option_map_or (λ k. item_before words reads k a ++ (index_text words reads t ++ item_after reads k)) (item_in words reads (c_choice t a b))
      (choice_text (is_bare_test t) (test_text words reads t) (is_bare a) (value_text words reads a) (is_bare b) (value_text words reads b))

  -- the index of an item: what the test compares
  pub index_text : List Word → List Read → CTest → List ℕ
  index_text words reads (c_truth b) = []
  index_text words reads (c_not t) = []
  index_text words reads (c_joined j t u) = []
  index_text words reads (c_compared c a b) = value_text words reads a

  -- a test
  pub test_text : List Word → List Read → CTest → List ℕ
  test_text words reads (c_truth b) = truth_text b
  test_text words reads (c_not t) = codes "!" ++ enclosed (is_bare_test t) (test_text words reads t)
  test_text words reads (c_joined j t u) =
      enclosed (is_bare_first j t) (test_text words reads t) ++ (joint_text j ++ enclosed (is_bare_test u) (test_text words reads u))
  test_text words reads (c_compared c a b) =
      enclosed (is_bare a) (value_text words reads a) ++ (comparison_text c ++ enclosed (is_bare b) (value_text words reads b))
