-- The listing of a code, as a JSON value.
use Rattle.std.specs.Prelude.{ℕ, List, [], ◌∷◌, ◌++◌, map, codes, string_bytes, if◌then◌else◌}
use Rattle.std.specs.Fmt.{decimal}
use Rattle.serde_json.specs.Data.{Data, unsigned, string, array, object, member, no_members}
use Rattle.serde_json.specs.Data as json
use Rattle.serde_json.specs.View.{items_of}
use Rattle.rg_words.specs.Layout.{Word}
use Rattle.rg_words.specs.declared.operators.Operator.{Operator}
use Rattle.rg_words.specs.declared.operators.Operator.TheVariants.{Add, Subtract, BitAnd, BitOr, BitXor}
use Rattle.rg_words.specs.declared.operators.Shift.{Shift}
use Rattle.rg_words.specs.declared.operators.Shift.TheVariants.{Left, Right}
use Rattle.rg_words.specs.declared.operators.Comparison.{Comparison}
use Rattle.rg_words.specs.declared.operators.Comparison.TheVariants.{Equal, NotEqual, Less, LessOrEqual, Greater, GreaterOrEqual}
use Rattle.rg_words.specs.declared.operators.Connective.{Connective}
use Rattle.rg_words.specs.declared.operators.Connective.TheVariants.{And, Or, Implies, Iff}
use Rattle.rg_code.specs.declared.operation.Operation.{Operation}
use Rattle.rg_code.specs.declared.operation.Operation.TheVariants as variants
use Rattle.rg_code.specs.declared.code.PartCode.{PartCode}
use Rattle.rg_code.specs.declared.code.Code.{Code}
use Rattle.rg_code.specs.Code.{StoreTree, BlockTree, do_block, await_block, test_block, end_block}
use Rattle.rg_code.specs.BlockView.{blocks}

-- an operation on two numbers of w bits
abbrev pub listed_operator : Operator → ℕ → List ℕ
listed_operator Add w = codes "add " ++ decimal w
listed_operator Subtract w = codes "sub " ++ decimal w
listed_operator BitAnd w = codes "band"
listed_operator BitOr w = codes "bor"
listed_operator BitXor w = codes "bxor"

-- a shift by k of a number of w bits
abbrev pub listed_shift : Shift → ℕ → ℕ → List ℕ
listed_shift Left w k = codes "shl " ++ decimal w ++ codes " " ++ decimal k
listed_shift Right w k = codes "shr " ++ decimal k

-- a comparison of two numbers
abbrev pub listed_comparison : Comparison → List ℕ
listed_comparison Equal = codes "eq"
listed_comparison NotEqual = codes "ne"
listed_comparison Less = codes "lt"
listed_comparison LessOrEqual = codes "le"
listed_comparison Greater = codes "gt"
listed_comparison GreaterOrEqual = codes "ge"

-- a connective of two truth values
abbrev pub listed_connective : Connective → List ℕ
listed_connective And = codes "and"
listed_connective Or = codes "or"
listed_connective Implies = codes "implies"
listed_connective Iff = codes "iff"

-- an operation: its name, and after it its number, its word from 0, its width where that matters, and its shift count
abbrev pub operation_text : Operation → List ℕ
operation_text (variants.Number n) = codes "num " ++ decimal n
operation_text (variants.Word k) = codes "word " ++ decimal k
operation_text (variants.Inverse w) = codes "inv " ++ decimal w
operation_text (variants.Binary o w) = listed_operator o w
operation_text (variants.Shifted d w k) = listed_shift d w k
operation_text variants.Pick = codes "pick"
operation_text (variants.Compare c) = listed_comparison c
operation_text (variants.Truth b) = if b then codes "true" else codes "false"
operation_text variants.Not = codes "not"
operation_text (variants.Connect c) = listed_connective c

-- a number, as a JSON value
abbrev pub number_data : ℕ → Data
number_data n = json.number (unsigned n)

-- a list, as a JSON value
abbrev pub list_data : List Data → Data
list_data ds = array (items_of ds)

-- operations: a list of their texts
abbrev pub operations_data : List Operation → Data
operations_data os = list_data (map (λ o. string (operation_text o)) os)

-- a store: its word's number and its operations
abbrev pub store_data : StoreTree → Data
store_data a = list_data (number_data a.target ∷ operations_data a.value ∷ [])

-- stores: a list of theirs
abbrev pub stores_data : List StoreTree → Data
stores_data act = list_data (map store_data act)

-- a block: its name, its line, its places, its guard and its stores
abbrev pub block_data : BlockTree → Data
block_data (do_block row next act) = list_data (string (codes "do") ∷ number_data row ∷ number_data next ∷ stores_data act ∷ [])
block_data (await_block row next b act) =
    list_data (string (codes "await") ∷ number_data row ∷ number_data next ∷ operations_data b ∷ stores_data act ∷ [])
block_data (test_block row yes_place no_place b) =
    list_data (string (codes "test") ∷ number_data row ∷ number_data yes_place ∷ number_data no_place ∷ operations_data b ∷ [])
block_data end_block = list_data (string (codes "end") ∷ [])

-- a part: its blocks and its name
abbrev pub part_data : PartCode → Data
part_data p =
    object (member (codes "blocks") (list_data (map block_data (blocks p))) (member (codes "name") (string (string_bytes p.name)) no_members))

-- a word: its name and its width, and "fixed" where it is
abbrev pub word_data : Word → Data
word_data w = list_data (string w.name ∷ number_data w.width ∷ (if w.fixed then string (codes "fixed") ∷ [] else []))

-- the parts, and the words
abbrev pub listing_data : Code → Data
listing_data c =
    object (member (codes "parts") (list_data (map part_data c.parts.items)) (member (codes "words") (list_data (map word_data c.layout)) no_members))
