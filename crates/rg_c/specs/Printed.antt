-- The text of statements of C.
use Rattle.std.specs.Prelude.{ℕ, Bool, true, false, List, [], ◌∷◌, ◌++◌, codes, slice_index, nat_le, if◌then◌else◌}
use Rattle.std.specs.List.{flat_map}
use Rattle.std.specs.Fmt.{decimal}
use Rattle.rg_words.specs.Layout.{Word, widths_of}
use Rattle.rg_c_values.specs.declared.print.Read.{Read}
use Rattle.rg_c_values.specs.CTrees.{CValue}
use Rattle.rg_c_values.specs.CNames.{c_name}
use Rattle.rg_c_values.specs.Arrays.{name_at, array_name, indexed, member_of}
use Rattle.rg_c_values.specs.Printed.{value_text, test_text, enclosed}
use Rattle.rg_c.specs.declared.tree.Flag.{Flag}
use Rattle.rg_c.specs.declared.tree.Flag.TheVariants.{Done, Go}
use Rattle.rg_c.specs.CStatements.{Question, asks, flag, Place, member, item, CStatement, nothing, ◌⨾◌, reading, remark, hook, calls, loads, discards, begins, copies, changes, writes, stores, exchanges, returns, declares, decides, breaks, block, forever, when, unless, either}

-- texts, one after another
abbrev pub joined : List (List ℕ) → List ℕ
joined texts = flat_map (λ t. t) texts

-- the name of the k-th word in C
unfoldable pub name_of : List Word → ℕ → List ℕ
name_of words k = c_name (name_at words k)

-- the unsigned type of a word of w bits, and of the k-th word
unfoldable pub type_text : ℕ → List ℕ
type_text w = if nat_le w 8 then codes "uint8_t" else if nat_le w 16 then codes "uint16_t" else if nat_le w 32 then codes "uint32_t" else codes "uint64_t"

abbrev pub type_of : List Word → ℕ → List ℕ
type_of words k = type_text (slice_index (widths_of words) k)

-- a flag: whether the step is made, and whether the test at this place in the listing was true
abbrev pub flag_text : Flag → List ℕ
flag_text Done = codes "rgc_done"
flag_text (Go place) = codes "rgc_go" ++ decimal place

-- what it is declared with
abbrev pub initial : Flag → List ℕ
initial Done = codes " = false"
initial (Go place) = []

-- a question, and its contrary
abbrev pub question_text : List Word → List Read → Question → List ℕ
question_text words reads (asks t) = test_text words reads t
question_text words reads (flag f) = flag_text f

abbrev pub contrary_text : List Word → List Read → Question → List ℕ
contrary_text words reads (asks t) = codes "!" ++ enclosed false (test_text words reads t)
contrary_text words reads (flag f) = codes "!" ++ flag_text f

-- what is written, as a member of the struct
abbrev pub place_text : List Word → List Read → Place → List ℕ
place_text words reads (member k) = member_of words k
place_text words reads (item j e) = indexed (array_name words j) (value_text words reads e)

-- the indent of what stands inside
unfoldable pub inner : List ℕ → List ℕ
inner indent = indent ++ codes "    "

-- a line, what stands before a block, and the block's end
abbrev pub line : List ℕ → List (List ℕ) → List ℕ
line indent texts = indent ++ (joined texts ++ codes ";\n")

abbrev pub opens : List ℕ → List (List ℕ) → List ℕ
opens indent texts = indent ++ (joined texts ++ codes "{\n")

abbrev pub closes : List ℕ → List ℕ
closes indent = indent ++ codes "}\n"

-- a value is written to what is in this place of the struct, by a store or plainly
abbrev pub put_text : List Word → List Read → List ℕ → Bool → List ℕ → CValue → List ℕ
put_text words reads i stored place v =
    if stored then line i (codes "RGC_STORE(&w->" ∷ place ∷ codes ", " ∷ value_text words reads v ∷ codes ")" ∷ [])
    else line i (codes "w->" ∷ place ∷ codes " = " ∷ value_text words reads v ∷ [])

-- a statement after this indent, words read so
abbrev pub printed : List Word → List Read → List ℕ → CStatement → List ℕ
printed words reads i nothing = []
printed words reads i (a ⨾ b) = printed words reads i a ++ printed words reads i b
printed words reads i (reading others c) = printed words others i c
printed words reads i (remark text) = i ++ (codes "/* " ++ (text ++ codes " */\n"))
printed words reads i (hook text) = line i (text ∷ [])
printed words reads i (calls name) = line i (name ∷ codes "(w)" ∷ [])
printed words reads i (loads k) = line i (codes "const " ∷ type_of words k ∷ codes " " ∷ name_of words k ∷ codes "_ = RGC_LOAD(&w->" ∷ member_of words k ∷ codes ")" ∷ [])
printed words reads i (discards k) = line i (codes "(void)RGC_LOAD(&w->" ∷ member_of words k ∷ codes ")" ∷ [])
printed words reads i (begins k) =
    line i (type_of words k ∷ codes " rgc_old = RGC_LOAD(&w->" ∷ member_of words k ∷ codes ")" ∷ [])
    ++ line i (type_of words k ∷ codes " " ∷ name_of words k ∷ codes "_ = rgc_old" ∷ [])
printed words reads i (copies k) = line i (type_of words k ∷ codes " " ∷ name_of words k ∷ codes "_ = w->" ∷ member_of words k ∷ [])
printed words reads i (changes k v) = line i (name_of words k ∷ codes "_ = " ∷ value_text words reads v ∷ [])
printed words reads i (writes p v) = put_text words reads i false (place_text words reads p) v
printed words reads i (stores p v) = put_text words reads i true (place_text words reads p) v
printed words reads i (exchanges k) = line i (codes "rgc_done = RGC_CAS(&w->" ∷ member_of words k ∷ codes ", rgc_old, " ∷ name_of words k ∷ codes "_)" ∷ [])
printed words reads i (returns k) = line i (codes "w->" ∷ member_of words k ∷ codes " = " ∷ name_of words k ∷ codes "_" ∷ [])
printed words reads i (declares f) = line i (codes "bool " ∷ flag_text f ∷ initial f ∷ [])
printed words reads i (decides f t) = line i (flag_text f ∷ codes " = " ∷ test_text words reads t ∷ [])
printed words reads i breaks = line i (codes "break" ∷ [])
printed words reads i (block c) = opens i [] ++ (printed words reads (inner i) c ++ closes i)
printed words reads i (forever c) = opens i (codes "for (;;) " ∷ []) ++ (printed words reads (inner i) c ++ closes i)
printed words reads i (when q c) = opens i (codes "if (" ∷ question_text words reads q ∷ codes ") " ∷ []) ++ (printed words reads (inner i) c ++ closes i)
printed words reads i (unless q c) = opens i (codes "if (" ∷ contrary_text words reads q ∷ codes ") " ∷ []) ++ (printed words reads (inner i) c ++ closes i)
printed words reads i (either q a b) =
    opens i (codes "if (" ∷ question_text words reads q ∷ codes ") " ∷ [])
    ++ (printed words reads (inner i) a ++ (opens i (codes "} else " ∷ []) ++ (printed words reads (inner i) b ++ closes i)))

-- a function with this head and this body
abbrev pub function_text : List Word → List ℕ → CStatement → List ℕ
function_text words head body = head ++ printed words [] [] (block (hook (codes "(void)w") ⨾ body))
