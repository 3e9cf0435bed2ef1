-- The text of a header.
use Rattle.std.specs.Prelude.{ℕ, zero, suc, ◌+◌, nat_eq, Bool, true, false, ◌&&◌, List, [], ◌∷◌, ◌++◌, codes, length, take, drop, slice_index, Option, if◌then◌else◌}
use Rattle.std.specs.List.{list_any, list_all, flat_map}
use Rattle.std.specs.Option.{option_map_or}
use Rattle.std.specs.Str.{bytes_eq}
use Rattle.std.specs.Fmt.{decimal}
use Rattle.rg_words.specs.Layout.{Word, widths_of}
use Rattle.rg_words.specs.declared.operators.Connective.TheVariants.{And, Or, Implies, Iff}
use Rattle.rg_tree.specs.Trees.{Proposition, truth, negation, connected, compared}
use Rattle.rg_tree.specs.Printed.{formula_text}
use Rattle.rg_tree.specs.Statements.{Statement, skip, assign, await, sequence, branch, loop, Specification, PartTree, ProgramTree}
use Rattle.rg_c_plan.specs.declared.order.Rank.{Rank}
use Rattle.rg_c_plan.specs.declared.kind.Kind.{Kind}
use Rattle.rg_c_plan.specs.declared.kind.Kind.TheVariants.{Fixed, Own, Apart, Published, Sheltered, Atomic, Guarded}
use Rattle.rg_c_plan.specs.Accesses.{places}
use Rattle.rg_c_plan.specs.Apart.{is_apart_kind}
use Rattle.rg_c_plan.specs.Ways.{kind_at, has_atomic_accesses, is_atomic, is_guarded}
use Rattle.rg_c_plan.specs.Orders.{is_always}
use Rattle.rg_c_plan.specs.Views.{kinds_for}
use Rattle.rg_c_values.specs.Translation.{container, test_in_c}
use Rattle.rg_c_values.specs.Printed.{test_text}
use Rattle.rg_c_values.specs.Arrays.{array_of, array_length, array_name, indexed, member_of}
use Rattle.rg_c_report.specs.declared.counts.Counts.{Counts}
use Rattle.rg_c_report.specs.Counts.{counts_first, counts_second, counts_of}
use Rattle.rg_c_report.specs.Parties.{parties_text}
use Rattle.rg_c_report.specs.Reports.{kind_text}
use Rattle.rg_c.specs.Reads.{kind_reads}
use Rattle.rg_c.specs.CStatements.{calls}
use Rattle.rg_c.specs.Printed.{name_of, type_of, function_text}
use Rattle.rg_c.specs.Functions.{goes_round, function_name}
use Rattle.rg_c.specs.Bodies.{PageTree, in_c, looped}
use Rattle.rg_c.specs.Operations.{OperationTree, operations_text}
use Rattle.rg_c.specs.Starts.{start_text}
use Rattle.rg_c.specs.Orders.{order_text}
use Rattle.rg_c.specs.Heads.{top_open, promise_head, promise_line, apart_lines, rests_text, guard_open, atomics_open, lock_free_line, atomics_close, hooks_text, apart_type, sections_text, struct_open, field_line, item_line, struct_close, assertion_text, part_open, round_open, guard_close}

-- how a word of this kind is declared
abbrev pub kind_before : Kind → List ℕ
kind_before Fixed = codes "const "
kind_before Own = []
kind_before Apart = codes "RGC_APART("
kind_before Published = codes "RGC_ATOMIC("
kind_before Sheltered = codes "RGC_ATOMIC("
kind_before Atomic = codes "RGC_ATOMIC("
kind_before Guarded = []

abbrev pub kind_after : Kind → List ℕ
kind_after Fixed = []
kind_after Own = []
kind_after Apart = codes ")"
kind_after Published = codes ")"
kind_after Sheltered = codes ")"
kind_after Atomic = codes ")"
kind_after Guarded = []

-- so many bits
unfoldable pub bits_text : ℕ → List ℕ
bits_text w = decimal w ++ (if nat_eq w 1 then codes " bit" else codes " bits")

-- what is said of the k-th word: its bits, its kind, and who reads and who writes it
unfoldable pub note_text : ProgramTree → List Kind → ℕ → List ℕ
note_text p kinds k = bits_text (slice_index (widths_of p.words) k) ++ (codes ", " ++ (kind_text (kind_at kinds k) ++ (codes "; " ++ parties_text p k)))

-- the k-th word as a field of its own
unfoldable pub own_field : ProgramTree → List Kind → ℕ → List ℕ
own_field p kinds k =
    field_line (kind_before (kind_at kinds k)) (type_of p.words k) (kind_after (kind_at kinds k)) (name_of p.words k) (note_text p kinds k)

abbrev pub is_fixed_kind : Kind → Bool
is_fixed_kind Fixed = true
is_fixed_kind kind = false

-- how an array is declared whose items have these kinds: as an atomic word, if an item has atomic accesses; as a fixed one, if all are fixed; as one at which parts
-- are kept apart, if they are at an item
abbrev pub kind_of_items : List Kind → Kind
kind_of_items kinds =
    if list_any has_atomic_accesses kinds then Atomic else if list_all is_fixed_kind kinds then Fixed else if list_any is_apart_kind kinds then Apart else Own

-- the kinds of n words, from the j-th one on
abbrev pub kinds_from : List Kind → ℕ → ℕ → List Kind
kinds_from kinds j n = take n (drop j kinds)

-- an array that begins at the j-th word and has n items, of this kind, with what is said of the first one
unfoldable pub array_field : ProgramTree → List Kind → Kind → ℕ → ℕ → List ℕ
array_field p kinds kind j n =
    field_line (kind_before kind) (type_of p.words j) (kind_after kind) (indexed (array_name p.words j) (decimal n)) (note_text p kinds j)

-- what is said of the k-th word in an array that begins at the j-th, where it isn't what is said of that one
unfoldable pub item_note : ProgramTree → List Kind → ℕ → ℕ → List ℕ
item_note p kinds j k = if bytes_eq (note_text p kinds k) (note_text p kinds j) then [] else item_line (member_of p.words k) (note_text p kinds k)

-- the k-th word in an array that begins at the j-th: where it is the first one, the array is declared
abbrev pub item_field : ProgramTree → List Kind → ℕ → ℕ → List ℕ
item_field p kinds k j =
    let n = array_length p.words j in
    if nat_eq j k then array_field p kinds (kind_of_items (kinds_from kinds j n)) j n else item_note p kinds j k

-- the k-th word as a field, or in an array
unfoldable pub field_text : ProgramTree → List Kind → ℕ → List ℕ
field_text p kinds k = option_map_or (item_field p kinds k) (array_of p.words k) (own_field p kinds k)

unfoldable pub struct_text : List ℕ → ProgramTree → List Kind → List ℕ
struct_text name p kinds = struct_open name ++ (flat_map (field_text p kinds) (places p.words) ++ struct_close)

-- the conjuncts of a formula, each on a line, after what stands before the first
abbrev pub conjunct_lines : List Word → List ℕ → Proposition → List ℕ
conjunct_lines words before (connected And f g) = conjunct_lines words before f ++ conjunct_lines words (codes " *     and ") g
conjunct_lines words before f = promise_line before (formula_text words f [])

-- a formula that is promised
unfoldable pub promise_text : List Word → List ℕ → Proposition → List ℕ
promise_text words what f = conjunct_lines words (promise_head what) f

-- how many steps are done in each way
unfoldable pub counts_text : Counts → List ℕ
counts_text counts = codes " *\n * " ++ (counts_first counts ++ (codes "\n * " ++ (counts_second counts ++ codes "\n")))

-- the four formulas
unfoldable pub promises_text : List Word → Specification → List ℕ
promises_text words spec =
    promise_text words (codes "pre") spec.pre ++ (promise_text words (codes "rely") spec.rely
    ++ (promise_text words (codes "guar") spec.guar ++ promise_text words (codes "post") spec.post))

-- what is proved of words at which parts are kept apart, if there are any
abbrev pub apart_text : List Kind → List ℕ
apart_text kinds = if list_any is_apart_kind kinds then apart_lines else []

-- the comment at the top
unfoldable pub top_text : List ℕ → List (Option Rank) → List Kind → ProgramTree → List ℕ
top_text name order kinds p =
    top_open name ++ (promises_text p.words p.spec ++ (counts_text (counts_of p order kinds) ++ (apart_text kinds ++ (order_text p order ++ rests_text))))

-- some atomic word has a type of so many bits
abbrev pub has_atomic : List Word → List Kind → ℕ → Bool
has_atomic words kinds n = list_any (λ k. is_atomic (kind_at kinds k) && nat_eq (container (slice_index (widths_of words) k)) n) (places words)

-- that such a type has to be accessed without a lock
unfoldable pub lock_free_text : List Word → List Kind → ℕ → List ℕ → List ℕ
lock_free_text words kinds n test = if has_atomic words kinds n then lock_free_line test (decimal n) else []

-- and all types of atomic words
unfoldable pub lock_free_texts : List Word → List Kind → List ℕ
lock_free_texts words kinds =
    lock_free_text words kinds 8 (codes "ATOMIC_CHAR_LOCK_FREE == 2") ++ (lock_free_text words kinds 16 (codes "ATOMIC_SHORT_LOCK_FREE == 2")
    ++ (lock_free_text words kinds 32 (codes "ATOMIC_INT_LOCK_FREE == 2 && ATOMIC_LONG_LOCK_FREE == 2") ++ lock_free_text words kinds 64 (codes "ATOMIC_LLONG_LOCK_FREE == 2")))

-- how atomic words are accessed, unless the device says so
unfoldable pub atomics_text : List Word → List Kind → List ℕ
atomics_text words kinds = atomics_open ++ (lock_free_texts words kinds ++ atomics_close)

-- how words are declared at which parts are kept apart, if there are any
abbrev pub apart_hook : List Kind → List ℕ
apart_hook kinds = if list_any is_apart_kind kinds then apart_type else []

-- what stands before the struct: where a word is touched in sections, the device has to say what these are
unfoldable pub macros_text : List ℕ → List Word → List Kind → List ℕ
macros_text name words kinds = guard_open name ++ (atomics_text words kinds ++ (hooks_text ++ (apart_hook kinds ++ (if list_any is_guarded kinds then sections_text else []))))

-- a function that tells whether a formula holds
unfoldable pub asserted : List ℕ → List ℕ → List Word → List Kind → Proposition → List ℕ
asserted name what words kinds f = assertion_text name what (test_text words (kind_reads words kinds) (test_in_c (widths_of words) f))

-- a part under these names, from its beginning to its end
unfoldable pub run_text : List ℕ → List ℕ → PageTree → Statement → List ℕ
run_text name part p s = function_text p.words (part_open name part) (in_c p 0 s)

-- one round of a part that goes round without an end, and the part, which calls it again and again
unfoldable pub round_text : List ℕ → List ℕ → PageTree → ℕ → Proposition → Statement → List ℕ
round_text name part p row f s =
    function_text p.words (round_open name part) (in_c p 1 s)
    ++ function_text p.words (part_open name part) (looped p 0 row f (calls (function_name name (goes_round part))))

abbrev pub body_text : List ℕ → List ℕ → PageTree → Statement → List ℕ
body_text name part p (loop row f s) = if is_always f then round_text name part p row f s else run_text name part p (loop row f s)
body_text name part p s = run_text name part p s

-- a part at its place, from 0, by the kinds of words as it sees them, and after it the uses of named statements in it
abbrev pub part_text : List ℕ → ProgramTree → List (Option Rank) → List Kind → Bool → List ℕ → List OperationTree → ℕ → PartTree → List ℕ
part_text name p order kinds traced lines operations i part =
    let page : PageTree = record { words = p.words; kinds = kinds_for p order kinds i; part = i; traced = traced; lines = lines } in
    body_text name part.name page part.body ++ operations_text name part.name page operations part.body

-- the parts from the i-th one on
abbrev pub parts_text : List ℕ → ProgramTree → List (Option Rank) → List Kind → Bool → List ℕ → List OperationTree → ℕ → List PartTree → List ℕ
parts_text name p order kinds traced lines operations i [] = []
parts_text name p order kinds traced lines operations i (part ∷ parts) =
    part_text name p order kinds traced lines operations i part ++ parts_text name p order kinds traced lines operations (i + 1) parts

-- a program under this name, its steps marked or not, with these lines for those of its text and functions of their own for these uses of named statements, whose
-- parts interrupt each other so, with these kinds of words
abbrev pub header_text : List ℕ → Bool → List ℕ → List OperationTree → List (Option Rank) → List Kind → ProgramTree → List ℕ
header_text name traced lines operations order kinds program =
    top_text name order kinds program ++ (macros_text name program.words kinds ++ (struct_text name program kinds
    ++ (start_text name program ++ (asserted name (codes "pre") program.words kinds program.spec.pre ++ (asserted name (codes "post") program.words kinds program.spec.post
    ++ (parts_text name program order kinds traced lines operations 0 program.parts ++ guard_close))))))
