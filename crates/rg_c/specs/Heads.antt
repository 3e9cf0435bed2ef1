-- The pieces of which a header is made, from their texts.
use Rattle.std.specs.Prelude.{ℕ, List, [], ◌∷◌, codes}
use Rattle.rg_c.specs.Functions.{runs, goes_round, performs, function_name}
use Rattle.rg_c.specs.Printed.{joined}

-- the beginning of the comment at the top
unfoldable pub top_open : List ℕ → List ℕ
top_open name = joined (
    codes "/* "
    ∷ name
    ∷ codes ".h: made by rgc from a program that satisfies its specification.\n"
    ∷ codes " * Change the program, not this file.\n"
    ∷ codes " *\n"
    ∷ codes " * What is promised. If the words start inside pre, and whatever else writes them keeps to rely,\n"
    ∷ codes " * then each step of a part is inside guar, and where all parts have ended, post holds. A step is\n"
    ∷ codes " * one statement, or one test, under its comment. A name with ' is its value after the step.\n" ∷ [])

-- what stands before a formula of the specification
unfoldable pub promise_head : List ℕ → List ℕ
promise_head what = joined (codes " *   " ∷ what ∷ codes ": " ∷ [])

-- a formula of the specification, or a conjunct of one, after what stands before it
unfoldable pub promise_line : List ℕ → List ℕ → List ℕ
promise_line before formula = joined (before ∷ formula ∷ codes "\n" ∷ [])

-- what is proved of words at which parts are kept apart
unfoldable pub apart_lines : List ℕ
apart_lines = joined (
    codes " *\n"
    ∷ codes " * Where assertions keep the parts of a plain word apart, it is proved that no two parts ever stand at\n"
    ∷ codes " * steps that both access the word, and of which one writes it.\n" ∷ [])

-- what is presumed of parts on one core
unfoldable pub order_open : List ℕ
order_open = joined (
    codes " *\n"
    ∷ codes " * What is presumed of parts that run on one core. One that interrupts others is called by an interrupt, or is a\n"
    ∷ codes " * task that doesn't wait: while it runs the others stand still, and in their critical sections it is kept away.\n" ∷ [])

-- what the promise rests on
unfoldable pub rests_text : List ℕ
rests_text = joined (
    codes " *\n"
    ∷ codes " * What it rests on: the compiler of C; RGC_LOAD, RGC_STORE and RGC_CAS are sequentially consistent;\n"
    ∷ codes " * a critical section keeps out all others; each run function is called once at a time, in a thread\n"
    ∷ codes " * of its own; nothing else writes the words but what keeps to rely.\n"
    ∷ codes " */\n" ∷ [])

-- the beginning of the header
unfoldable pub guard_open : List ℕ → List ℕ
guard_open name = joined (
    codes "#ifndef RGC_HEADER_"
    ∷ name
    ∷ codes "\n#define RGC_HEADER_"
    ∷ name
    ∷ codes "\n\n#include <stdbool.h>\n#include <stdint.h>\n\n" ∷ [])

-- how atomic words are accessed, unless the device says so
unfoldable pub atomics_open : List ℕ
atomics_open = joined (
    codes "#ifndef RGC_LOAD\n"
    ∷ codes "#include <stdatomic.h>\n" ∷ [])

-- that a type of so many bits has to be accessed without a lock
unfoldable pub lock_free_line : List ℕ → List ℕ → List ℕ
lock_free_line test bits = joined (
    codes "_Static_assert("
    ∷ test
    ∷ codes ", \"no lock-free access of "
    ∷ bits
    ∷ codes " bits: define RGC_ATOMIC, RGC_LOAD, RGC_STORE and RGC_CAS\");\n" ∷ [])

unfoldable pub atomics_close : List ℕ
atomics_close = joined (
    codes "#define RGC_ATOMIC(type) _Atomic type\n"
    ∷ codes "#define RGC_LOAD(at) atomic_load(at)\n"
    ∷ codes "#define RGC_STORE(at, value) atomic_store((at), (value))\n"
    ∷ codes "#define RGC_CAS(at, old, value) atomic_compare_exchange_strong((at), &(old), (value))\n"
    ∷ codes "#endif\n" ∷ [])

-- what `int` has to be, and hooks for waiting and for a `skip`
unfoldable pub hooks_text : List ℕ
hooks_text = joined (
    codes "_Static_assert((0u - 1u) <= 0xFFFFFFFFu, \"int has at most 32 bits\");\n"
    ∷ codes "#ifndef RGC_WAIT\n"
    ∷ codes "#define RGC_WAIT(w) ((void)(w))\n"
    ∷ codes "#endif\n"
    ∷ codes "#ifndef RGC_SKIP\n"
    ∷ codes "#define RGC_SKIP(line) ((void)0)\n"
    ∷ codes "#endif\n" ∷ [])

-- how a word is declared at which parts are kept apart, unless the device says so
unfoldable pub apart_type : List ℕ
apart_type = joined (
    codes "#ifndef RGC_APART\n"
    ∷ codes "#define RGC_APART(type) type\n"
    ∷ codes "#endif\n" ∷ [])

-- that the device has to say what a section is
unfoldable pub sections_text : List ℕ
sections_text = joined (
    codes "#if !defined(RGC_ENTER) || !defined(RGC_LEAVE)\n"
    ∷ codes "#error \"define RGC_ENTER(w) and RGC_LEAVE(w): the ends of a critical section\"\n"
    ∷ codes "#endif\n" ∷ [])

-- the beginning of the struct of the words
unfoldable pub struct_open : List ℕ → List ℕ
struct_open name = joined (
    codes "\nstruct "
    ∷ name
    ∷ codes " {\n" ∷ [])

-- a word
unfoldable pub field_line : List ℕ → List ℕ → List ℕ → List ℕ → List ℕ → List ℕ
field_line before kind after name what = joined (
    codes "    "
    ∷ before
    ∷ kind
    ∷ after
    ∷ codes " "
    ∷ name
    ∷ codes "; /* "
    ∷ what
    ∷ codes " */\n" ∷ [])

-- what is said of an item of an array, where it isn't what is said of the first one
unfoldable pub item_line : List ℕ → List ℕ → List ℕ
item_line member what = joined (
    codes "    /* "
    ∷ member
    ∷ codes ": "
    ∷ what
    ∷ codes " */\n" ∷ [])

-- the end of the struct
unfoldable pub struct_close : List ℕ
struct_close = joined (
    codes "};\n" ∷ [])

-- a start of the words, as a macro
unfoldable pub start_lines : List ℕ → List ℕ → List ℕ
start_lines name members = joined (
    codes "\n/* A start inside pre. */\n#define RGC_START_"
    ∷ name
    ∷ codes " { "
    ∷ members
    ∷ codes " }\n" ∷ [])

-- a function that tells whether a formula holds
unfoldable pub assertion_text : List ℕ → List ℕ → List ℕ → List ℕ
assertion_text name what test = joined (
    codes "\n/* Whether the words are inside "
    ∷ what
    ∷ codes ". */\nstatic inline bool "
    ∷ name
    ∷ codes "_"
    ∷ what
    ∷ codes "(struct "
    ∷ name
    ∷ codes " *w)\n{\n    (void)w;\n    return "
    ∷ test
    ∷ codes ";\n}\n" ∷ [])

-- the beginning of a part
unfoldable pub part_open : List ℕ → List ℕ → List ℕ
part_open name part = joined (
    codes "\n/* Part "
    ∷ part
    ∷ codes ". Where it returns, the part has ended. */\nstatic inline void "
    ∷ function_name name (runs part)
    ∷ codes "(struct "
    ∷ name
    ∷ codes " *w)\n" ∷ [])

-- the beginning of one round of a part
unfoldable pub round_open : List ℕ → List ℕ → List ℕ
round_open name part = joined (
    codes "\n/* One round of part "
    ∷ part
    ∷ codes ", for a caller that goes round by itself. */\nstatic inline void "
    ∷ function_name name (goes_round part)
    ∷ codes "(struct "
    ∷ name
    ∷ codes " *w)\n" ∷ [])

-- the beginning of the function of one use of named statements in a part
unfoldable pub operation_open : List ℕ → List ℕ → List ℕ → List ℕ
operation_open name part operation = joined (
    codes "\n/* Of part "
    ∷ part
    ∷ codes ", the statements of one use alone, for a caller that makes the part's other steps by itself. */\nstatic inline void "
    ∷ function_name name (performs operation)
    ∷ codes "(struct "
    ∷ name
    ∷ codes " *w)\n" ∷ [])

-- the end of the header
unfoldable pub guard_close : List ℕ
guard_close = joined (
    codes "\n#endif\n" ∷ [])
