-- The tests of `if` and `while` as statements of C.
use Rattle.std.specs.Prelude.{ℕ, Bool, true, false, List, [], ◌∷◌, codes, if◌then◌else◌}
use Rattle.rg_words.specs.Layout.{Word}
use Rattle.rg_c_plan.specs.declared.kind.Kind.{Kind}
use Rattle.rg_c_plan.specs.declared.way.Way.{Way}
use Rattle.rg_c_plan.specs.declared.way.Way.TheVariants.{Direct, Load, Store, Exchange, Select, Section}
use Rattle.rg_c_values.specs.declared.print.Read.{Read}
use Rattle.rg_c_values.specs.CTrees.{CTest}
use Rattle.rg_c.specs.declared.tree.Flag.TheVariants.{Go}
use Rattle.rg_c.specs.CStatements.{Question, asks, flag, CStatement, nothing, ◌⨾◌, reading, declares, decides, breaks, block, unless}
use Rattle.rg_c.specs.Reads.{is_one_load, load_reads}
use Rattle.rg_c.specs.Used.{test_reads}
use Rattle.rg_c.specs.Steps.{is_true, entered, left, held_reads}

-- a test can stand in the `if` itself; else it is worked out before, into a flag
abbrev pub is_bare : Way → CTest → Bool
is_bare Direct t = true
is_bare Select t = true
is_bare (Load x) t = is_one_load x t
is_bare way t = false

-- where a test that is worked out before loads a word, it reads that
abbrev pub reads_loaded : Way → CTest → Bool
reads_loaded (Load x) t = test_reads x t
reads_loaded way t = true

-- how the words of a test are read
abbrev pub loaded_reads : List Word → List Kind → Way → CTest → List Read
loaded_reads words kinds (Load x) t = if is_one_load x t then load_reads words x else held_reads words kinds (Load x) (test_reads x t)
loaded_reads words kinds way t = held_reads words kinds way true

-- what comes before a question, under the mark of its step
abbrev pub before : CStatement → ℕ → Way → CTest → CStatement
before mark place way t =
    if is_bare way t then mark
    else declares (Go place) ⨾ block (mark ⨾ entered way (reads_loaded way t) ⨾ decides (Go place) t ⨾ left way)

-- the question itself
abbrev pub question : ℕ → Way → CTest → Question
question place way t = if is_bare way t then asks t else flag (Go place)

-- the end of the loop around it, where a question is answered by no; nothing where it is always answered by yes
abbrev pub stops_unless : Question → CStatement
stops_unless (asks t) = if is_true t then nothing else unless (asks t) breaks
stops_unless (flag f) = unless (flag f) breaks
