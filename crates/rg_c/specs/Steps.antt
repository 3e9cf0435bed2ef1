-- The statements of C for the steps of a program, by the way in which they are done.
use Rattle.std.specs.Prelude.{ℕ, Bool, true, false, List, [], ◌∷◌, ◌++◌, codes, ◌&&◌, map, nat_eq, length, if◌then◌else◌, Option, Some, None}
use Rattle.rg_words.specs.Layout.{Word, widths_of}
use Rattle.rg_tree.specs.Trees.{Proposition, Assignment}
use Rattle.rg_c_plan.specs.declared.kind.Kind.{Kind}
use Rattle.rg_c_plan.specs.declared.way.Way.{Way}
use Rattle.rg_c_plan.specs.declared.way.Way.TheVariants.{Direct, Load, Store, Exchange, Select, Section}
use Rattle.rg_c_plan.specs.Changes.{moving}
use Rattle.rg_c_plan.specs.Ways.{way_of, met_words}
use Rattle.rg_c_values.specs.declared.print.Read.{Read}
use Rattle.rg_c_values.specs.CTrees.{CTest, c_truth}
use Rattle.rg_c_values.specs.Arrays.{member_of}
use Rattle.rg_c_values.specs.Translation.{test_in_c}
use Rattle.rg_c_report.specs.Counts.{is_section}
use Rattle.rg_c.specs.declared.tree.Target.TheVariants.{Local}
use Rattle.rg_c.specs.declared.tree.Flag.TheVariants.{Done}
use Rattle.rg_c.specs.CStatements.{asks, flag, CStatement, nothing, ◌⨾◌, reading, remark, hook, loads, discards, begins, copies, exchanges, returns, declares, decides, breaks, block, forever, when, either, each}
use Rattle.rg_c.specs.Assigned.{GivenTree, given_of, assigned_to, targets_beside}
use Rattle.rg_c.specs.Reads.{is_one_load, load_reads, kind_reads, local_reads}
use Rattle.rg_c.specs.Together.{all_given}
use Rattle.rg_c.specs.Used.{is_used}

-- the test is always true
abbrev pub is_true : CTest → Bool
is_true (c_truth b) = b
is_true t = false

-- the mark of a step, by its text; none where that is empty
abbrev pub marked : List ℕ → CStatement
marked mark = if nat_eq (length mark) 0 then nothing else hook mark

-- the hook for waiting
abbrev pub waiting : CStatement
waiting = hook (codes "RGC_WAIT(w)")

-- waiting until a test is true, if it isn't always
abbrev pub awaits : CStatement → CTest → CStatement
awaits mark t = if is_true t then mark else forever (mark ⨾ when (asks t) breaks ⨾ waiting)

-- how a step begins and ends that is done in a section, or over a local; a load has a local only where that is used
abbrev pub entered : Way → Bool → CStatement
entered (Load x) used = if used then loads x else discards x
entered Section used = hook (codes "RGC_ENTER(w)")
entered way used = nothing

abbrev pub left : Way → CStatement
left Section = hook (codes "RGC_LEAVE(w)")
left way = nothing

-- how its words are read
abbrev pub held_reads : List Word → List Kind → Way → Bool → List Read
held_reads words kinds (Load x) used = if used then local_reads words kinds (x ∷ []) else kind_reads words kinds
held_reads words kinds way used = kind_reads words kinds

-- what is done where the step is made, if it is anything
abbrev pub if_done : Bool → CStatement → CStatement
if_done empty c = if empty then nothing else when (flag Done) c

-- tries of such a step until its test is true: its beginning, what is done then, and its end
abbrev pub tried : CStatement → CStatement → CTest → CStatement → CStatement → CStatement
tried mark enter t c ending = forever (declares Done ⨾ mark ⨾ enter ⨾ decides Done t ⨾ c ⨾ ending)

-- such a step, from its beginning to its end, with these assignments: in a block, or in a loop until its test is true
abbrev pub held : CStatement → CStatement → CStatement → CTest → Bool → CStatement → CStatement
held mark enter leave t empty c = if is_true t then block (mark ⨾ enter ⨾ c ⨾ leave) else tried mark enter t (if_done empty c) (leave ⨾ when (flag Done) breaks ⨾ waiting)

abbrev pub held_step : List Word → List Kind → CStatement → Way → Bool → CTest → List GivenTree → CStatement
held_step words kinds mark way used t gs =
    reading (held_reads words kinds way used) (held mark (entered way used) (left way) t (nat_eq (length gs) 0) (all_given words kinds 0 gs))

-- a step that loads this word: where it assigns nothing and its test loads the word once, it waits
abbrev pub loaded : List Word → List Kind → CStatement → ℕ → CTest → List GivenTree → CStatement
loaded words kinds mark x t gs =
    if nat_eq (length gs) 0 && is_one_load x t then reading (load_reads words x) (awaits mark t)
    else held_step words kinds mark (Load x) (is_used x t gs) t gs

-- changes of locals, an exchange, and where that was made what these other words get
abbrev pub changed : List Kind → ℕ → List ℕ → List GivenTree → CStatement
changed kinds x ks gs = each (assigned_to kinds Local) gs ⨾ exchanges x ⨾ if_done (nat_eq (length ks) 0) (each returns ks)

-- what is done where a test is true, and what else, in its `if`, unless it always is
abbrev pub tested : CTest → CStatement → CStatement → CStatement
tested t c d = if is_true t then c else either (asks t) c d

-- an exchange of this word, with these other words in locals, in a loop until it is made
abbrev pub attempted : CStatement → ℕ → List ℕ → CStatement → CStatement
attempted mark x ks c = forever (declares Done ⨾ mark ⨾ begins x ⨾ each copies ks ⨾ c ⨾ when (flag Done) breaks)

-- a step that is done by an exchange of this word
abbrev pub exchanging : List Word → List Kind → CStatement → ℕ → CTest → List GivenTree → CStatement
exchanging words kinds mark x t gs =
    let ks = targets_beside (x ∷ []) gs in
    reading (local_reads words kinds (x ∷ ks)) (attempted mark x ks (tested t (changed kinds x ks gs) waiting))

-- a step without locals: it waits for its test, and then assigns
abbrev pub bare : List Word → List Kind → CStatement → CTest → List GivenTree → CStatement
bare words kinds mark t gs = reading (kind_reads words kinds) (awaits mark t ⨾ all_given words kinds 0 gs)

-- a step with this test and these assignments that is done in this way
abbrev pub step_by : List Word → List Kind → CStatement → Way → CTest → List GivenTree → CStatement
step_by words kinds mark (Load x) t gs = loaded words kinds mark x t gs
step_by words kinds mark Section t gs = held_step words kinds mark Section true t gs
step_by words kinds mark (Exchange x) t gs = exchanging words kinds mark x t gs
step_by words kinds mark way t gs = bare words kinds mark t gs

-- the test of a guard; true where there is none
abbrev pub test_of : List ℕ → Option Proposition → CTest
test_of widths None = c_truth true
test_of widths (Some f) = test_in_c widths f

-- words as members of the struct, each after a comma, and with commas between them
abbrev pub more_names : List Word → List ℕ → List ℕ
more_names words [] = []
more_names words (k ∷ ks) = codes ", " ++ (member_of words k ++ more_names words ks)

abbrev pub names_text : List Word → List ℕ → List ℕ
names_text words [] = []
names_text words (k ∷ ks) = member_of words k ++ more_names words ks

-- of a step in a section, at which words it may meet others; nothing of another step
unfoldable pub section_note : List Word → List Kind → Option Proposition → List Assignment → CStatement
section_note words kinds guard act =
    if is_section (way_of kinds guard act) then remark (codes "a critical section, for " ++ names_text words (met_words kinds guard act)) else nothing

-- a step of the program, by the kinds of its words
unfoldable pub step_of : List Word → List Kind → List ℕ → Option Proposition → List Assignment → CStatement
step_of words kinds mark guard act =
    section_note words kinds guard (moving act)
    ⨾ step_by words kinds (marked mark) (way_of kinds guard (moving act)) (test_of (widths_of words) guard) (map (given_of (widths_of words)) (moving act))
