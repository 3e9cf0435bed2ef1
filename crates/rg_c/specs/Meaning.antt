-- What statements of C do where nothing comes between.
use Rattle.std.specs.Prelude.{ℕ, ◌+◌, Bool, true, false, nat_eq, nat_lt, List, [], ◌∷◌, map, slice_index, slice_set, if◌then◌else◌}
use Rattle.rg_words.specs.Layout.{Word}
use Rattle.rg_tree.specs.Traces.{State}
use Rattle.rg_c_values.specs.declared.print.Read.{Read}
use Rattle.rg_c_values.specs.declared.print.Read.TheVariants.{Plain, Load, Local}
use Rattle.rg_c_values.specs.CTrees.{CValue, CTest}
use Rattle.rg_c_values.specs.Arithmetic.{c_value, c_holds}
use Rattle.rg_c_values.specs.Arrays.{array_length}
use Rattle.rg_c.specs.declared.tree.Flag.{Flag}
use Rattle.rg_c.specs.declared.tree.Flag.TheVariants.{Done, Go}
use Rattle.rg_c.specs.CStatements.{Question, asks, flag, Place, member, item, CStatement, nothing, ◌⨾◌, reading, remark, hook, calls, loads, discards, begins, copies, changes, writes, stores, exchanges, returns, declares, decides, breaks, block, forever, when, unless, either}

-- the words' values, those of the locals that stand for words, `rgc_old`, `rgc_done`, and the flag of each place
pub record Machine : Type 0 where
  pub memory : State
  pub locals : List ℕ
  pub old : ℕ
  pub is_done : Bool
  pub goes : ℕ → Bool

-- the words in this state; nothing is known of the others, which are as they happen to be
abbrev pub begun : State → Machine
begun s = record { memory = s; locals = map (λ x. 0) s; old = 0; is_done = false; goes = λ place. false }

-- what is read of a word with this value, whose local has this one
abbrev pub read_from : Read → ℕ → ℕ → ℕ
read_from Plain x y = x
read_from Load x y = x
read_from Local x y = y

-- and of all words, read so
abbrev pub seen : List Read → State → List ℕ → State
seen (r ∷ reads) (x ∷ s) (y ∷ ls) = read_from r x y ∷ seen reads s ls
seen reads s ls = s

abbrev pub sees : List Read → Machine → State
sees reads m = seen reads m.memory m.locals

-- a word gets a value; so does its local
abbrev pub word_set : Machine → ℕ → ℕ → Machine
word_set m k x = record m { memory = slice_set m.memory k x }

abbrev pub local_set : Machine → ℕ → ℕ → Machine
local_set m k x = record m { locals = slice_set m.locals k x }

-- a flag gets a value, and what it has
abbrev pub flag_set : Machine → Flag → Bool → Machine
flag_set m Done b = record m { is_done = b }
flag_set m (Go place) b = record m { goes = λ j. if nat_eq j place then b else m.goes j }

abbrev pub flag_of : Machine → Flag → Bool
flag_of m Done = m.is_done
flag_of m (Go place) = m.goes place

-- a question is answered by yes
abbrev pub answer : List Read → Question → Machine → Bool
answer reads (asks t) m = c_holds t (sees reads m)
answer reads (flag f) m = flag_of m f

-- how statements end: what stands behind them goes on; the loop around them ends; or no step is made, as in a loop that goes round. And the machine then
pub data Outcome : Type 0 where
  on : Machine → Outcome
  leaves : Machine → Outcome
  waits : Machine → Outcome

-- what stands behind is done
abbrev pub next : Outcome → (Machine → Outcome) → Outcome
next (on m) f = f m
next (leaves m) f = leaves m
next (waits m) f = waits m

-- the end of a loop's body
abbrev pub around : Outcome → Outcome
around (on m) = waits m
around (leaves m) = on m
around (waits m) = waits m

-- a value is written; beyond an array's end nothing is said of what comes
abbrev pub put : List Word → List Read → Place → ℕ → Machine → Outcome
put words reads (member k) x m = on (word_set m k x)
put words reads (item j e) x m = let i = c_value e (sees reads m) in if nat_lt i (array_length words j) then on (word_set m (j + i) x) else waits m

-- an exchange is made where the word has the value that was loaded
abbrev pub exchanged : ℕ → Machine → Machine
exchanged k m = if nat_eq (slice_index m.memory k) m.old then flag_set (word_set m k (slice_index m.locals k)) Done true else flag_set m Done false

-- what a statement does, words read so. Of a call nothing is said: it is part of no step
abbrev pub run : List Word → List Read → CStatement → Machine → Outcome
run words reads nothing m = on m
run words reads (a ⨾ b) m = next (run words reads a m) (run words reads b)
run words reads (reading others c) m = run words others c m
run words reads (remark text) m = on m
run words reads (hook text) m = on m
run words reads (calls name) m = waits m
run words reads (loads k) m = on (local_set m k (slice_index m.memory k))
run words reads (discards k) m = on m
run words reads (begins k) m = let x = slice_index m.memory k in on (local_set (record m { old = x }) k x)
run words reads (copies k) m = on (local_set m k (slice_index m.memory k))
run words reads (changes k v) m = on (local_set m k (c_value v (sees reads m)))
run words reads (writes p v) m = put words reads p (c_value v (sees reads m)) m
run words reads (stores p v) m = put words reads p (c_value v (sees reads m)) m
run words reads (exchanges k) m = on (exchanged k m)
run words reads (returns k) m = on (word_set m k (slice_index m.locals k))
run words reads (declares f) m = on (flag_set m f false)
run words reads (decides f t) m = on (flag_set m f (c_holds t (sees reads m)))
run words reads breaks m = leaves m
run words reads (block c) m = run words reads c m
run words reads (forever c) m = around (run words reads c m)
run words reads (when q c) m = if answer reads q m then run words reads c m else on m
run words reads (unless q c) m = if answer reads q m then on m else run words reads c m
run words reads (either q a b) m = if answer reads q m then run words reads a m else run words reads b m

-- a step is made to this state, or none is, in this one
pub data Step : Type 0 where
  made : State → Step
  none : State → Step

abbrev pub ended : Outcome → Step
ended (on m) = made m.memory
ended (leaves m) = none m.memory
ended (waits m) = none m.memory

-- what statements make of a state
abbrev pub done : List Word → CStatement → State → Step
done words c s = ended (run words [] c (begun s))
