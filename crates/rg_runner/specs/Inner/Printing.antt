-- What the log's private functions promise.
use Rattle.std.specs.Prelude.{ℕ, List, Option}
use Rattle.std.specs.Io.KnownBytes.{Appends, append_known}
use Rattle.rg_tree.specs.Statements.{ProgramTree}
use Rattle.rg_monitor.specs.Lines.{lines_of}
use Rattle.rg_runner.specs.declared.log.Log.{Log}

-- what a writer took and what waits after it are the lines of the printed records, after this text
abbrev pub Holds : ProgramTree → Option (List ℕ) → Option (List ℕ) → Log → Type 0
Holds p base taken log = Appends base (append_known taken log.waiting.items) (lines_of p log.printed.items)

-- where that was so, it is so again
abbrev pub Prints : ProgramTree → Option (List ℕ) → Log → Option (List ℕ) → Log → Type 0
Prints p old log new log' = (base : Option (List ℕ)) → Holds p base old log → Holds p base new log'
