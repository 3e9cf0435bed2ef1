-- The JSON values of a run, each in a line of its own, with their members in the order of their names.
use Rattle.std.specs.Prelude.{ℕ, List, [], ◌∷◌, ◌++◌, map, codes}
use Rattle.std.specs.List.{flat_map}
use Rattle.serde_json.specs.Data.{Data, array, object, member, no_members, number, string, unsigned}
use Rattle.serde_json.specs.View.{items_of}
use Rattle.rg_words.specs.Layout.{names_of}
use Rattle.rg_words.specs.Refusals.{printed_number}
use Rattle.rg_tree.specs.Statements.{PartTree, ProgramTree}
use Rattle.rg_tree.specs.Traces.{State}
use Rattle.rg_monitor.specs.Entry.{Entry}
use Rattle.rg_monitor.specs.Lines.{name_of}
use Rattle.rg_floor.specs.Turns.{ClosedView}
use Rattle.rg_floor.specs.declared.closed.Passed.{Passed}
use Rattle.rg_floor.specs.declared.turn.Why.{Why}
use Rattle.rg_floor.specs.declared.turn.Why.TheVariants.{Ended, Limit, Stuck, Stopped}
use Rattle.rgc_answers.specs.Lines.{json_line}

-- a word with its values before and after a step
abbrev pub word_data : List ℕ → ℕ → ℕ → Data
word_data name x y = object (member (codes "after") (number (unsigned y)) (member (codes "before") (number (unsigned x)) (member (codes "word") (string name) no_members)))

-- each word with its values before and after a step, in the order of declaration
abbrev pub words_data : List (List ℕ) → State → State → List Data
words_data (name ∷ names) (x ∷ xs) (y ∷ ys) = word_data name x y ∷ words_data names xs ys
words_data [] xs ys = []
words_data (name ∷ names) [] ys = []
words_data (name ∷ names) (x ∷ xs) [] = []

-- the names of the parts of these numbers
abbrev pub cover_data : List PartTree → List ℕ → Data
cover_data parts numbers = array (items_of (map (λ k. string (name_of parts k)) numbers))

-- a step: the parts whose guarantee it is inside, the line of the statement, its number, who made it, and the words
abbrev pub step_data : List ℕ → ℕ → ℕ → Data → Data → Data
step_data name n row cover words = object (member (codes "in") cover
    (member (codes "kind") (string (codes "record"))
    (member (codes "line") (number (unsigned row))
    (member (codes "number") (number (unsigned n))
    (member (codes "part") (string name)
    (member (codes "words") words no_members))))))

-- the record of a step
abbrev pub record_data : ProgramTree → Entry → Data
record_data program r = step_data (name_of program.parts r.who) r.number r.line (cover_data program.parts r.cover) (array (items_of (words_data (names_of program.words) r.before r.after)))

-- records, a line each
abbrev pub records_text : ProgramTree → List Entry → List ℕ
records_text program = flat_map (λ r. json_line (record_data program r))

-- a move that was passed over: its number, why it was refused, and how many records there were before it
abbrev pub passed_data : Passed → Data
passed_data p = object (member (codes "kind") (string (codes "passed"))
    (member (codes "move") (number (unsigned p.number))
    (member (codes "number") (number (unsigned (printed_number p.refusal)))
    (member (codes "records") (number (unsigned p.records)) no_members))))

-- moves that were passed over, a line each
abbrev pub passed_text : List Passed → List ℕ
passed_text = flat_map (λ p. json_line (passed_data p))

-- the word for why a run is over
abbrev pub why_name : Why → List ℕ
why_name Ended = codes "ended"
why_name Limit = codes "limit"
why_name Stuck = codes "stuck"
why_name Stopped = codes "stopped"

-- why a run is over
abbrev pub end_data : Why → Data
end_data why = object (member (codes "kind") (string (codes "run")) (member (codes "why") (string (why_name why)) no_members))

-- what stands after the records of a run: the moves that were passed over, and why it is over
abbrev pub ending_text : ClosedView → List ℕ
ending_text closed = passed_text closed.refused ++ json_line (end_data closed.why)

-- what is left of a run: its records, and what stands after them
abbrev pub run_text : ProgramTree → ClosedView → List ℕ
run_text program closed = records_text program closed.history ++ ending_text closed
