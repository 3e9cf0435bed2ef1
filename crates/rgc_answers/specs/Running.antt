-- What `run` printed.
use Rattle.std.specs.Prelude.{◌≡◌, ℕ, ◌+◌, List, [], ◌++◌, codes, length, replicate, Option, Some, None}
use Rattle.std.specs.List.{flat_map}
use Rattle.std.specs.Borrow.{Bor}
use Rattle.rg_words.specs.Layout.{Word}
use Rattle.rg_words.specs.Refusals.{refused_in, refusal_text}
use Rattle.rg_words.specs.declared.refusal.SourceFile.TheVariants.{Moves}
use Rattle.rg_words.specs.declared.refusal.Place.TheVariants.{Move}
use Rattle.rg_tree.specs.Moves.{MoveTree}
use Rattle.rg_tree.specs.Statements.{ProgramTree}
use Rattle.rg_tree.specs.Traces.{State}
use Rattle.rg_code.specs.Code.{BlockTree}
use Rattle.rg_parse.specs.Inputs.{SpellsStart, SpellsMoves}
use Rattle.rg_floor.specs.Turns.{ClosedView}
use Rattle.rg_floor.specs.declared.closed.Passed.{Passed}
use Rattle.rg_floor.specs.declared.turn.Why.{Why}
use Rattle.rg_floor.specs.declared.turn.Why.TheVariants.{Ended, Limit, Stuck, Stopped}
use Rattle.rg_runner.specs.Running.{IsLeftOf}
use Rattle.rgc_answers.specs.declared.running.Run.{Run}

-- the state at the start: the one that the bytes spell; without any each word is 0
abbrev pub StartsAt : List Word → Option (Bor (List ℕ)) → State → Type 0
StartsAt words None s = s ≡ replicate (length words) 0
StartsAt words (Some bytes) s = SpellsStart words bytes.now s

-- the moves that the bytes spell; without any there are none
abbrev pub AreTheMoves : List Word → Option (Bor (List ℕ)) → List MoveTree → Type 0
AreTheMoves words None ms = ms ≡ []
AreTheMoves words (Some bytes) ms = SpellsMoves words bytes.now ms

-- the line that says why a run is over
abbrev pub why_text : Why → List ℕ
why_text Ended = codes "ended\n"
why_text Limit = codes "limit\n"
why_text Stuck = codes "stuck\n"
why_text Stopped = codes "stopped\n"

-- a move that was passed over: why, and its number in the file
abbrev pub passed_line : Passed → List ℕ
passed_line p = refusal_text (refused_in p.refusal Moves (Move p.number)) ++ codes "\n"

-- moves that were passed over, a line each
abbrev pub passed_text : List Passed → List ℕ
passed_text = flat_map passed_line

-- this is left of a run of the code from the start, with its moves and at most so many steps of parts as it may make
pub record IsRunLeft (program : ProgramTree) (blocks : List (List BlockTree)) (run : Run) (closed : ClosedView) : Type 0 where
  pub first : State
  pub starts : StartsAt program.words run.start first
  pub moving : List MoveTree
  pub moved : AreTheMoves program.words run.moves moving
  pub left : IsLeftOf program blocks first run.limit moving closed
