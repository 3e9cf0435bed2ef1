-- Which bytes spell a start or moves over declared words, and why others are refused.
use Rattle.std.specs.Prelude.{◌≡◌, ℕ, List}
use Rattle.rg_words.specs.declared.refusal.Refusal.{Refusal}
use Rattle.rg_words.specs.declared.refusal.SourceFile.TheVariants.{Start, Moves}
use Rattle.rg_words.specs.Layout.{Word}
use Rattle.rg_tree.specs.Moves.{MoveTree}
use Rattle.rg_syntax.specs.declared.text_kind.TextKind.TheVariants as texts
use Rattle.rg_resolve.specs.Settings.{settings_faults, moves_faults, StartStandsFor, MovesStandFor}
use Rattle.rg_parse.specs.Spelled.{Spells, IsTextRefusal}

-- the bytes spell settings that stand for this state
abbrev pub SpellsStart : List Word → List ℕ → List ℕ → Type 0
SpellsStart words source state = Spells texts.Start (StartStandsFor words) source state

-- why the bytes of a start are refused
abbrev pub IsStartRefusal : List Word → List ℕ → Refusal → Type 0
IsStartRefusal words source e = IsTextRefusal texts.Start (settings_faults words) Start source e

-- the bytes spell these moves
abbrev pub SpellsMoves : List Word → List ℕ → List MoveTree → Type 0
SpellsMoves words source ms = Spells texts.Moves (MovesStandFor words) source ms

-- why the bytes of moves are refused
abbrev pub IsMovesRefusal : List Word → List ℕ → Refusal → Type 0
IsMovesRefusal words source e = IsTextRefusal texts.Moves (moves_faults words) Moves source e

-- the same bytes spell one state, and one list of moves
abbrev pub OneSpelledStart : Type 0
OneSpelledStart = (words : List Word) (source s t : List ℕ) → SpellsStart words source s → SpellsStart words source t → s ≡ t

-- bytes spell one list of moves at most
abbrev pub OneSpelledMoves : Type 0
OneSpelledMoves = (words : List Word) (source : List ℕ) (ms ns : List MoveTree) → SpellsMoves words source ms → SpellsMoves words source ns → ms ≡ ns
