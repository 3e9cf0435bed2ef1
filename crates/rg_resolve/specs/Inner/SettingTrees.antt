-- The values and the moves that settings without faults stand for.
use Rattle.std.specs.Prelude.{List, map}
use Rattle.rg_words.specs.Layout.{Word}
use Rattle.rg_tree.specs.declared.moves.WordValue.{WordValue}
use Rattle.rg_tree.specs.Moves.{MoveTree}
use Rattle.rg_syntax.specs.Written as written
use Rattle.rg_syntax.specs.Written.{SettingTree}
use Rattle.rg_resolve.specs.Faults.{number_of}
use Rattle.rg_resolve.specs.Inner.FormulaTrees.{place_of}

-- the value that a setting gives its word
abbrev pub word_value : List Word → SettingTree → WordValue
word_value words s = record { word = place_of words s.word.text; value = number_of s.value.text }

abbrev pub word_values : List Word → List SettingTree → List WordValue
word_values words settings = map (word_value words) settings

-- the move that a move as written gives
abbrev pub move_tree : List Word → written.WrittenMove → MoveTree
move_tree words m = record { at = number_of m.number.text; values = word_values words m.settings }

abbrev pub move_trees : List Word → List written.WrittenMove → List MoveTree
move_trees words moves = map (move_tree words) moves
