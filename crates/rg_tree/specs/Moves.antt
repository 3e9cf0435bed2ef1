-- Moves of the environment, and values that are given to words.
use Rattle.std.specs.Prelude.{◌≢◌, ℕ, ◌<◌, ◌^◌, List, [], ◌∷◌, length, slice_index, slice_set, All}
use Rattle.rg_words.specs.Layout.{Word, widths_of}
use Rattle.rg_tree.specs.declared.moves.WordValue.{WordValue}
use Rattle.rg_tree.specs.declared.moves.Move.{Move}

-- a move, without where it lies in memory
pub record MoveTree : Type 0 where
  pub at : ℕ
  pub values : List WordValue

-- a move of the code, without where it lies in memory
abbrev pub move : Move → MoveTree
move m = record { at = m.at; values = m.values.items }

-- a state after these values are given to their words, in order
abbrev pub given : List WordValue → List ℕ → List ℕ
given [] s = s
given (v ∷ vs) s = given vs (slice_set s v.word v.value)

-- a value of a word that is there, below 2 to the power of its width
pub record IsValueOf (widths : List ℕ) (v : WordValue) : Type 0 where
  pub word : v.word < length widths
  pub small : v.value < 2 ^ slice_index widths v.word

-- no two of these values are of one word
abbrev pub OnePerWord : List WordValue → Type 0
OnePerWord [] = Unit {0}
OnePerWord (v ∷ vs) = All (λ u. u.word ≢ v.word) vs × OnePerWord vs

-- these values are of words that are there, each once
pub record IsChange (words : List Word) (values : List WordValue) : Type 0 where
  pub each : All (IsValueOf (widths_of words)) values
  pub once : OnePerWord values

-- so are the values of each of these moves
abbrev pub AreMoves : List Word → List MoveTree → Type 0
AreMoves words [] = Unit {0}
AreMoves words (m ∷ ms) = IsChange words m.values × AreMoves words ms
