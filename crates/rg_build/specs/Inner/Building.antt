-- The open parts after all tokens of a text, and what is whole there.
use Rattle.std.specs.Prelude.{List, [], ◌∷◌, ◌++◌, Option, Some, None}
use Rattle.rg_syntax.specs.Grammar.{Lexeme}
use Rattle.rg_syntax.specs.Written.{Claim, ShownClaim, SettingTree, WrittenMove}
use Rattle.rg_build.specs.Frames.{Open, finished, finished_show, SetFor, for_start, for_move, setting_words, moving}
use Rattle.rg_build.specs.Steps.{step}

abbrev pub steps : List Open → List Lexeme → List Open
steps os [] = os
steps os (l ∷ ls) = steps (step os l) ls

-- the formula, where nothing else is open
abbrev pub whole_of : List Open → Option Claim
whole_of (finished f ∷ os) = Some f
whole_of _ = None

-- the words and the formula, where nothing else is open
abbrev pub whole_show_of : List Open → Option ShownClaim
whole_show_of (finished_show ws f ∷ os) = Some (record { words = ws; formula = f })
whole_show_of _ = None

-- the words that a start sets
abbrev pub whole_start_of : List Open → Option (List SettingTree)
whole_start_of (setting_words for_start ss ∷ os) = Some ss
whole_start_of _ = None

-- the moves up to the one that sets these words
abbrev pub with_last : SetFor → List SettingTree → Option (List WrittenMove)
with_last for_start ss = None
with_last (for_move ms n) ss = Some (ms ++ record { number = n; settings = ss } ∷ [])

-- all moves, with the last
abbrev pub whole_moves_of : List Open → Option (List WrittenMove)
whole_moves_of (moving ms ∷ os) = Some ms
whole_moves_of (setting_words w ss ∷ os) = with_last w ss
whole_moves_of _ = None
