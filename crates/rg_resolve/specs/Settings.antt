-- Settings of words, as a start and a move have them: their faults in the order of the text, and the values that they stand for.
use Rattle.std.specs.Prelude.{◌≡◌, ◌≢◌, ◌↔◌, ℕ, ◌<◌, ◌≤◌, ◌^◌, Bool, not, List, [], ◌∷◌, ◌++◌, length, replicate, Option, Some, None, All}
use Rattle.std.specs.List.{list_any, flat_map}
use Rattle.std.specs.Str.{bytes_eq}
use Rattle.rg_words.specs.declared.limits.TheConstants.{MOST_PLAIN_NUMBER}
use Rattle.rg_words.specs.declared.refusal.RefusalNumber.TheVariants.{UnknownName, NameTwice}
use Rattle.rg_words.specs.Layout.{Word, index_of}
use Rattle.rg_text.specs.Text.{Leaf}
use Rattle.rg_tree.specs.declared.moves.WordValue.{WordValue}
use Rattle.rg_tree.specs.Moves.{MoveTree, given}
use Rattle.rg_syntax.specs.Written as written
use Rattle.rg_syntax.specs.Written.{SettingTree}
use Rattle.rg_resolve.specs.Faults.{Fault, number_of, width_at, group_at, unless, number_faults, plain_faults, faults_in_turn}

-- one of these settings names this word
abbrev pub is_named : List SettingTree → List ℕ → Bool
is_named settings name = list_any (λ s. bytes_eq name s.word.text) settings

-- the fault of a named word after these settings: it isn't declared, or is named twice
abbrev pub named_faults : List SettingTree → Leaf → Option ℕ → List Fault
named_faults before x None = record { number = UnknownName; line = x.line } ∷ []
named_faults before x (Some k) = unless (not (is_named before x.text)) NameTwice x.line

-- the faults of a setting after these settings; a word that isn't declared asks nothing of its number
unfoldable pub setting_faults : List Word → List SettingTree → SettingTree → List Fault
setting_faults words before s =
    named_faults before s.word (index_of words s.word.text) ++ number_faults (group_at words (index_of words s.word.text)) s.value.line (number_of s.value.text)

-- the faults of the settings of a start, or of one move
abbrev pub settings_faults : List Word → List SettingTree → List Fault
settings_faults words settings = faults_in_turn (setting_faults words) [] settings

-- the faults of a move: its number is too large, or its settings have faults
unfoldable pub move_faults : List Word → written.WrittenMove → List Fault
move_faults words m = plain_faults m.number ++ settings_faults words m.settings

-- the faults of all moves, one move after another
abbrev pub moves_faults : List Word → List written.WrittenMove → List Fault
moves_faults words moves = flat_map (move_faults words) moves

-- a setting stands for the value of a word: the word is declared, and the number is below 2 to the power of its width
pub record SettingStandsFor (words : List Word) (s : SettingTree) (v : WordValue) : Type 0 where
  pub word : index_of words s.word.text ≡ Some v.word
  pub value : number_of s.value.text ≡ v.value
  pub small : v.value < 2 ^ width_at words v.word

-- after other values, settings stand for these, one by one, and none is of a word that has one already
abbrev pub StandAfter : List Word → List WordValue → List SettingTree → List WordValue → Type 0
StandAfter words before [] [] = Unit {0}
StandAfter words before (s ∷ ss) (v ∷ vs) = SettingStandsFor words s v × All (λ u. u.word ≢ v.word) before × StandAfter words (before ++ v ∷ []) ss vs
StandAfter words before [] (v ∷ vs) = ⊥
StandAfter words before (s ∷ ss) [] = ⊥

-- settings stand for values of words, one by one, each of a word of its own
abbrev pub SettingsStandFor : List Word → List SettingTree → List WordValue → Type 0
SettingsStandFor words settings values = StandAfter words [] settings values

-- settings stand for the state in which the named words have these values, and every other word is 0
pub record StartStandsFor (words : List Word) (settings : List SettingTree) (state : List ℕ) : Type 0 where
  pub values : List WordValue
  pub stand : SettingsStandFor words settings values
  pub is : state ≡ given values (replicate (length words) 0)

-- a move as written stands for a move
pub record MoveStandsFor (words : List Word) (m : written.WrittenMove) (tree : MoveTree) : Type 0 where
  pub at : number_of m.number.text ≡ tree.at
  pub small : tree.at ≤ MOST_PLAIN_NUMBER
  pub values : SettingsStandFor words m.settings tree.values

-- moves stand for moves, one by one
abbrev pub MovesStandFor : List Word → List written.WrittenMove → List MoveTree → Type 0
MovesStandFor words [] [] = Unit {0}
MovesStandFor words (m ∷ ms) (t ∷ ts) = MoveStandsFor words m t × MovesStandFor words ms ts
MovesStandFor words [] (t ∷ ts) = ⊥
MovesStandFor words (m ∷ ms) [] = ⊥

-- settings stand for one state at most, and moves for one list of moves
abbrev pub OneStateOfSettings : Type 0
OneStateOfSettings = (words : List Word) (settings : List SettingTree) (s t : List ℕ) → StartStandsFor words settings s → StartStandsFor words settings t → s ≡ t

-- moves as written stand for one list of moves at most
abbrev pub OneListOfMoves : Type 0
OneListOfMoves = (words : List Word) (moves : List written.WrittenMove) (s t : List MoveTree) → MovesStandFor words moves s → MovesStandFor words moves t → s ≡ t

-- settings stand for a state exactly where they have no faults, and so do moves
abbrev pub FaultlessStart : Type 0
FaultlessStart = (words : List Word) (settings : List SettingTree) → (settings_faults words settings ≡ []) ↔ ((s : List ℕ) × StartStandsFor words settings s)

-- moves as written stand for moves exactly where they have no faults
abbrev pub FaultlessMoves : Type 0
FaultlessMoves = (words : List Word) (moves : List written.WrittenMove) → (moves_faults words moves ≡ []) ↔ ((s : List MoveTree) × MovesStandFor words moves s)
