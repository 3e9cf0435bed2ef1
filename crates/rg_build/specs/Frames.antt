-- The open parts of a text, without where they lie in memory.
use Rattle.std.specs.Prelude.{ℕ, Bool, List, map, reverse, Vec}
use Rattle.std.specs.Global.{Global}
use Rattle.rg_words.specs.declared.operators.Comparison.{Comparison}
use Rattle.rg_words.specs.declared.operators.Operator.{Operator}
use Rattle.rg_words.specs.declared.operators.Shift.{Shift}
use Rattle.rg_text.specs.declared.kind.Junction.{Junction}
use Rattle.rg_text.specs.declared.kind.Conditional.{Conditional}
use Rattle.rg_text.specs.Text.{Leaf, leaf_of}
use Rattle.rg_syntax.specs.Written.{Term, Claim, DeclaredWord, SettingTree, WrittenMove, term, claim, declared_word, setting, move_text}
use Rattle.rg_build.specs.declared.frames.Item.{Item}
use Rattle.rg_build.specs.declared.frames.Item.TheVariants as items
use Rattle.rg_build.specs.declared.frames.Setter.{Setter}
use Rattle.rg_build.specs.declared.frames.Setter.TheVariants as setters
use Rattle.rg_build.specs.declared.frames.Frame.{Frame}
use Rattle.rg_build.specs.declared.frames.Frame.TheVariants as frames

-- a formula or an expression as written
pub data Piece : Type 0 where
  a_claim : Claim → Piece
  a_term : Term → Piece

abbrev pub piece : List ℕ → Item → Piece
piece src (items.Formula f) = a_claim (claim src f)
piece src (items.Expression e) = a_term (term src e)

-- what words are set for: a start, or a move of this number after others
pub data SetFor : Type 0 where
  for_start : SetFor
  for_move : List WrittenMove → Leaf → SetFor

abbrev pub setter_of : List ℕ → Setter → SetFor
setter_of src setters.Start = for_start
setter_of src (setters.Move ms n) = for_move (map (move_text src) ms.items) (leaf_of src n)

-- a part of a text, up to what is wanted next
pub data Open : Type 0 where
  whole : Open
  negated : Open
  inverted : Open
  first : Open
  another : Junction → Claim → Open
  second : Conditional → Claim → Open
  comparing : Comparison → Term → Open
  operating : Operator → Term → Open
  chosen : Open
  condition : Open
  consequent : Claim → Open
  alternative : Claim → Term → Open
  finished : Claim → Open
  after_claim : Claim → Open
  after_term : Term → Open
  after_next : Junction → Claim → Open
  counted : Shift → Term → Open
  closing : Piece → Open
  after_condition : Claim → Open
  after_consequent : Claim → Term → Open
  declaring : List DeclaredWord → Bool → Open
  declared : List DeclaredWord → Bool → Leaf → Open
  showing : List DeclaredWord → Open
  finished_show : List DeclaredWord → Claim → Open
  setting_words : SetFor → List SettingTree → Open
  set_word : SetFor → List SettingTree → Leaf → Open
  moving : List WrittenMove → Open
  whole_value : Open
  valued : Term → Open

abbrev pub open_of : List ℕ → Frame → Open
open_of src frames.Whole = whole
open_of src frames.Negated = negated
open_of src frames.Inverted = inverted
open_of src frames.First = first
open_of src (frames.Next j f) = another j (claim src f)
open_of src (frames.Second d f) = second d (claim src f)
open_of src (frames.Compared c a) = comparing c (term src a)
open_of src (frames.Operated o a) = operating o (term src a)
open_of src frames.Chosen = chosen
open_of src frames.Condition = condition
open_of src (frames.Consequent f) = consequent (claim src f)
open_of src (frames.Alternative f a) = alternative (claim src f) (term src a)
open_of src (frames.End f) = finished (claim src f)
open_of src (frames.AfterFormula f) = after_claim (claim src f)
open_of src (frames.AfterExpression a) = after_term (term src a)
open_of src (frames.AfterNext j f) = after_next j (claim src f)
open_of src (frames.Counted s a) = counted s (term src a)
open_of src (frames.Closing x) = closing (piece src x)
open_of src (frames.AfterCondition f) = after_condition (claim src f)
open_of src (frames.AfterConsequent f a) = after_consequent (claim src f) (term src a)
open_of src (frames.Declaring ws b) = declaring (map (declared_word src) ws.items) b
open_of src (frames.Declared ws b n) = declared (map (declared_word src) ws.items) b (leaf_of src n)
open_of src (frames.Showing ws) = showing (map (declared_word src) ws.items)
open_of src (frames.ShowEnd ws f) = finished_show (map (declared_word src) ws.items) (claim src f)
open_of src (frames.Settings w ss) = setting_words (setter_of src w) (map (setting src) ss.items)
open_of src (frames.SettingWord w ss l) = set_word (setter_of src w) (map (setting src) ss.items) (leaf_of src l)
open_of src (frames.Moves ms) = moving (map (move_text src) ms.items)
open_of src frames.WholeValue = whole_value
open_of src (frames.Valued a) = valued (term src a)

-- the open parts on the builder's stack, the innermost first
abbrev pub stack : List ℕ → Vec Frame Global → List Open
stack src frames = map (open_of src) (reverse frames.items)
