-- The text of a formula, read back.
use Rattle.std.specs.Prelude.{◌≡◌, ℕ, ◌+◌, ◌≤◌, max, Bool, true, false, ◌||◌, List, [], length, map, IsTrue}
use Rattle.rg_words.specs.declared.limits.TheConstants.{MOST_TEXT_BYTES, MOST_OPENERS}
use Rattle.rg_words.specs.Layout.{Word, IsLayout, widths_of}
use Rattle.rg_text.specs.declared.token.Token.{Token}
use Rattle.rg_text.specs.Tokenization.{IsTokenized}
use Rattle.rg_tree.specs.Trees.{Expression, Proposition, number, word, next_word, inverse, binary, shifted, choice, truth, negation, connected, compared}
use Rattle.rg_tree.specs.Typing.{IsTyped}
use Rattle.rg_tree.specs.Printed.{formula_text}
use Rattle.rg_syntax.specs.Grammar.{FormulaSpelling, formula, lexeme_of}
use Rattle.rg_syntax.specs.Written.{Claim}
use Rattle.rg_syntax.specs.Texts.{claim_of}
use Rattle.rg_resolve.specs.Typing.{ClaimStandsFor}
use Rattle.rg_parse.specs.Shown.{SpellsFormula}

-- an expression has a word, plain or primed, outside the formulas of `(if ..)`
abbrev pub names_word : Expression → Bool
names_word (number w n) = false
names_word (word k) = true
names_word (next_word k) = true
names_word (inverse w a) = names_word a
names_word (binary o w a b) = names_word a || names_word b
names_word (shifted d w a k) = names_word a
names_word (choice f a b) = names_word a || names_word b

abbrev mutual
  -- so has each comparison in an expression
  pub ComparesWordsInside : Expression → Type 0
  ComparesWordsInside (number w n) = Unit {0}
  ComparesWordsInside (word k) = Unit {0}
  ComparesWordsInside (next_word k) = Unit {0}
  ComparesWordsInside (inverse w a) = ComparesWordsInside a
  ComparesWordsInside (binary o w a b) = ComparesWordsInside a × ComparesWordsInside b
  ComparesWordsInside (shifted d w a k) = ComparesWordsInside a
  ComparesWordsInside (choice f a b) = ComparesWords f × ComparesWordsInside a × ComparesWordsInside b

  -- each comparison of a formula has a word on one of its sides at least
  pub ComparesWords : Proposition → Type 0
  ComparesWords (truth b) = Unit {0}
  ComparesWords (negation f) = ComparesWords f
  ComparesWords (connected c f g) = ComparesWords f × ComparesWords g
  ComparesWords (compared c a b) = IsTrue (names_word a || names_word b) × ComparesWordsInside a × ComparesWordsInside b

abbrev mutual
  -- how many openers are open at once in the text of an expression, at most
  pub expression_openers : Expression → ℕ
  expression_openers (number w n) = 0
  expression_openers (word k) = 0
  expression_openers (next_word k) = 0
  expression_openers (inverse w a) = 1 + expression_openers a
  expression_openers (binary o w a b) = 1 + max (expression_openers a) (expression_openers b)
  expression_openers (shifted d w a k) = 1 + expression_openers a
  expression_openers (choice f a b) = 2 + max (formula_openers f) (max (expression_openers a) (expression_openers b))

  -- and in the text of a formula: `not`, `inv`, each parenthesis, and `if` after its own
  pub formula_openers : Proposition → ℕ
  formula_openers (truth b) = 0
  formula_openers (negation f) = 1 + formula_openers f
  formula_openers (connected c f g) = 1 + max (formula_openers f) (formula_openers g)
  formula_openers (compared c a b) = 1 + max (expression_openers a) (expression_openers b)

-- the tokens of the bytes are, whatever their number and depth, a formula that stands for this one over the words
pub record SpellsAtAnySize (words : List Word) (source : List ℕ) (f : Proposition) : Type 0 where
  pub tokens : List Token
  pub spelling : FormulaSpelling
  pub tokenized : IsTokenized source tokens
  pub spelled : map (lexeme_of source) tokens ≡ formula spelling []
  pub stands : ClaimStandsFor words false (claim_of spelling) f

-- the text of a typed formula, each of whose comparisons has a word, spells this formula
abbrev pub PrintedSpells : Type 0
PrintedSpells = (words : List Word) (f : Proposition) → IsLayout words → IsTyped (widths_of words) f → ComparesWords f → SpellsAtAnySize words (formula_text words f []) f

-- it is read as this formula, where it is within the limits
abbrev pub PrintedIsRead : Type 0
PrintedIsRead = (words : List Word) (f : Proposition) → IsLayout words → IsTyped (widths_of words) f → ComparesWords f
    → length (formula_text words f []) ≤ MOST_TEXT_BYTES → formula_openers f ≤ MOST_OPENERS → SpellsFormula words (formula_text words f []) f

-- in a formula that a text stands for each comparison has a word
abbrev pub ReadComparesWords : Type 0
ReadComparesWords = (words : List Word) (one_state : Bool) (c : Claim) (f : Proposition) → ClaimStandsFor words one_state c f → ComparesWords f

-- so a formula that was read over the words of a layout is spelled by its own text
abbrev pub ReadPrintsBack : Type 0
ReadPrintsBack = (words : List Word) (one_state : Bool) (c : Claim) (f : Proposition) → IsLayout words → ClaimStandsFor words one_state c f → SpellsAtAnySize words (formula_text words f []) f
