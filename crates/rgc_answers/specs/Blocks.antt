-- The conditions of a derivation as texts, one after another.
use Rattle.std.specs.Prelude.{ℕ, ◌+◌, Bool, true, false, List, [], ◌∷◌, ◌++◌, codes}
use Rattle.std.specs.Fmt.{decimal}
use Rattle.rg_words.specs.Layout.{Word}
use Rattle.rg_tree.specs.ConditionTrees.{ConditionTree}
use Rattle.rg_tree.specs.Lines.{LineTree}
use Rattle.rg_tree.specs.Printed.{formula_text}
use Rattle.rg_tree.specs.Statements.{ProgramTree}
use Rattle.rg_accept.specs.Accepted.{conditions_of}
use Rattle.rg_accept.specs.Names.{names_of_conditions}
use Rattle.rgc_answers.specs.Formulas.{formula_of}

-- what stands before the name of a word
abbrev pub fixed_text : Bool → List ℕ
fixed_text true = codes " fixed "
fixed_text false = codes " "

-- a declared word
abbrev pub word_text : Bool → List ℕ → ℕ → List ℕ
word_text fixed name width = fixed_text fixed ++ (name ++ (codes ":" ++ decimal width))

-- declared words
abbrev pub words_text : List Word → List ℕ
words_text [] = []
words_text (w ∷ words) = word_text w.fixed w.name w.width ++ words_text words

-- a condition as a text to show: its words on a line, and its formula on the next
abbrev pub shown_text : ConditionTree → List ℕ
shown_text c = codes "words" ++ (words_text c.words ++ (codes "\nshow " ++ (formula_text c.words (formula_of c) [] ++ codes "\n")))

-- the number and the name of a condition on a line, its text, and an empty line
abbrev pub block_text : ℕ → List ℕ → ConditionTree → List ℕ
block_text k name c = decimal k ++ (codes " " ++ (name ++ (codes "\n" ++ (shown_text c ++ codes "\n"))))

-- conditions with their names, the first of which has this number
abbrev pub blocks_text : ℕ → List (List ℕ) → List ConditionTree → List ℕ
blocks_text k (name ∷ names) (c ∷ cs) = block_text k name c ++ blocks_text (k + 1) names cs
blocks_text k _ _ = []

-- all conditions of a program and the lines of its derivation
abbrev pub formulas_text : ProgramTree → List LineTree → List ℕ
formulas_text p lines = blocks_text 1 (names_of_conditions p lines) (conditions_of p lines)
