-- Declarations: their words, and their faults in the order of the text.
use Rattle.std.specs.Prelude.{false, ◌&&◌, nat_le, List, [], ◌∷◌, ◌++◌, map, is_none}
use Rattle.rg_words.specs.declared.limits.TheConstants.{MOST_WIDTH}
use Rattle.rg_words.specs.declared.refusal.RefusalNumber.TheVariants.{NameTwice, Width}
use Rattle.rg_words.specs.Layout.{Word, index_of}
use Rattle.rg_text.specs.Text.{Leaf}
use Rattle.rg_syntax.specs.Written.{Claim, DeclaredWord}
use Rattle.rg_resolve.specs.Faults.{Fault, number_of, unless, claim_faults}

-- the word that is declared
abbrev pub word_of : DeclaredWord → Word
word_of d = record { name = d.name.text; width = number_of d.width.text; fixed = d.fixed }

-- the words that declarations stand for
abbrev pub words_of : List DeclaredWord → List Word
words_of declarations = map word_of declarations

-- the fault of a name after these words: one of them has it
abbrev pub name_faults : List Word → Leaf → List Fault
name_faults before x = unless (is_none (index_of before x.text)) NameTwice x.line

-- the fault of a width: it is not from 1 to 64
abbrev pub width_faults : Leaf → List Fault
width_faults n = unless (nat_le 1 (number_of n.text) && nat_le (number_of n.text) MOST_WIDTH) Width n.line

-- the faults of declarations after these words
unfoldable pub faults_after : List Word → List DeclaredWord → List Fault
faults_after before [] = []
faults_after before (d ∷ ds) = (name_faults before d.name ++ width_faults d.width) ++ faults_after (before ++ word_of d ∷ []) ds

-- the faults of declarations, and of declarations with a formula over them that may speak of two states
abbrev pub declaration_faults : List DeclaredWord → List Fault
declaration_faults declarations = faults_after [] declarations

-- the faults of a text to show: those of its declarations, and then those of its formula
abbrev pub shown_faults : List DeclaredWord → Claim → List Fault
shown_faults declarations f = declaration_faults declarations ++ claim_faults (words_of declarations) false f
