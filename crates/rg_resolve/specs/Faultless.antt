-- Declared words, texts to show and programs have no faults exactly where they stand for something.
use Rattle.std.specs.Prelude.{◌≡◌, ◌↔◌, ◌≤◌, false, List, [], length, All}
use Rattle.rg_words.specs.declared.limits.TheConstants.{MOST_WORDS}
use Rattle.rg_words.specs.Names.{IsName}
use Rattle.rg_words.specs.Layout.{IsLayout}
use Rattle.rg_tree.specs.Trees.{Proposition}
use Rattle.rg_tree.specs.Statements.{ProgramTree}
use Rattle.rg_syntax.specs.Written.{Claim, DeclaredWord, WrittenProgram}
use Rattle.rg_syntax.specs.ProgramLimits.{IsWithinLimits}
use Rattle.rg_resolve.specs.Typing.{ClaimStandsFor}
use Rattle.rg_resolve.specs.Words.{words_of, declaration_faults, shown_faults}
use Rattle.rg_resolve.specs.Programs.{program_faults}
use Rattle.rg_resolve.specs.ProgramTyping.{ProgramStandsFor}

-- what tokens of the right shape keep of declarations: at most 64, and what is declared is a name
pub record AreDeclarable (declarations : List DeclaredWord) : Type 0 where
  pub count : length declarations ≤ MOST_WORDS
  pub names : All (λ d. IsName d.name.text) declarations

-- declarations have no faults exactly where their words are those of a layout
abbrev pub FaultlessWords : Type 0
FaultlessWords = (declarations : List DeclaredWord) → AreDeclarable declarations → (declaration_faults declarations ≡ []) ↔ IsLayout (words_of declarations)

-- a text to show has no faults exactly where its words are those of a layout and its formula stands for a tree over them
abbrev pub FaultlessShown : Type 0
FaultlessShown = (declarations : List DeclaredWord) (f : Claim) → AreDeclarable declarations → (shown_faults declarations f ≡ []) ↔ (IsLayout (words_of declarations) × ((p : Proposition) × ClaimStandsFor (words_of declarations) false f p))

-- a program within the limits has no faults exactly where it stands for a tree
abbrev pub FaultlessProgram : Type 0
FaultlessProgram = (p : WrittenProgram) → AreDeclarable p.words → IsWithinLimits p → (program_faults p ≡ []) ↔ ((t : ProgramTree) × ProgramStandsFor p t)
