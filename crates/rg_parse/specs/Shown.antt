-- Which bytes spell a text to show or a formula, and why others are refused.
use Rattle.std.specs.Prelude.{◌≡◌, ℕ, false, List}
use Rattle.rg_words.specs.declared.refusal.Refusal.{Refusal}
use Rattle.rg_words.specs.declared.refusal.SourceFile.{SourceFile}
use Rattle.rg_words.specs.Layout.{Word, IsLayout}
use Rattle.rg_tree.specs.Trees.{Proposition}
use Rattle.rg_syntax.specs.declared.text_kind.TextKind.TheVariants as texts
use Rattle.rg_syntax.specs.Written.{ShownClaim}
use Rattle.rg_resolve.specs.Faults.{Fault, claim_faults}
use Rattle.rg_resolve.specs.Typing.{ClaimStandsFor}
use Rattle.rg_resolve.specs.Words.{words_of, shown_faults}
use Rattle.rg_parse.specs.Spelled.{Spells, IsTextRefusal}

-- what a text to show says stands for these words, which are a layout, and for this formula over them
pub record ShownStandsFor (c : ShownClaim) (shown : List Word × Proposition) : Type 0 where
  pub words_are : shown.0 ≡ words_of c.words
  pub layout : IsLayout shown.0
  pub stands : ClaimStandsFor shown.0 false c.formula shown.1

-- its faults, in the order of their tokens
abbrev pub faults_shown : ShownClaim → List Fault
faults_shown c = shown_faults c.words c.formula

-- the bytes spell these words, which are a layout, and this formula over them
abbrev pub SpellsShow : List ℕ → List Word → Proposition → Type 0
SpellsShow source words f = Spells texts.Show ShownStandsFor source (words, f)

-- the bytes spell this formula over the words
abbrev pub SpellsFormula : List Word → List ℕ → Proposition → Type 0
SpellsFormula words source f = Spells texts.Formula (ClaimStandsFor words false) source f

-- why bytes are refused: by their bytes, their shape or their meaning
abbrev pub IsShowRefusal : SourceFile → List ℕ → Refusal → Type 0
IsShowRefusal file source e = IsTextRefusal texts.Show faults_shown file source e

-- why the bytes of a formula over these words are refused
abbrev pub IsFormulaRefusal : SourceFile → List Word → List ℕ → Refusal → Type 0
IsFormulaRefusal file words source e = IsTextRefusal texts.Formula (claim_faults words false) file source e

-- the same bytes spell one thing
abbrev pub OneShown : Type 0
OneShown = (source : List ℕ) (words words' : List Word) (f f' : Proposition) → SpellsShow source words f → SpellsShow source words' f' → (words ≡ words') × (f ≡ f')

-- bytes spell one formula at most over these words
abbrev pub OneFormulaShown : Type 0
OneFormulaShown = (words : List Word) (source : List ℕ) (f f' : Proposition) → SpellsFormula words source f → SpellsFormula words source f' → f ≡ f'
