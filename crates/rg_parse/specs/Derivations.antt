-- Which bytes spell the lines of a derivation over declared words, and why others are refused.
use Rattle.std.specs.Prelude.{◌≡◌, ℕ, List}
use Rattle.rg_words.specs.Layout.{Word}
use Rattle.rg_words.specs.declared.refusal.Refusal.{Refusal}
use Rattle.rg_words.specs.declared.refusal.SourceFile.TheVariants.{Derivation}
use Rattle.rg_tree.specs.Lines.{LineTree}
use Rattle.rg_syntax.specs.declared.text_kind.TextKind.TheVariants as texts
use Rattle.rg_resolve.specs.Derivations.{derivation_faults, DerivationStandsFor}
use Rattle.rg_parse.specs.Spelled.{SpellsUpTo, IsTextRefusal}

-- the bytes spell these lines over these words; the number is the line of their last token, and 1 where there is none
abbrev pub SpellsDerivation : List Word → List ℕ → List LineTree → ℕ → Type 0
SpellsDerivation words source lines last = SpellsUpTo texts.Derivation (DerivationStandsFor words) source lines last

-- why bytes are refused as the lines of a derivation: by their bytes, their shape or their meaning
abbrev pub IsDerivationTextRefusal : List Word → List ℕ → Refusal → Type 0
IsDerivationTextRefusal words source e = IsTextRefusal texts.Derivation (derivation_faults words) Derivation source e

-- the same bytes over the same words spell one list of lines, which ends on one line
abbrev pub OneSpelledDerivation : Type 0
OneSpelledDerivation = (words : List Word) (source : List ℕ) (ls ls' : List LineTree) (last last' : ℕ) → SpellsDerivation words source ls last → SpellsDerivation words source ls' last' → (ls ≡ ls') × (last ≡ last')
