-- Bytes stand for something exactly where they have no fault: of their tokens, their shape, their limits or their meaning.
use Rattle.std.specs.Prelude.{◌≡◌, ◌↔◌, ℕ, false, List, []}
use Rattle.rg_words.specs.Layout.{Word}
use Rattle.rg_text.specs.declared.token.Token.{Token}
use Rattle.rg_syntax.specs.declared.text_kind.TextKind.{TextKind}
use Rattle.rg_syntax.specs.declared.text_kind.TextKind.TheVariants as texts
use Rattle.rg_syntax.specs.Grammar.{Spelling}
use Rattle.rg_resolve.specs.Faults.{Fault, claim_faults}
use Rattle.rg_resolve.specs.Typing.{ClaimStandsFor}
use Rattle.rg_resolve.specs.Settings.{settings_faults, moves_faults, StartStandsFor, MovesStandFor}
use Rattle.rg_resolve.specs.Programs.{program_faults}
use Rattle.rg_resolve.specs.ProgramTyping.{ProgramStandsFor}
use Rattle.rg_resolve.specs.Derivations.{derivation_faults, DerivationStandsFor}
use Rattle.rg_parse.specs.Spelled.{Said, said, IsWritten, Spells}
use Rattle.rg_parse.specs.Shown.{ShownStandsFor, faults_shown}

-- the tokens of the bytes are a text of this kind within all limits, and what it says has no fault
pub record HasNoFault (k : TextKind) (faults : Said k → List Fault) (source : List ℕ) : Type 0 where
  pub tokens : List Token
  pub spelling : Spelling k
  pub written : IsWritten k source tokens spelling
  pub none : faults (said k spelling) ≡ []

-- bytes have no fault exactly where they spell a text of this kind that stands for something
abbrev pub FaultlessSpells : {V : Type 0} (k : TextKind) → (Said k → List Fault) → (Said k → V → Type 0) → Type 0
FaultlessSpells {V = V} k faults Stands = (source : List ℕ) → HasNoFault k faults source ↔ ((v : V) × Spells k Stands source v)

-- so it is of texts to show, and of programs
abbrev pub FaultlessShow : Type 0
FaultlessShow = FaultlessSpells texts.Show faults_shown ShownStandsFor

abbrev pub FaultlessPrograms : Type 0
FaultlessPrograms = FaultlessSpells texts.Program program_faults ProgramStandsFor

-- and, over declared words, of formulas, derivations, starts and moves
abbrev pub FaultlessFormulas : Type 0
FaultlessFormulas = (words : List Word) → FaultlessSpells texts.Formula (claim_faults words false) (ClaimStandsFor words false)

abbrev pub FaultlessDerivations : Type 0
FaultlessDerivations = (words : List Word) → FaultlessSpells texts.Derivation (derivation_faults words) (DerivationStandsFor words)

abbrev pub FaultlessStarts : Type 0
FaultlessStarts = (words : List Word) → FaultlessSpells texts.Start (settings_faults words) (StartStandsFor words)

abbrev pub FaultlessMoves : Type 0
FaultlessMoves = (words : List Word) → FaultlessSpells texts.Moves (moves_faults words) (MovesStandFor words)
