-- When a text and its hint lines prove a formula, and why they are refused.
use Rattle.std.specs.Prelude.{◌≡◌, ◌⊎◌, ℕ, ◌<◌, ◌≤◌, List, length, Ok, Err}
use Rattle.rg_words.specs.declared.limits.TheConstants.{MOST_VARIABLES, MOST_DECISIONS, MOST_PROOF_BYTES}
use Rattle.rg_words.specs.declared.refusal.Refusal.{Refusal}
use Rattle.rg_words.specs.declared.refusal.RefusalNumber.TheVariants.{Limit}
use Rattle.rg_words.specs.declared.refusal.SourceFile.TheVariants.{Text, Proofs}
use Rattle.rg_words.specs.declared.refusal.Place.TheVariants.{Condition}
use Rattle.rg_words.specs.Refusals.{refused, refused_in, refused_at}
use Rattle.rg_words.specs.Layout.{Word}
use Rattle.rg_tree.specs.Trees.{Proposition}
use Rattle.rg_tree.specs.Conditions.{ConditionTree, shown, ConditionHolds}
use Rattle.rg_parse.specs.Shown.{SpellsShow, IsShowRefusal}
use Rattle.rg_clauses.specs.ClauseLists.{Cnf}
use Rattle.rg_clauses.specs.Conditions.{clauses_of_condition}
use Rattle.rg_hints.specs.Lines.{Section}
use Rattle.rg_hints.specs.Reading.{section_of}
use Rattle.rg_hints.specs.Verdict.{IsClosed, IsSectionRefusal}

-- the clauses of a formula to show
abbrev pub clauses_shown : List Word → Proposition → Cnf
clauses_shown words f = clauses_of_condition (shown words f)

-- the text spells a formula to show, and these are its clauses, which keep the limit of variables
pub record HasClauses (text : List ℕ) (clauses : Cnf) : Type 0 where
  pub words : List Word
  pub formula : Proposition
  pub spells : SpellsShow text words formula
  pub are : clauses ≡ clauses_shown words formula
  pub within : clauses.variables ≤ MOST_VARIABLES

-- the formula that the text spells is true in every pair of states that agree on the fixed words
abbrev pub ShownHolds : List ℕ → Type 0
ShownHolds text = (words : List Word) (f : Proposition) → SpellsShow text words f → ConditionHolds (shown words f)

-- the text spells no formula to show, or one with too many variables
abbrev pub IsClausesRefusal : List ℕ → Refusal → Type 0
IsClausesRefusal text e =
    IsShowRefusal Text text e
    ⊎ ((words : List Word) × (f : Proposition) × SpellsShow text words f × (MOST_VARIABLES < (clauses_shown words f).variables) × (e ≡ refused_in Limit Text (Condition 1)))

-- the text spells a formula to show, and this is its condition
pub record IsShown (text : List ℕ) (c : ConditionTree) : Type 0 where
  pub words : List Word
  pub formula : Proposition
  pub spells : SpellsShow text words formula
  pub is : c ≡ shown words formula

-- the text spells no formula to show, or one with too many variables; or else too many decisions are asked for
abbrev pub IsFindRefusal : List ℕ → ℕ → Refusal → Type 0
IsFindRefusal text steps e =
    IsClausesRefusal text e ⊎ ((clauses : Cnf) × HasClauses text clauses × (MOST_DECISIONS < steps) × (e ≡ refused Limit))

-- the text spells a formula to show, and the proofs, within their size, have the form of hint lines and close its clauses
pub record IsProved (text proofs : List ℕ) : Type 0 where
  pub clauses : Cnf
  pub has : HasClauses text clauses
  pub size : length proofs ≤ MOST_PROOF_BYTES
  pub section : Section
  pub reads : section_of 1 (length clauses.clauses) proofs ≡ Ok section
  pub closed : IsClosed clauses.clauses section

-- why they are refused: the text and its condition, then the size of the proofs, then their form, then their least bad line or that none is empty
abbrev pub IsValidRefusal : List ℕ → List ℕ → Refusal → Type 0
IsValidRefusal text proofs e =
    IsClausesRefusal text e
    ⊎ ((clauses : Cnf) × HasClauses text clauses
    × (((MOST_PROOF_BYTES < length proofs) × (e ≡ refused_at Limit Proofs 1))
    ⊎ ((length proofs ≤ MOST_PROOF_BYTES)
    × ((section_of 1 (length clauses.clauses) proofs ≡ Err e)
    ⊎ ((section : Section) × (section_of 1 (length clauses.clauses) proofs ≡ Ok section) × IsSectionRefusal clauses.clauses section 1 e)))))
