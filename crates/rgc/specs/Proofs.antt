-- What a search for proofs of all conditions gives, and why it gives nothing.
use Rattle.std.specs.Prelude.{◌≡◌, ◌⊎◌, ℕ, ◌+◌, ◌-◌, ◌<◌, ◌≤◌, ◌==◌, ◌||◌, List, [], ◌∷◌, length, map, take, drop, All, Some, nat_lt, if◌then◌else◌, string_bytes}
use Rattle.rg_words.specs.declared.limits.TheConstants.{MOST_VARIABLES}
use Rattle.rg_words.specs.declared.refusal.Refusal.{Refusal}
use Rattle.rg_words.specs.declared.refusal.RefusalNumber.TheVariants.{UnknownCondition}
use Rattle.rg_words.specs.declared.refusal.SourceFile.TheVariants.{Derivation}
use Rattle.rg_words.specs.declared.refusal.Place.TheVariants.{Condition}
use Rattle.rg_words.specs.Refusals.{no_memory, refused_in}
use Rattle.rg_tree.specs.ConditionTrees.{ConditionTree}
use Rattle.rg_tree.specs.Conditions.{ConditionHolds}
use Rattle.rg_tree.specs.Lines.{LineTree}
use Rattle.rg_tree.specs.Statements.{ProgramTree}
use Rattle.rg_tree.specs.Programs.{nth, IsSatisfied}
use Rattle.rg_clauses.specs.Conditions.{clauses_of_condition}
use Rattle.rg_find.specs.Judged.{IsJudged, IsJudgeRefusal}
use Rattle.rg_pool.specs.ProofPieces.{ArePartProvedBy, AreProvedBy}
use Rattle.rg_accept.specs.Accepted.{conditions_of}
use Rattle.rgc.specs.Pieces.{AreDerived, IsDeriveRefusal}
use Rattle.rgc.specs.declared.proofs_found.Unproved.{Unproved}
use Rattle.rgc.specs.declared.proofs_found.ProofsFound.{ProofsFound}
use Rattle.rgc.specs.declared.proofs_found.ProofsFound.TheVariants.{Proofs, Failures}

-- what is reported of the condition of this number, from 1, is true of it: where it fails, it fails at the states
pub record IsUnproved (conditions : List ConditionTree) (u : Unproved) : Type 0 where
  pub condition : ConditionTree
  pub is : nth conditions u.number ≡ Some condition
  pub judged : IsJudged condition u.judged

-- the conditions with numbers from one on and before another hold
abbrev pub HoldFrom : List ConditionTree → ℕ → ℕ → Type 0
HoldFrom conditions first end = (k : ℕ) (c : ConditionTree) → first ≤ k → k < end → nth conditions k ≡ Some c → ConditionHolds c

-- of the conditions with numbers from one on and before another this is the first of which something is reported, as those before it hold
pub record IsNextReported (conditions : List ConditionTree) (first end : ℕ) (u : Unproved) : Type 0 where
  pub low : first ≤ u.number
  pub high : u.number < end
  pub before : HoldFrom conditions first u.number

-- in the order of their numbers, something is reported of each condition from one number on and before another, or it holds
abbrev pub AreReportedOrHold : List ConditionTree → ℕ → ℕ → List Unproved → Type 0
AreReportedOrHold conditions first end [] = HoldFrom conditions first end
AreReportedOrHold conditions first end (u ∷ reported) = IsNextReported conditions first end u × AreReportedOrHold conditions (u.number + 1) end reported

-- some of the conditions with numbers from one on and before another have no proof: what is reported of these is true, and all others hold
pub record AreUnproved (conditions : List ConditionTree) (first end : ℕ) (reported : List Unproved) : Type 0 where
  pub some : 0 < length reported
  pub all : AreReportedOrHold conditions first end reported
  pub are : All (IsUnproved conditions) reported

-- the pieces of proofs that are given together prove all conditions of the program and the lines of its derivation; else what is reported of those without a
-- proof, of one at least, is true of them
abbrev pub AreFoundFor : ProgramTree → List LineTree → ProofsFound → Type 0
AreFoundFor p lines (Proofs pieces) = AreProvedBy (conditions_of p lines) (map string_bytes pieces.items)
AreFoundFor p lines (Failures reported) = AreUnproved (conditions_of p lines) 1 (length (conditions_of p lines) + 1) reported.items

-- where proofs of all conditions are given, the program satisfies its specification
abbrev pub IsSatisfiedWhere : ProgramTree → ProofsFound → Type 0
IsSatisfiedWhere p (Proofs pieces) = IsSatisfied p
IsSatisfiedWhere p (Failures reported) = Unit {0}

-- these are the numbers of the first and the last of some of so many conditions
pub record IsRange (first last count : ℕ) : Type 0 where
  pub low : 0 < first
  pub order : first ≤ last
  pub high : last ≤ count

-- the conditions from the first of these numbers to the last
abbrev pub in_range : {A : Type 0} → ℕ → ℕ → List A → List A
in_range first last conditions = take (last + 1 - first) (drop (first - 1) conditions)

-- the pieces of proofs that are given have a section for each of these conditions of the program and the lines of its derivation, that proves it, or none
-- where one of its clauses is empty; else what is reported of those without a proof, of one at least, is true of them
abbrev pub ArePartFoundFor : ProgramTree → List LineTree → ℕ → ℕ → ProofsFound → Type 0
ArePartFoundFor p lines first last (Proofs pieces) =
    IsRange first last (length (conditions_of p lines))
    × ArePartProvedBy (length (conditions_of p lines)) (first - 1) (in_range first last (conditions_of p lines)) (map string_bytes pieces.items)
ArePartFoundFor p lines first last (Failures reported) = IsRange first last (length (conditions_of p lines)) × AreUnproved (conditions_of p lines) first (last + 1) reported.items

-- the conditions with numbers from one on and before another keep the limit of variables
abbrev pub KeepLimit : List ConditionTree → ℕ → ℕ → Type 0
KeepLimit conditions first number = (k : ℕ) (c : ConditionTree) → first ≤ k → k < number → nth conditions k ≡ Some c → (clauses_of_condition c).variables ≤ MOST_VARIABLES

-- the first condition from one number on that isn't judged: it has too many variables, or too many decisions are asked for, or memory was refused
pub record IsFirstUnjudged (conditions : List ConditionTree) (first steps : ℕ) (e : Refusal) : Type 0 where
  pub number : ℕ
  pub condition : ConditionTree
  pub is : nth conditions number ≡ Some condition
  pub refusal : IsJudgeRefusal condition Derivation number steps e
  pub before : KeepLimit conditions first number

-- why a search for proofs of conditions says nothing: for want of memory; or of the first that isn't judged
abbrev pub IsSearchRefusal : List ConditionTree → ℕ → Refusal → Type 0
IsSearchRefusal conditions steps e = (e ≡ no_memory) ⊎ IsFirstUnjudged conditions 1 steps e

-- the number of a range of which there is no condition
abbrev pub outside : ℕ → ℕ → ℕ → ℕ
outside first last count = if first == 0 || nat_lt count first then first else last

-- the same of a range, which may be none
abbrev pub IsPartSearchRefusal : List ConditionTree → ℕ → ℕ → ℕ → Refusal → Type 0
IsPartSearchRefusal conditions first last steps e =
    (e ≡ no_memory)
    ⊎ ((IsRange first last (length conditions) → ⊥) × (e ≡ refused_in UnknownCondition Derivation (Condition (outside first last (length conditions)))))
    ⊎ (IsRange first last (length conditions) × IsFirstUnjudged conditions first steps e)

-- the first fault over both files and the search: of the text, then of the derivation of its program, then of the search
abbrev pub IsProveRefusal : List ℕ → List (List ℕ) → ℕ → Refusal → Type 0
IsProveRefusal text derivation steps e =
    IsDeriveRefusal text derivation e
    ⊎ ((program : ProgramTree) × (lines : List LineTree) × AreDerived text derivation program lines × IsSearchRefusal (conditions_of program lines) steps e)

abbrev pub IsProvePartRefusal : List ℕ → List (List ℕ) → ℕ → ℕ → ℕ → Refusal → Type 0
IsProvePartRefusal text derivation first last steps e =
    IsDeriveRefusal text derivation e
    ⊎ ((program : ProgramTree) × (lines : List LineTree) × AreDerived text derivation program lines × IsPartSearchRefusal (conditions_of program lines) first last steps e)
