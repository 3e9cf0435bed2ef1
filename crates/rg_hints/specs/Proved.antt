-- When a proofs file proves conditions, and why it is refused.
use Rattle.std.specs.Prelude.{◌≡◌, ◌⊎◌, ℕ, ◌+◌, ◌==◌, ◌<◌, ◌≤◌, ℤ, Option, Some, None, Result, Ok, Err, List, [], ◌∷◌, length, Contains}
use Rattle.std.specs.List.{find}
use Rattle.rg_words.specs.declared.limits.TheConstants.{MOST_VARIABLES, MOST_PROOF_BYTES}
use Rattle.rg_words.specs.declared.refusal.Refusal.{Refusal}
use Rattle.rg_words.specs.declared.refusal.RefusalNumber.TheVariants.{Limit, NoSection}
use Rattle.rg_words.specs.declared.refusal.SourceFile.TheVariants.{Derivation, Proofs}
use Rattle.rg_words.specs.declared.refusal.Place.TheVariants.{Condition}
use Rattle.rg_words.specs.Refusals.{no_memory, refused_in, refused_at}
use Rattle.rg_tree.specs.ConditionTrees.{ConditionTree}
use Rattle.rg_clauses.specs.Conditions.{clauses_of_condition}
use Rattle.rg_hint_lines.specs.Lines.{Section}
use Rattle.rg_hint_lines.specs.Reading.{hint_lines_of, section_with}
use Rattle.rg_hints.specs.Verdict.{IsClosed, IsSectionRefusal}
use Rattle.rg_hint_lines.specs.Sections.{SectionText, sections_of}

-- the section of the condition with this number, if it has one
abbrev pub section_for : List SectionText → ℕ → Option SectionText
section_for sections k = find (λ s. s.condition == k) sections

-- the hint lines that a section spells over so many given clauses, or its first faulty line
abbrev pub hints_in : SectionText → ℕ → Result Section Refusal
hints_in text given = section_with given (hint_lines_of text.lines text.first_line given)

-- a section closes clauses where its lines have the form of hint lines over them, and close them
pub record Closes (clauses : List (List ℤ)) (text : SectionText) : Type 0 where
  pub section : Section
  pub reads : hints_in text (length clauses) ≡ Ok section
  pub closed : IsClosed clauses section

-- clauses are closed by their section; where they have none, one of them is empty
abbrev pub AreClosedBy : List (List ℤ) → Option SectionText → Type 0
AreClosedBy clauses (Some text) = Closes clauses text
AreClosedBy clauses None = Contains clauses []

-- a condition is proved by its section, or without one: its clauses keep the limit of variables, and are closed
pub record IsProvedBy (section : Option SectionText) (c : ConditionTree) : Type 0 where
  pub within : (clauses_of_condition c).variables ≤ MOST_VARIABLES
  pub closed : AreClosedBy (clauses_of_condition c).clauses section

-- each of these conditions, which are numbered from this number on, is proved by its section or without one
abbrev pub AllProvedFrom : List SectionText → ℕ → List ConditionTree → Type 0
AllProvedFrom sections k [] = Unit {0}
AllProvedFrom sections k (c ∷ cs) = IsProvedBy (section_for sections k) c × AllProvedFrom sections (k + 1) cs

-- a proofs file proves conditions: it keeps its size, its heads name conditions and rise, no hint line is before the first, and each condition is proved
pub record AreProved (conditions : List ConditionTree) (proofs : List ℕ) : Type 0 where
  pub size : length proofs ≤ MOST_PROOF_BYTES
  pub sections : List SectionText
  pub heads : sections_of (length conditions) proofs ≡ Ok sections
  pub each : AllProvedFrom sections 1 conditions

-- why clauses, which are those of the condition with this number, are not closed by their section: its first faulty line, then its least line that does not follow, then that nothing is empty; where they have none, that none of them is empty
abbrev pub IsUnclosed : List (List ℤ) → ℕ → Option SectionText → Refusal → Type 0
IsUnclosed clauses k (Some text) e =
    (hints_in text (length clauses) ≡ Err e) ⊎ ((section : Section) × (hints_in text (length clauses) ≡ Ok section) × IsSectionRefusal clauses section k e)
IsUnclosed clauses k None e = (Contains clauses [] → ⊥) × (e ≡ refused_in NoSection Proofs (Condition k))

-- why the condition with this number is refused, by its section or without one: for want of memory, or since it has too many variables, or else since its clauses are not closed
abbrev pub IsConditionRefusal : Option SectionText → ℕ → ConditionTree → Refusal → Type 0
IsConditionRefusal section k c e =
    (e ≡ no_memory)
    ⊎ ((MOST_VARIABLES < (clauses_of_condition c).variables) × (e ≡ refused_in Limit Derivation (Condition k)))
    ⊎ (((clauses_of_condition c).variables ≤ MOST_VARIABLES) × IsUnclosed (clauses_of_condition c).clauses k section e)

-- the refusal of the first condition that is not proved, of those that are numbered from this number on
abbrev pub IsFirstRefusal : List SectionText → ℕ → List ConditionTree → Refusal → Type 0
IsFirstRefusal sections k [] e = ⊥
IsFirstRefusal sections k (c ∷ cs) e =
    IsConditionRefusal (section_for sections k) k c e ⊎ (IsProvedBy (section_for sections k) c × IsFirstRefusal sections (k + 1) cs e)

-- why a proofs file is refused: for want of memory, or for its size, then for its first line at fault before a head or in one, then for the first condition
abbrev pub IsProofsRefusal : List ConditionTree → List ℕ → Refusal → Type 0
IsProofsRefusal conditions proofs e =
    (e ≡ no_memory)
    ⊎ ((MOST_PROOF_BYTES < length proofs) × (e ≡ refused_at Limit Proofs 1))
    ⊎ ((length proofs ≤ MOST_PROOF_BYTES)
    × ((sections_of (length conditions) proofs ≡ Err e)
    ⊎ ((sections : List SectionText) × (sections_of (length conditions) proofs ≡ Ok sections) × IsFirstRefusal sections 1 conditions e)))
