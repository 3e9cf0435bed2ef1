-- Proofs in pieces, each of which is a proofs file and keeps its limit: what they prove together, and why they are refused.
use Rattle.std.specs.Prelude.{◌≡◌, ◌⊎◌, ℕ, ◌+◌, ◌-◌, ◌<◌, ◌≤◌, List, [], ◌∷◌, ◌++◌, length}
use Rattle.rg_words.specs.declared.refusal.Refusal.{Refusal}
use Rattle.rg_words.specs.declared.refusal.RefusalNumber.TheVariants.{IdOrder}
use Rattle.rg_words.specs.declared.refusal.SourceFile.TheVariants.{Proofs}
use Rattle.rg_words.specs.Refusals.{no_memory, refused_at}
use Rattle.rg_tree.specs.ConditionTrees.{ConditionTree}
use Rattle.rg_hints.specs.Sections.{SectionText}
use Rattle.rg_hints.specs.Placed.{HasSections, IsHeadsRefusal}
use Rattle.rg_hints.specs.Proved.{AllProvedFrom, IsFirstRefusal}

-- the condition of the last of these sections; where there is none, the one that was named last before them
abbrev pub last_named : ℕ → List SectionText → ℕ
last_named before [] = before
last_named before (s ∷ sections) = last_named s.condition sections

-- these sections go on after the condition that was named last before them; 0: none was
abbrev pub GoesOn : ℕ → List SectionText → Type 0
GoesOn before [] = Unit {0}
GoesOn before (s ∷ sections) = (before ≡ 0) ⊎ (before < s.condition)

-- these are the sections of the pieces for so many conditions, one piece after another; the numbers of their heads rise over all pieces. The number
-- before the pieces is the last one named before them
abbrev pub AreSectionsOf : ℕ → ℕ → List (List ℕ) → List SectionText → Type 0
AreSectionsOf count before [] sections = sections ≡ []
AreSectionsOf count before (piece ∷ pieces) sections =
    (first : List SectionText) × (rest : List SectionText) × HasSections count piece first × GoesOn before first × AreSectionsOf count (last_named before first) pieces rest × (sections ≡ first ++ rest)

-- the pieces for so many conditions together have a section for each of these, which stand after so many others, that proves it; or none, where one of
-- its clauses is empty
pub record ArePartProvedBy (count before : ℕ) (part : List ConditionTree) (pieces : List (List ℕ)) : Type 0 where
  pub sections : List SectionText
  pub files : AreSectionsOf count 0 pieces sections
  pub each : AllProvedFrom sections (before + 1) part

-- the pieces together prove all of these conditions, which are numbered from 1
abbrev pub AreProvedBy : List ConditionTree → List (List ℕ) → Type 0
AreProvedBy conditions pieces = ArePartProvedBy (length conditions) 0 conditions pieces

-- the head of the first of these sections does not go on after the condition that was named last before them
abbrev pub IsTurnedBack : ℕ → List SectionText → Refusal → Type 0
IsTurnedBack before [] e = ⊥
IsTurnedBack before (s ∷ sections) e = (0 < before) × (s.condition ≤ before) × (e ≡ refused_at IdOrder Proofs (s.first_line - 1))

-- why a piece is refused before any condition is looked at: as a proofs file is; or at its first head
abbrev pub IsPieceRefusal : ℕ → ℕ → List ℕ → Refusal → Type 0
IsPieceRefusal count before piece e =
    IsHeadsRefusal count piece e ⊎ ((sections : List SectionText) × HasSections count piece sections × IsTurnedBack before sections e)

-- the first piece at fault is refused so, at a line of its own
abbrev pub IsFirstPieceRefusal : ℕ → ℕ → List (List ℕ) → Refusal → Type 0
IsFirstPieceRefusal count before [] e = ⊥
IsFirstPieceRefusal count before (piece ∷ pieces) e =
    IsPieceRefusal count before piece e
    ⊎ ((sections : List SectionText) × HasSections count piece sections × GoesOn before sections × IsFirstPieceRefusal count (last_named before sections) pieces e)

-- why pieces for so many conditions do not prove these, which stand after so many others: for want of memory; for a piece; or for the first condition that is
-- not proved
abbrev pub ArePartRefused : ℕ → ℕ → List ConditionTree → List (List ℕ) → Refusal → Type 0
ArePartRefused count before part pieces e =
    (e ≡ no_memory)
    ⊎ IsFirstPieceRefusal count 0 pieces e
    ⊎ ((sections : List SectionText) × AreSectionsOf count 0 pieces sections × IsFirstRefusal sections (before + 1) part e)

-- why the pieces do not prove all of these conditions
abbrev pub AreProofsRefused : List ConditionTree → List (List ℕ) → Refusal → Type 0
AreProofsRefused conditions pieces e = ArePartRefused (length conditions) 0 conditions pieces e
