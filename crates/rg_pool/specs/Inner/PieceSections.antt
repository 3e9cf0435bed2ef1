-- Sections of pieces so far, and those of one piece more.
use Rattle.std.specs.Prelude.{◌≡◌, ℕ, ◌≤◌, List, [], ◌∷◌, ◌++◌, All}
use Rattle.rg_hint_lines.specs.declared.sections.SectionBytes.{SectionBytes}
use Rattle.rg_hints.specs.Sections.{SectionText}
use Rattle.rg_hints.specs.Placed.{AreFrom, HasSections}
use Rattle.rg_pool.specs.ProofPieces.{last_named, GoesOn}

-- they rise, up to this condition
pub record AreUpTo (last : ℕ) (sections : List SectionBytes) : Type 0 where
  pub from : AreFrom 1 sections
  pub up_to : All (λ s. s.condition ≤ last) sections

-- these are the sections of the pieces, and this is the condition that is named last then
abbrev pub AreSectionsTo : ℕ → ℕ → List (List ℕ) → List SectionText → ℕ → Type 0
AreSectionsTo count before [] sections last = (sections ≡ []) × (last ≡ before)
AreSectionsTo count before (piece ∷ pieces) sections last =
    (first : List SectionText) × (rest : List SectionText) × HasSections count piece first × GoesOn before first × AreSectionsTo count (last_named before first) pieces rest last × (sections ≡ first ++ rest)

-- the sections of a piece stand after the old ones, and go on after the condition that was named last before them; this is the one that is named last now
pub record AreOfPiece (count before : ℕ) (piece : List ℕ) (last : ℕ) (old new : List SectionText) : Type 0 where
  pub first : List SectionText
  pub has : HasSections count piece first
  pub on : GoesOn before first
  pub last_is : last ≡ last_named before first
  pub joined : new ≡ old ++ first
