-- Sections as they lie in a proofs file.
use Rattle.std.specs.Prelude.{◌≡◌, ◌⊎◌, ℕ, ◌+◌, ◌^◌, ◌<◌, ◌≤◌, Ok, Err, List, length, All, AllPairs}
use Rattle.std.specs.Str.Lines.{lines}
use Rattle.rg_words.specs.declared.limits.TheConstants.{MOST_PROOF_BYTES}
use Rattle.rg_words.specs.declared.refusal.Refusal.{Refusal}
use Rattle.rg_words.specs.declared.refusal.RefusalNumber.TheVariants.{Limit}
use Rattle.rg_words.specs.declared.refusal.SourceFile.TheVariants.{Proofs}
use Rattle.rg_words.specs.Refusals.{no_memory, refused_at}
use Rattle.rg_hint_lines.specs.declared.sections.SectionBytes.{SectionBytes}
use Rattle.rg_hint_lines.specs.Sections.{SectionText, sections_of}

-- a section with its lines
abbrev pub text_of : SectionBytes → SectionText
text_of s = record { condition = s.condition; first_line = s.first_line; lines = lines s.bytes.now }

-- the numbers of its lines keep the bound of what is read
abbrev pub HasRoom : SectionBytes → Type 0
HasRoom s = s.first_line + length s.bytes.now < 2 ^ 64

-- the conditions of sections rise
abbrev pub AreRising : List SectionBytes → Type 0
AreRising sections = AllPairs (λ a b. a.condition < b.condition) sections

-- sections of conditions from this number on, in their order
pub record AreFrom (number : ℕ) (sections : List SectionBytes) : Type 0 where
  pub rising : AreRising sections
  pub from : All (λ s. number ≤ s.condition) sections
  pub room : All HasRoom sections

-- these are the sections of a proofs file for so many conditions, which keeps its size
pub record HasSections (count : ℕ) (proofs : List ℕ) (sections : List SectionText) : Type 0 where
  pub size : length proofs ≤ MOST_PROOF_BYTES
  pub heads : sections_of count proofs ≡ Ok sections

-- why a proofs file is refused before any condition is looked at: for want of memory, for its size, or for its first line at fault before a head or in one
abbrev pub IsHeadsRefusal : ℕ → List ℕ → Refusal → Type 0
IsHeadsRefusal count proofs e =
    (e ≡ no_memory)
    ⊎ ((MOST_PROOF_BYTES < length proofs) × (e ≡ refused_at Limit Proofs 1))
    ⊎ ((length proofs ≤ MOST_PROOF_BYTES) × (sections_of count proofs ≡ Err e))
