-- Sections as they lie in a proofs file, and which of them a condition has.
use Rattle.std.specs.Prelude.{◌≡◌, ℕ, ◌+◌, ◌<◌, Option, None, List, length, map, option_map, IfSome, slice_index_or}
use Rattle.rg_hint_lines.specs.declared.sections.SectionBytes.{SectionBytes}
pub use Rattle.rg_hint_lines.specs.Located.{text_of, HasRoom, AreRising, AreFrom, HasSections, IsHeadsRefusal}
use Rattle.rg_hints.specs.Proved.{section_for}

-- this is the section of the condition with this number, or the condition has none
pub record IsPlaced (sections : List SectionBytes) (number : ℕ) (section : Option SectionBytes) : Type 0 where
  pub is : option_map text_of section ≡ section_for (map text_of sections) number
  pub room : IfSome section HasRoom

-- at each place, from 0, stands the section of the condition whose number is one more
abbrev pub ArePlaced : List SectionBytes → List (Option SectionBytes) → Type 0
ArePlaced sections placed = (i : ℕ) → i < length placed → IsPlaced sections (i + 1) (slice_index_or placed i None)
