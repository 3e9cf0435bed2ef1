-- The text of an outline says what the outline says.
use Rattle.std.specs.Prelude.{◌≡◌, ℕ, List, Result, Ok, Err, codes}
use Rattle.rg_tree.specs.Statements.{ProgramTree}
use Rattle.rg_parse.specs.Programs.{SpellsProgram}
use Rattle.rg_outline_meaning.specs.Names.{Outline}
use Rattle.rg_outline_meaning.specs.Programs.{OutlineStandsFor}
use Rattle.rg_outline_reports.specs.declared.files.Format.{Format}
use Rattle.rg_outline_reports.specs.declared.files.Format.TheVariants.{Plain, Json}
use Rattle.rg_outline_reports.specs.declared.files.NoFiles.{NoFiles}
use Rattle.rg_outline_reports.specs.declared.files.NoFiles.TheVariants.{Reported, Memory}
use Rattle.rg_outline_reports.specs.declared.files.OutlineSource.{OutlineSource}
use Rattle.rg_outline_reports.specs.declared.outlined.Outlined.{Outlined}

-- an outline as it was read: its bytes, and the tree that was read of them
abbrev pub as_read : OutlineSource → Outlined → Outline
as_read outline outlined = record { source = outline.source.now; written = outlined.read.now.written }

-- whatever program the text of an outline spells, the outline stands for it
abbrev pub IsMeant : OutlineSource → Outlined → Type 0
IsMeant outline outlined = (p : ProgramTree) → SpellsProgram outlined.files.text.items p → OutlineStandsFor (as_read outline outlined) p

-- the same of what an outline was worked out to, where that is files
abbrev pub AreMeant : OutlineSource → Result Outlined NoFiles → Type 0
AreMeant outline (Ok outlined) = IsMeant outline outlined
AreMeant outline (Err none) = Unit {0}

-- what is reported where that isn't known
abbrev pub unmeant_text : Format → List ℕ
unmeant_text Plain = codes "error: the text that was made of the outline isn't known to say what the outline says: it is too large to be read a second time, or rgc is at fault\n"
unmeant_text Json = codes "{\"kind\":\"unmeant\"}\n"

-- why an outline is refused of which that isn't known: in these words, or for want of memory
abbrev pub IsUnmeant : OutlineSource → NoFiles → Type 0
IsUnmeant outline (Reported lines) = lines.items ≡ unmeant_text outline.format
IsUnmeant outline Memory = Unit {0}

abbrev pub IsRefusedAsUnmeant : OutlineSource → Result Outlined NoFiles → Type 0
IsRefusedAsUnmeant outline (Ok outlined) = ⊥
IsRefusedAsUnmeant outline (Err none) = IsUnmeant outline none
