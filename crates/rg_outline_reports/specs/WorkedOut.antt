-- An outline, and what it was worked out to. Values of these two types are made in this crate alone, by the two calls that read and expand an outline.
use Rattle.std.specs.Prelude.{◌≡◌, Result, Ok, Err}
use Rattle.rg_outline_reports.specs.declared.files.NoFiles.{NoFiles}
use Rattle.rg_outline_reports.specs.declared.files.OutlineSource.{OutlineSource}
use Rattle.rg_outline_reports.specs.declared.outlined.Outlined.{Outlined}
use Rattle.rg_outline_reports.specs.declared.outlined.ReadOutline.{ReadOutline}
use Rattle.rg_outline_reports.specs.declared.worked_out.Reading.{Reading}
use Rattle.rg_outline_reports.specs.declared.worked_out.WorkedOut.{WorkedOut}

-- the outline that was read
abbrev pub read_source : Reading → OutlineSource
read_source reading = reading.outline

-- what is written in it, or why it is refused
abbrev pub read_result : Reading → Result ReadOutline NoFiles
read_result reading = reading.read

-- the outline that was worked out
abbrev pub worked_source : WorkedOut → OutlineSource
worked_source worked = worked.outline

-- what it was worked out to: the files that it stands for, or why there are none
abbrev pub worked_result : WorkedOut → Result Outlined NoFiles
worked_result worked = worked.expanded

-- what was worked out is what was read
abbrev pub IsExpansionOf : Result ReadOutline NoFiles → Result Outlined NoFiles → Type 0
IsExpansionOf (Ok read) (Ok outlined) = outlined.read.now ≡ read
IsExpansionOf (Err none) (Ok outlined) = ⊥
IsExpansionOf read (Err none) = Unit {0}
