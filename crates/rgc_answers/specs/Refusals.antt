-- Refusals as JSON.
use Rattle.std.specs.Prelude.{codes, Option, Some, None}
use Rattle.serde_json.specs.Data.{Data, Members, put, object, no_members, number, string, unsigned}
use Rattle.rg_words.specs.Refusals.{printed_number, file_name}
use Rattle.rg_words.specs.declared.refusal.Refusal.{Refusal}
use Rattle.rg_words.specs.declared.refusal.RefusalNumber.{RefusalNumber}
use Rattle.rg_words.specs.declared.refusal.SourceFile.{SourceFile}
use Rattle.rg_words.specs.declared.refusal.Place.{Place}
use Rattle.rg_words.specs.declared.refusal.Place.TheVariants.{Line, Condition, Move}

-- the members, with the file, where there is one
abbrev pub with_file : Option SourceFile → Members → Members
with_file (Some file) ms = put (codes "file") (string (file_name file)) ms
with_file None ms = ms

-- the members, with the line, the condition or the move, where there is one
abbrev pub with_place : Option Place → Members → Members
with_place (Some (Line n)) ms = put (codes "line") (number (unsigned n)) ms
with_place (Some (Condition k)) ms = put (codes "condition") (number (unsigned k)) ms
with_place (Some (Move k)) ms = put (codes "move") (number (unsigned k)) ms
with_place None ms = ms

-- the members, with the number that a refusal prints
abbrev pub refused_members : RefusalNumber → Members → Members
refused_members n ms = put (codes "number") (number (unsigned (printed_number n))) (put (codes "kind") (string (codes "refused")) ms)

-- a refusal: its number, and its file and place where there are any
abbrev pub refusal_data : Refusal → Data
refusal_data r = object (with_place r.place (with_file r.file (refused_members r.number no_members)))
