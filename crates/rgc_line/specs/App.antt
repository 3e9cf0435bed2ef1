-- The table of the commands, as `clap`'s words have them, and what their words say of the settings.
use Prim.Native.String.{String}
use Rattle.std.specs.Prelude.{◌≡◌, ◌⊎◌, ◌↔◌, Bool, List, [], ◌∷◌, Some, true, false, codes, map}
use Rattle.clap.specs.Words.{App, Row, Rule, Shape, Text, first_of, new_rule}
use Rattle.clap.specs.Simple.{new_shape}
use Rattle.clap.specs.Lexer.{usize_max}
use Rattle.clap.specs.declared.builder.action.ArgAction.TheVariants.{Append, SetTrue}
use Rattle.clap.specs.declared.builder.value_parser.ValueParser.{ValueParser}
use Rattle.clap.specs.declared.builder.value_parser.ValueParser.TheVariants as parser
use Rattle.rgc_line.specs.declared.command.Format.{Format}
use Rattle.rgc_line.specs.declared.command.Format.TheVariants.{Plain, Json}
use Rattle.rgc_line.specs.declared.command.Settings.{Settings}
use Rattle.rgc_line.specs.declared.commands.Form.{Form}
use Rattle.rgc_line.specs.declared.commands.Form.TheVariants.{File, Place, Files, Places, OptionalFile, RepeatedFile, OptionalText, OptionalNumber, NeededNumber, NumberOrMillion, Flag}
use Rattle.rgc_line.specs.declared.commands.Kind.{Kind}
use Rattle.rgc_line.specs.declared.commands.Kind.TheVariants.{Number, Check, Conditions, Prove, Emit, Accesses, Run, Valid, Clauses, Find, Outline, Verify, Complete, Challenge, Explain}
use Rattle.rgc_line.specs.Values.{HasNo, HasValue, HasValues, file, number, flag, optional}

-- numbers of 64 bits
abbrev pub numbers : ValueParser
numbers = parser.Unsigned 0 18446744073709551615

-- an argument that is written in a form
abbrev pub rule_of_form : Form → Text → Rule
rule_of_form File id = record (new_rule id) { required = true }
rule_of_form Place id = new_rule id
rule_of_form Files id = record (new_rule id) { required = true; range = Some (record { start_inclusive = 1; end_inclusive = usize_max }) }
rule_of_form Places id = record (new_rule id) { range = Some (record { start_inclusive = 1; end_inclusive = usize_max }) }
rule_of_form OptionalFile id = record (new_rule id) { long = Some id; value_names = 1 }
rule_of_form RepeatedFile id = record (new_rule id) { long = Some id; value_names = 1; action = Some Append }
rule_of_form OptionalText id = record (new_rule id) { long = Some id; value_names = 1 }
rule_of_form OptionalNumber id = record (new_rule id) { long = Some id; value_names = 1; parser = Some numbers }
rule_of_form NeededNumber id = record (new_rule id) { required = true; parser = Some numbers }
rule_of_form NumberOrMillion id = record (new_rule id) { long = Some id; value_names = 1; parser = Some numbers; defaults = codes "1000000" ∷ [] }
rule_of_form Flag id = record (new_rule id) { long = Some id; action = Some SetTrue }

-- a file or an option of a command
abbrev pub field : Form → String → Rule
field form id = rule_of_form form (codes id)

-- the derivation of a program, one of whose conditions is chosen, or further files of a derivation
abbrev pub derivation_files : Rule
derivation_files = field RepeatedFile "derivation"

-- the number of the condition that is chosen
abbrev pub condition : Rule
condition = field OptionalNumber "condition"

-- the settings: the most threads
abbrev pub threads : Rule
threads = field OptionalNumber "threads"

-- the seconds after which searches are given up
abbrev pub seconds : Rule
seconds = field OptionalNumber "seconds"

-- a file for the output
abbrev pub output : Rule
output = field OptionalFile "output"

-- the format of the output
abbrev pub format : Rule
format = field OptionalText "format"

-- whether a refusal is explained
abbrev pub explained : Rule
explained = field Flag "explain"

-- which warnings are given
abbrev pub warnings : Rule
warnings = field OptionalText "warnings"

-- the word by which one part of a run after another is let go
abbrev pub seed : Rule
seed = field OptionalText "seed"

-- the names of words that are erased
abbrev pub erase : Rule
erase = field OptionalText "erase"

-- whether the auxiliary words of an outline stay
abbrev pub keep_aux : Rule
keep_aux = field Flag "keep-aux"

-- the name with which all begins that C declares
abbrev pub prefix : Rule
prefix = field OptionalText "name"

-- whether steps are marked in C
abbrev pub trace : Rule
trace = field Flag "trace"

-- which parts run on one core, and which interrupt which
abbrev pub priority : Rule
priority = field OptionalText "priority"

-- whether a verdict is followed by how each step is done in C
abbrev pub accesses : Rule
accesses = field Flag "accesses"

-- whether assertions that an outline lacks are searched for first
abbrev pub complete : Rule
complete = field Flag "complete"

-- whether conjuncts of the relies of parts are searched for, too
abbrev pub relies : Rule
relies = field Flag "relies"

-- the settings that are numbers
abbrev pub number_settings : List Rule
number_settings = threads ∷ seconds ∷ []

-- a command with these arguments and no subcommands
abbrev pub leaf : Text → List Rule → Shape
leaf name rules = record (new_shape name) { rules = rules }

-- The table of the commands: the name of each, and its files and options in their order.
abbrev pub row_of : Kind → Shape
row_of Number = leaf (codes "number") (field File "TEXT" ∷ format ∷ explained ∷ [])
row_of Check = leaf (codes "check") (field File "TEXT" ∷ field File "DERIVATION" ∷ field Files "PROOFS" ∷ derivation_files ∷ threads ∷ format ∷ explained ∷ [])
row_of Conditions = leaf (codes "conditions") (field File "TEXT" ∷ field File "DERIVATION" ∷ field Flag "formulas" ∷ derivation_files ∷ format ∷ explained ∷ [])
row_of Prove = leaf (codes "prove") (field File "TEXT" ∷ field File "DERIVATION" ∷ field NumberOrMillion "steps" ∷ field OptionalText "conditions" ∷ derivation_files ∷ threads ∷ seconds ∷ field RepeatedFile "output" ∷ format ∷ explained ∷ [])
row_of Emit = leaf (codes "emit") (field OptionalFile "outline" ∷ field Place "TEXT" ∷ field Place "DERIVATION" ∷ field Places "PROOFS" ∷ derivation_files ∷ threads ∷ output ∷ explained ∷ erase ∷ keep_aux ∷ format ∷ prefix ∷ trace ∷ priority ∷ [])
row_of Accesses = leaf (codes "accesses") (field OptionalFile "outline" ∷ field Place "TEXT" ∷ field Place "DERIVATION" ∷ field Places "PROOFS" ∷ derivation_files ∷ threads ∷ output ∷ explained ∷ erase ∷ keep_aux ∷ priority ∷ [])
row_of Run = leaf (codes "run") (field OptionalFile "start" ∷ field OptionalFile "moves" ∷ field NumberOrMillion "limit" ∷ field OptionalFile "draw" ∷ field OptionalFile "outline" ∷ field Place "TEXT" ∷ field Place "DERIVATION" ∷ field Places "PROOFS" ∷ derivation_files ∷ threads ∷ format ∷ explained ∷ seed ∷ erase ∷ [])
row_of Valid = leaf (codes "valid") (field File "TEXT" ∷ field File "PROOFS" ∷ threads ∷ explained ∷ [])
row_of Clauses = leaf (codes "clauses") (field File "TEXT" ∷ derivation_files ∷ condition ∷ output ∷ format ∷ explained ∷ [])
row_of Find = leaf (codes "find") (field File "TEXT" ∷ derivation_files ∷ condition ∷ field NumberOrMillion "steps" ∷ seconds ∷ output ∷ explained ∷ [])
row_of Outline = leaf (codes "outline") (field File "OUTLINE" ∷ field OptionalNumber "steps" ∷ field OptionalFile "text" ∷ derivation_files ∷ field RepeatedFile "proofs" ∷ field OptionalFile "map" ∷ threads ∷ seconds ∷ [])
row_of Verify = leaf (codes "verify") (field Files "OUTLINE" ∷ field OptionalNumber "steps" ∷ field Flag "runs-only" ∷ field OptionalFile "text" ∷ threads ∷ seconds ∷ format ∷ warnings ∷ accesses ∷ priority ∷ complete ∷ [])
row_of Complete = leaf (codes "complete") (field File "OUTLINE" ∷ field OptionalNumber "steps" ∷ field Flag "invariant" ∷ field Flag "in-place" ∷ threads ∷ seconds ∷ format ∷ warnings ∷ relies ∷ [])
row_of Challenge = leaf (codes "challenge") (field File "OUTLINE" ∷ field Flag "refused" ∷ threads ∷ seconds ∷ format ∷ [])
row_of Explain = leaf (codes "explain") (field NeededNumber "NUMBER" ∷ [])

-- the commands in the order in which the help lists them
abbrev pub kinds : List Kind
kinds = Number ∷ Check ∷ Conditions ∷ Prove ∷ Emit ∷ Accesses ∷ Run ∷ Valid ∷ Clauses ∷ Find ∷ Outline ∷ Verify ∷ Complete ∷ Challenge ∷ Explain ∷ []

-- the command with no subcommands
abbrev pub rgc_top : App
rgc_top = record {
  top = record (new_shape (codes "rgc")) { has_version = true; subcommand_required = true };
  subs = [];
}

-- the whole command
unfoldable pub rgc_app : App
rgc_app = record {
  top = record rgc_top.top { is_leaf = false };
  subs = map row_of kinds;
}

-- the words have this word for the format
abbrev pub HasWord : List Row → Text → Type 0
HasWord rows word = first_of format.id rows ≡ Some word

-- the words ask for this format: one JSON value a line where they say so
abbrev pub HasFormat : List Row → Format → Type 0
HasFormat rows Plain = HasNo rows format.id ⊎ (HasWord rows (codes "plain") ⊎ (HasWord rows (codes "c") ⊎ HasWord rows (codes "smt2")))
HasFormat rows Json = HasWord rows (codes "json")

-- the word for the format is none of these
abbrev pub IsUnknownFormat : List Row → Type 0
IsUnknownFormat rows = (word : Text) × (first_of format.id rows ≡ Some word) × (word ≡ codes "plain" → ⊥) × (word ≡ codes "json" → ⊥) × (word ≡ codes "c" → ⊥) × (word ≡ codes "smt2" → ⊥)

-- they ask for C, or don't
abbrev pub AsksForC : List Row → Bool → Type 0
AsksForC rows is_c = (is_c ≡ true) ↔ HasWord rows (codes "c")

-- they ask for SMT-LIB, or don't
abbrev pub AsksForSmt : List Row → Bool → Type 0
AsksForSmt rows is_smt = (is_smt ≡ true) ↔ HasWord rows (codes "smt2")

-- what is asked of commands in the same way, by the words
pub record HasSettings (rows : List Row) (settings : Settings) : Type 0 where
  pub output : HasValue rows output.id (optional file settings.output)
  pub format : HasFormat rows settings.format
  pub explained : HasValue rows explained.id (flag settings.is_explained)
  pub numbers : HasValues rows number_settings (optional number settings.threads ∷ optional number settings.seconds ∷ [])
  pub warnings : HasValue rows warnings.id (optional file settings.warnings)
  pub seed : HasValue rows seed.id (optional file settings.seed)
  pub erase : HasValue rows erase.id (optional file settings.erase)
  pub keeps_aux : HasValue rows keep_aux.id (flag settings.keeps_aux)
  pub c : AsksForC rows settings.is_c
  pub smt : AsksForSmt rows settings.is_smt
  pub prefix : HasValue rows prefix.id (optional file settings.prefix)
  pub traced : HasValue rows trace.id (flag settings.is_traced)
  pub priority : HasValue rows priority.id (optional file settings.priority)
  pub accesses : HasValue rows accesses.id (flag settings.has_accesses)
  pub complete : HasValue rows complete.id (flag settings.is_completed)
  pub relies : HasValue rows relies.id (flag settings.finds_relies)
