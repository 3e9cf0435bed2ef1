-- The rows of the table as the code has them.
use Rattle.std.specs.Prelude.{◌≡◌, ◌⊎◌, ◌<◌, ◌^◌, ◌||◌, ℕ, Bool, true, false, Option, List, [], ◌∷◌, length, map, nat_lt, is_some, option_map, Some}
use Rattle.std.specs.Str.Parse.{IsNumeral, without_leading_plus, digits_value}
use Rattle.std.specs.Borrow.{Bor}
use Rattle.clap.specs.Words.{App, Rule, Row as Given, Shape, Text, app_of, first_of, one_of, with_subcommand}
use Rattle.clap.specs.declared.builder.command.Command.{Command}
use Rattle.clap.specs.declared.builder.command.Command.TheViews.{out-Command}
use Rattle.rgc_line.specs.Values.{Value, file, absent, HasNo, HasValues, IsThere}
use Rattle.rgc_line.specs.App.{rule_of_form, field, leaf, row_of, kinds, derivation_files, condition, number_settings}
use Rattle.rgc_line.specs.Line.{chosen_values, contents_of, IsFieldFault}
use Rattle.rgc_line.specs.declared.fields.FieldFault.{FieldFault}
use Rattle.rgc_line.specs.declared.command.Command.{Command as RgCommand}
use Rattle.rgc_line.specs.declared.commands.Kind.{Kind}
use Rattle.rgc_line.specs.declared.command.Chosen.{Chosen}
use Rattle.rgc_line.specs.declared.commands.Field.{Field}
use Rattle.rgc_line.specs.declared.commands.Form.TheVariants.{Place, Places, OptionalFile}
use Rattle.rgc_line.specs.declared.fields.Source.{Source}
use Rattle.rgc_line.specs.declared.fields.Source.TheVariants.{Files, Outline}
use Rattle.rgc_line.specs.declared.commands.Row.{Row}

-- the argument that a field is
abbrev pub rule_at : Field → Rule
rule_at field = rule_of_form field.form field.id.now

-- the subcommand that a row is
abbrev pub shape_at : Row → Shape
shape_at row = leaf row.name.now (map rule_at row.fields.now)

-- the command with these subcommands added in turn
abbrev pub with_subcommands : App → List Shape → App
with_subcommands a [] = a
with_subcommands a (shape ∷ rest) = with_subcommands (with_subcommand a shape) rest

-- the command is the row's, and has no argument that its subcommands share
abbrev pub IsLeafOf : Row → Command → Type 0
IsLeafOf row c = (app_of c ≡ record { top = shape_at row; subs = [] }) × ((out-Command c).has_globals ≡ false)

-- the rows have the kinds of the table, in its order, and their names
abbrev pub IsTable : List Row → Type 0
IsTable rows = map {B = Kind × Text} (λ row. (row.kind, row.name.now)) rows ≡ map (λ kind. (kind, (row_of kind).name)) kinds

-- the text is a number in decimal digits, of 64 bits
abbrev pub IsNumberText : Text → Type 0
IsNumberText text = IsNumeral 10 (without_leading_plus text) × (digits_value 10 (without_leading_plus text) < 2 ^ 64)

-- the words have a number at the id
abbrev pub IsNumber : List Given → Text → Type 0
IsNumber rows id = (text : Text) × (one_of id rows ≡ Some text) × IsNumberText text

-- the words have nothing at the id, or a number
abbrev pub IsNumberIf : List Given → Text → Type 0
IsNumberIf rows id = HasNo rows id ⊎ IsNumber rows id

-- the argument has to be given, or is given by default
abbrev pub is_wanted : Rule → Bool
is_wanted rule = rule.required || (nat_lt 0 (length rule.defaults))

-- what the words have at an argument in which `clap` finds no fault, by whether it is wanted, and whether it is a number
abbrev pub IsSound : Bool → Bool → List Given → Text → Type 0
IsSound true true rows id = IsNumber rows id
IsSound true false rows id = IsThere rows id
IsSound false true rows id = IsNumberIf rows id
IsSound false false rows id = Unit {0}

-- what the words have at each of the arguments
abbrev pub AreSound : List Given → List Rule → Type 0
AreSound rows [] = Unit {0}
AreSound rows (rule ∷ rules) = IsSound (is_wanted rule) (is_some rule.parser) rows rule.id × AreSound rows rules

-- what the words have at the settings that are numbers, which each command is asked for, and at the command's arguments
abbrev pub IsWhole : Kind → List Given → Type 0
IsWhole kind rows = AreSound rows number_settings × AreSound rows (row_of kind).rules

-- the subcommand is one of the table, and `clap` finds no fault in its words
pub record IsListed (name : Text) (rows : List Given) : Type 0 where
  pub kind : Kind
  pub named : name ≡ (row_of kind).name
  pub whole : IsWhole kind rows

-- a fault of the subcommand of this name
pub record IsRefused (name : Text) (rows : List Given) (place : ℕ) (fault : FieldFault) : Type 0 where
  pub kind : Kind
  pub named : name ≡ (row_of kind).name
  pub why : IsFieldFault kind rows place fault

-- the command is of this kind, and the matches have its values
abbrev pub Reads : Kind → List Given → RgCommand → Type 0
Reads kind rows command = ((contents_of command).0 ≡ kind) × HasValues rows (row_of kind).rules (contents_of command).1

-- the file of this id is the one that the words name, and none where they name none
abbrev pub HasOption : List Given → Text → Option (Bor Text) → Type 0
HasOption rows id name = first_of id rows ≡ option_map (λ (s : Bor Text). s.now) name

-- the condition is chosen by the two options
abbrev pub HasChosen : List Given → Option Chosen → Type 0
HasChosen rows chosen = HasValues rows (derivation_files ∷ condition ∷ []) (chosen_values chosen [])

-- the arguments at which a program is given by its three files, or by an outline
abbrev pub source_rules : List Rule
source_rules = field OptionalFile "outline" ∷ field Place "TEXT" ∷ field Place "DERIVATION" ∷ field Places "PROOFS" ∷ []

-- the values at these arguments
abbrev pub source_values : Source → List Value
source_values (Files text derivation proofs) = absent ∷ file text ∷ file derivation ∷ file proofs ∷ []
source_values (Outline outline) = file outline ∷ absent ∷ []

-- the program is given so
abbrev pub HasSource : List Given → Source → Type 0
HasSource rows source = HasValues rows source_rules (source_values source)
