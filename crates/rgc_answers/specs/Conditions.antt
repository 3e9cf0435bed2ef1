-- The conditions of a derivation, as text or as JSON.
use Rattle.std.specs.Prelude.{ℕ, ◌+◌, List, [], ◌∷◌, ◌++◌, codes}
use Rattle.std.specs.Fmt.{decimal}
use Rattle.serde_json.specs.Data.{Data, object, member, no_members, number, string, unsigned}
use Rattle.rg_tree.specs.Printed.{formula_text}
use Rattle.rg_tree.specs.Statements.{ProgramTree}
use Rattle.rg_tree.specs.Lines.{LineTree}
use Rattle.rg_accept.specs.Names.{names_of_conditions}
use Rattle.rgc_line.specs.declared.command.Format.{Format}
use Rattle.rgc_line.specs.declared.command.Format.TheVariants.{Plain, Json}
use Rattle.rgc_answers.specs.Lines.{json_line}

-- a pre by its text, as a JSON value
abbrev pub pre_data : List ℕ → Data
pre_data text = object (member (codes "kind") (string (codes "pre")) (member (codes "text") (string text) no_members))

-- a condition as a JSON value: its number and its name
abbrev pub condition_data : ℕ → List ℕ → Data
condition_data k name = object (member (codes "kind") (string (codes "condition")) (member (codes "name") (string name) (member (codes "number") (number (unsigned k)) no_members)))

-- the line of a pre by its text
abbrev pub pre_line : Format → List ℕ → List ℕ
pre_line Plain text = codes "pre " ++ (text ++ codes "\n")
pre_line Json text = json_line (pre_data text)

-- a condition's line: its number and its name
abbrev pub condition_line : Format → ℕ → List ℕ → List ℕ
condition_line Plain k name = decimal k ++ (codes " " ++ (name ++ codes "\n"))
condition_line Json k name = json_line (condition_data k name)

-- the lines of conditions with these names, the first of which has this number
abbrev pub condition_lines : Format → ℕ → List (List ℕ) → List ℕ
condition_lines format k [] = []
condition_lines format k (name ∷ names) = condition_line format k name ++ condition_lines format (k + 1) names

-- the pre, and then each condition with its number
abbrev pub conditions_text : Format → ProgramTree → List LineTree → List ℕ
conditions_text format p lines = pre_line format (formula_text p.words p.spec.pre []) ++ condition_lines format 1 (names_of_conditions p lines)
