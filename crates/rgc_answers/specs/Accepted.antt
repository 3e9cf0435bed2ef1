-- That files are accepted, and what code is of a program.
use Rattle.std.specs.Prelude.{◌≡◌, ℕ, List, map, codes}
use Rattle.serde_json.specs.Data.{Data, object, member, no_members, string}
use Rattle.rg_tree.specs.Statements.{ProgramTree}
use Rattle.rg_code.specs.CodeTrees.{names_of_code}
use Rattle.rg_code.specs.declared.code.Code.{Code}
use Rattle.rgc_line.specs.declared.command.Format.{Format}
use Rattle.rgc_line.specs.declared.command.Format.TheVariants.{Plain, Json}
use Rattle.rgc_answers.specs.Lines.{json_line}

-- that files are accepted, as a JSON value
abbrev pub accepted_data : Data
accepted_data = object (member (codes "kind") (string (codes "accepted")) no_members)

-- that files are accepted
abbrev pub accepted_text : Format → List ℕ
accepted_text Plain = codes "accepted\n"
accepted_text Json = json_line accepted_data

-- the code is over the program's words, and its parts have the names of the program's
pub record IsOver (program : ProgramTree) (code : Code) : Type 0 where
  pub words : code.layout ≡ program.words
  pub names : names_of_code code ≡ map (λ p. p.name) program.parts
