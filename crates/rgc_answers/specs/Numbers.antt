-- A program's statements with their numbers, as text or as JSON.
use Rattle.std.specs.Prelude.{ℕ, List, [], ◌++◌, codes, decimal}
use Rattle.std.specs.List.{flat_map}
use Rattle.std.specs.Option.{option_map_or}
use Rattle.serde_json.specs.Data.{Data, object, member, no_members, number, string, unsigned}
use Rattle.rg_tree.specs.Statements.{PartTree}
use Rattle.rg_tree.specs.Programs.{nth}
use Rattle.rg_tree.specs.Numbering.{numbered_parts}
use Rattle.rg_tree.specs.declared.numbered.Numbered.{Numbered}
use Rattle.rg_tree.specs.declared.numbered.StatementKind.{StatementKind}
use Rattle.rg_tree.specs.declared.numbered.StatementKind.TheVariants.{Skip, Assign, Await, If, While, Seq}
use Rattle.rgc_line.specs.declared.command.Format.{Format}
use Rattle.rgc_line.specs.declared.command.Format.TheVariants.{Plain, Json}
use Rattle.rgc_answers.specs.Lines.{json_line}

-- the word for a kind of statement
abbrev pub kind_text : StatementKind → List ℕ
kind_text Skip = codes "skip"
kind_text Assign = codes "assign"
kind_text Await = codes "await"
kind_text If = codes "if"
kind_text While = codes "while"
kind_text Seq = codes "seq"

-- the name of a part by its number, from 1
abbrev pub part_name : List PartTree → ℕ → List ℕ
part_name parts k = option_map_or (λ p. p.name) (nth parts k) []

-- a statement's number, its part's name, the line of its first token and its kind
abbrev pub number_line : List ℕ → Numbered → List ℕ
number_line name s = decimal s.number ++ (codes " " ++ (name ++ (codes " " ++ (decimal s.line ++ (codes " " ++ (kind_text s.kind ++ codes "\n"))))))

-- these as a JSON value
abbrev pub statement_data : List ℕ → Numbered → Data
statement_data name s =
    object (member (codes "kind") (string (codes "statement")) (member (codes "line") (number (unsigned s.line)) (member (codes "number") (number (unsigned s.number)) (member (codes "part") (string name) (member (codes "statement") (string (kind_text s.kind)) no_members)))))

-- a statement's line
abbrev pub statement_line : Format → List ℕ → Numbered → List ℕ
statement_line Plain name s = number_line name s
statement_line Json name s = json_line (statement_data name s)

-- numbered statements of these parts, a line each
abbrev pub lines_text : Format → List PartTree → List Numbered → List ℕ
lines_text format parts = flat_map (λ s. statement_line format (part_name parts s.part) s)

-- the statements of all parts in the order of their numbers, a line each
abbrev pub numbers_text : Format → List PartTree → List ℕ
numbers_text format parts = lines_text format parts (numbered_parts 1 1 parts)
