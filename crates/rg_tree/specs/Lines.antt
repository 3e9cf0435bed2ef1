-- Lines of a derivation, without where they lie in memory.
use Rattle.std.specs.Prelude.{ℕ, List, [], ◌∷◌}
use Rattle.rg_words.specs.Layout.{Word}
use Rattle.rg_tree.specs.declared.line.Rule.{Rule}
use Rattle.rg_tree.specs.declared.line.DerivationLine.{DerivationLine}
use Rattle.rg_tree.specs.Statements.{Specification}
use Rattle.rg_tree.specs.ProgramView.{specification}
use Rattle.rg_tree.specs.TypedPrograms.{IsTypedSpecification}

-- a line, with the number that it gives itself and the line of the source that it begins on; its premises are numbers of
-- lines, from 1
pub record LineTree : Type 0 where
  pub own_number : ℕ
  pub source_line : ℕ
  pub rule : Rule
  pub number : ℕ
  pub premises : List ℕ
  pub spec : Specification

-- a line of the code, without where it lies in memory
abbrev pub line_tree : DerivationLine → LineTree
line_tree l = record {
  own_number = l.own_number;
  source_line = l.source_line;
  rule = l.rule;
  number = l.number;
  premises = l.premises.items;
  spec = specification l.spec;
}

-- the formulas of each line are of one width each over these words
abbrev pub AreTypedLines : List Word → List LineTree → Type 0
AreTypedLines words [] = Unit {0}
AreTypedLines words (line ∷ lines) = IsTypedSpecification words line.spec × AreTypedLines words lines
