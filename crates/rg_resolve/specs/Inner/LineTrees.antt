-- The line that a line of a derivation without faults stands for.
use Rattle.std.specs.Prelude.{List, map}
use Rattle.rg_words.specs.Layout.{Word}
use Rattle.rg_tree.specs.Lines.{LineTree}
use Rattle.rg_syntax.specs.Written.{WrittenLine}
use Rattle.rg_resolve.specs.Derivations.{leaf_number}
use Rattle.rg_resolve.specs.Inner.ProgramTrees.{spec_tree}

-- the line that a line without faults gives; it begins where its first token stands
abbrev pub resolved_line : List Word → WrittenLine → LineTree
resolved_line words l = record {
  own_number = leaf_number l.number;
  source_line = l.begin.line;
  rule = l.rule;
  number = leaf_number l.statement;
  premises = map leaf_number l.premises;
  spec = spec_tree words l.spec;
}
