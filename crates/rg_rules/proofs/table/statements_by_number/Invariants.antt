use Rattle.std.proofs.Common.{◌≡◌, ◌++◌, map, drop}
use Rattle.rg_tree.specs.Numbering.{statements_of_parts}
use Rattle.rg_tree.specs.ProgramView.{part}
use Rattle.rg_rules.specs.Inner.View.{referred}
use Rattle.rg_rules.proofs.table.statements_by_number.Given as goal

abbrev pub invariant-loop-part : goal.invariant-loop-part
invariant-loop-part l =
    map referred l.list.items ++ statements_of_parts (map part (drop l.part-index l.parts)) ≡ statements_of_parts (map part l.parts)
