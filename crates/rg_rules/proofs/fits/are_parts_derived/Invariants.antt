use Rattle.std.proofs.Common.{◌+◌, ◌≤◌, map, drop, length, ◌↔◌}
use Rattle.rg_words.specs.declared.limits.TheConstants.{MOST_STATEMENTS}
use Rattle.rg_tree.specs.Numbering.{statements_of_parts}
use Rattle.rg_tree.specs.ProgramView.{part}
use Rattle.rg_tree.specs.Lines.{line_tree}
use Rattle.rg_rules.specs.Faults.{PartsDerived}
use Rattle.rg_rules.proofs.fits.are_parts_derived.Given as goal

abbrev pub invariant-loop-part : goal.invariant-loop-part
invariant-loop-part l = record {
  some : 1 ≤ l.number;
  within : l.number + length (statements_of_parts (map part (drop l.part-index l.parts))) ≤ MOST_STATEMENTS + 1;
  rest : PartsDerived (map line_tree l.lines) 1 (map part l.parts) ↔ PartsDerived (map line_tree l.lines) l.number (map part (drop l.part-index l.parts));
}
