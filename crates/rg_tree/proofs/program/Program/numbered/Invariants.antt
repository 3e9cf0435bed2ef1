use Rattle.std.proofs.Common.{◌≡◌, ℕ, ◌+◌, ◌++◌, map, drop, length}
use Rattle.rg_tree.specs.ProgramView.{part}
use Rattle.rg_tree.specs.Numbering.{numbered_parts}
use Rattle.rg_tree.proofs.program.Program.numbered.Given as goal

abbrev pub invariant-loop-part : goal.invariant-loop-part
invariant-loop-part l = record {
  number : l.number ≡ l.part-index;
  so_far : l.list.items ++ numbered_parts (l.part-index + 1) (length l.list.items + 1) (map part (drop l.part-index l.part-items)) ≡ numbered_parts 1 1 (map part l.part-items);
}
