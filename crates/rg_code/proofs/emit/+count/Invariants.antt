use Rattle.std.proofs.Common.{◌≡◌, ◌+◌, ◌≤◌}
use Rattle.rg_tree.specs.declared.statement.Items.{size-Items}
use Rattle.rg_tree.specs.ProgramView.{items}
use Rattle.rg_code.specs.Code.{count_of_items}
use Rattle.rg_code.proofs.emit.+count.Given as goal

abbrev pub invariant-count_items-loop-rest : goal.invariant-count_items-loop-rest
invariant-count_items-loop-rest l = record {
  depth : size-Items l.rest ≤ size-Items l.list;
  so_far : l.all + count_of_items (items l.rest) ≡ count_of_items (items l.list);
}
