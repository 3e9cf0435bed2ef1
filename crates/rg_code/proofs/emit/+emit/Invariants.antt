use Rattle.std.proofs.Common.{◌≡◌, ◌+◌, ◌≤◌, ◌++◌, map, length}
use Rattle.rg_tree.specs.declared.statement.Items.{size-Items}
use Rattle.rg_tree.specs.ProgramView.{items}
use Rattle.rg_code.specs.Code.{count_of_items, code_of_items}
use Rattle.rg_code.specs.BlockView.{block}
use Rattle.rg_code.proofs.emit.+emit.Given as goal

abbrev pub invariant-emit_items-loop-rest : goal.invariant-emit_items-loop-rest
invariant-emit_items-loop-rest l = record {
  depth : size-Items l.rest ≤ size-Items l.list;
  count : length l.code.items + count_of_items (items l.rest) ≡ length l.initial.code.items + count_of_items (items l.list);
  so_far : map block l.code.items ++ code_of_items (items l.rest) (length l.code.items) l.next ≡ map block l.initial.code.items ++ code_of_items (items l.list) (length l.initial.code.items) l.next;
}
