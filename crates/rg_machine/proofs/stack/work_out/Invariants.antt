use Rattle.std.proofs.Common.{◌≡◌, ◌≤◌, reverse, drop, option_and_then, vec_len, vec_capacity}
use Rattle.rg_code.specs.Operations.{after_operations, alone, left_by}
use Rattle.rg_machine.proofs.stack.work_out.Given as goal

abbrev pub invariant-loop-operation : goal.invariant-loop-operation
invariant-loop-operation l = record {
  so_far : option_and_then alone (after_operations l.state.values (drop l.operation-index l.operations) (reverse l.stack.items)) ≡ left_by l.operations l.state.values;
  len : vec_len l.stack ≤ l.operation-index;
  capacity : vec_capacity l.fn.stack ≤ vec_capacity l.stack;
}
