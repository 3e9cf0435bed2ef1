use Rattle.std.proofs.Common.{◌≡◌, ◌≤◌, map, drop, vec_capacity}
use Rattle.rg_code.specs.Code.{stored}
use Rattle.rg_code.specs.BlockView.{store}
use Rattle.rg_machine.proofs.stores.store_all.Given as goal

abbrev pub invariant-loop-store : goal.invariant-loop-store
invariant-loop-store l = record {
  so_far : stored (map store (drop l.store-index l.act)) l.state.values ≡ stored (map store l.act) l.initial.state.values;
  widths : l.state.widths ≡ l.initial.state.widths;
  capacity : vec_capacity l.initial.stack ≤ vec_capacity l.stack;
}
