use Rattle.std.proofs.Common.{◌≡◌, ◌-◌}
use Rattle.std.specs.List.{list_any, range_with_len}
use Rattle.rg_c_plan.specs.Orders.{interrupts, is_handler}
use Rattle.rg_c_plan.proofs.order.is_handler.Given as goal

-- none of those so far
abbrev pub invariant-loop-other : goal.invariant-loop-other
invariant-loop-other l = list_any (interrupts l.order l.part) (range_with_len l.other (l.count - l.other)) ≡ is_handler l.order l.count l.part
