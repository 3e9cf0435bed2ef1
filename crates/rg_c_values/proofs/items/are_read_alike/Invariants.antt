use Rattle.std.proofs.Common.{◌≡◌, ◌+◌, ◌-◌}
use Rattle.std.specs.List.{list_all, range_with_len}
use Rattle.rg_c_values.specs.Items.{read_of, is_read_alike, are_read_alike}
use Rattle.rg_c_values.proofs.items.are_read_alike.Given as goal

-- those so far are
abbrev pub invariant-loop-item : goal.invariant-loop-item
invariant-loop-item l =
    list_all (λ i. is_read_alike (read_of l.reads l.first) (read_of l.reads (l.first + i))) (range_with_len l.item (l.count - l.item)) ≡ are_read_alike l.reads l.first l.count
