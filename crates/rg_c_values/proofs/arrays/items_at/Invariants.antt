use Rattle.std.proofs.Common.{◌≡◌, ◌-◌, not, length}
use Rattle.std.specs.List.{find, range_with_len}
use Rattle.std.specs.Option.{option_map_or}
use Rattle.rg_c_values.specs.Arrays.{is_item, items_at}
use Rattle.rg_c_values.proofs.arrays.items_at.Given as goal

-- all so far are items
abbrev pub invariant-loop-item : goal.invariant-loop-item
invariant-loop-item l =
    option_map_or (λ i. i) (find (λ i. not (is_item l.layout l.first i)) (range_with_len l.item (length l.layout - l.item))) (length l.layout) ≡ items_at l.layout l.first
