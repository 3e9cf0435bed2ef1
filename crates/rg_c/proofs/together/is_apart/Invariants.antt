use Rattle.std.proofs.Common.{◌≡◌, ◌+◌, ◌-◌, not}
use Rattle.std.specs.List.{list_all, range_with_len}
use Rattle.rg_c.specs.Used.{value_reads}
use Rattle.rg_c.specs.Together.{is_apart}
use Rattle.rg_c.specs.View.{item}
use Rattle.rg_c_values.specs.View.{value}
use Rattle.rg_c.proofs.together.is_apart.Given as goal

-- none of those so far
abbrev pub invariant-loop-number : goal.invariant-loop-number
invariant-loop-number l =
    list_all (λ i. not (value_reads (l.it.first + i) (value l.it.index.now))) (range_with_len l.number (l.count - l.number)) ≡ is_apart (item l.it) l.count
