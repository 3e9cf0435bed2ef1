use Rattle.std.proofs.Common.{◌≡◌, ◌-◌, ◌&&◌, length, get_or}
use Rattle.std.specs.List.{list_any, range_with_len}
use Rattle.rg_c_plan.specs.Orders.{may_act}
use Rattle.rg_c_plan.specs.Views.{no_access, access_meanwhile}
use Rattle.rg_c_plan.proofs.views.some_reads.Given as goal

-- none of those so far
abbrev pub invariant-loop-place : goal.invariant-loop-place
invariant-loop-place l =
    list_any (λ j. may_act l.order l.part j && (get_or l.list j no_access).reads) (range_with_len l.place (length l.list - l.place))
    ≡ (access_meanwhile l.order l.part l.list).reads
