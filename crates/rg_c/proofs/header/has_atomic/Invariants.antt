use Rattle.std.proofs.Common.{◌≡◌, ◌-◌, ◌&&◌, nat_eq, length}
use Rattle.std.specs.Prelude.{slice_index}
use Rattle.std.specs.List.{list_any, range_with_len}
use Rattle.rg_words.specs.Layout.{widths_of}
use Rattle.rg_c_plan.specs.Ways.{kind_at, is_atomic}
use Rattle.rg_c_values.specs.Translation.{container}
use Rattle.rg_c.specs.Headers.{has_atomic}
use Rattle.rg_c.proofs.header.has_atomic.Given as goal

abbrev pub invariant-loop-word : goal.invariant-loop-word
invariant-loop-word l =
    list_any (λ k. is_atomic (kind_at l.kinds k) && nat_eq (container (slice_index (widths_of l.layout) k)) l.bits) (range_with_len l.word (length l.layout - l.word)) ≡ has_atomic l.layout l.kinds l.bits
