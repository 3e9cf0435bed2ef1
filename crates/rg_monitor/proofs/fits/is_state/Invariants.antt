use Rattle.std.proofs.Common.{ℕ, ◌<◌, ◌^◌}
use Rattle.std.specs.Prelude.{slice_index}
use Rattle.rg_words.specs.Layout.{widths_of}
use Rattle.rg_monitor.proofs.fits.is_state.Given as goal

-- the values so far are within their widths
abbrev pub invariant-loop-word : goal.invariant-loop-word
invariant-loop-word l =
    (i : ℕ) → i < l.word → slice_index l.state.values i < 2 ^ slice_index (widths_of l.layout) i
