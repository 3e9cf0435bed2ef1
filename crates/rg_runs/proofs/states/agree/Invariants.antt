use Rattle.std.proofs.Common.{ℕ, ◌<◌, false}
use Rattle.std.specs.Prelude.{slice_index, slice_index_or}
use Rattle.rg_words.specs.Layout.{fixed_of}
use Rattle.rg_words.specs.States.{SameIf}
use Rattle.rg_runs.proofs.states.agree.Given as goal

-- the fixed words so far have the same values
abbrev pub invariant-loop-word : goal.invariant-loop-word
invariant-loop-word l =
    (i : ℕ) → i < l.word → SameIf (slice_index_or (fixed_of l.layout) i false) (slice_index l.first.values i) (slice_index l.second.values i)
