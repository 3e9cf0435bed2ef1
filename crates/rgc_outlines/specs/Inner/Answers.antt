-- What is known of changed programs that are asked side by side.
use Rattle.std.specs.Prelude.{ℕ, ◌<◌, Option, None, Result, List, length, slice_index_or, IfOk, IfSome}
use Rattle.rgc_outlines.specs.Changed.{IsAnswered}
use Rattle.rgc_outlines.specs.declared.answers.Answered.{Answered}

-- at each place stands what is so of a changed program, or why nothing is said, or nothing
abbrev pub AreAnswered : {E : Type 0} → List (Option (Result Answered E)) → Type 0
AreAnswered known = (i : ℕ) → i < length known → IfSome (slice_index_or known i None) (λ r. IfOk r IsAnswered)
