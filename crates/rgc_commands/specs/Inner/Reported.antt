-- How an answer goes out, before it is reported.
use Rattle.std.specs.Prelude.{◌≡◌, List, ℕ, []}
use Rattle.rgc_commands.specs.declared.answers.Answer.{Answer}
use Rattle.rgc_commands.specs.declared.answers.Answer.TheVariants.{Run}

-- the lines of moves that were passed over: none but of a run
abbrev pub IsPassed : Answer → List ℕ → Type 0
IsPassed (Run ready) passed = Unit {0}
IsPassed answer passed = passed ≡ []
