-- The answer for some lines of a section.
use Rattle.std.specs.Prelude.{ℕ, ℤ, List, Result, MatchResult}
use Rattle.rg_words.specs.declared.refusal.Refusal.{Refusal}
use Rattle.rg_hints.specs.Lines.{Section}
use Rattle.rg_hints.specs.Verdict.{LinesFollow, IsPieceRefusal}

-- yes where the lines from a place on and before another follow, and else the fault of the least that does not
abbrev pub IsPieceAnswer : List (List ℤ) → Section → ℕ → ℕ → Result (Unit {0}) Refusal → Type 0
IsPieceAnswer given s from to r = MatchResult r (λ _. LinesFollow given s from to) (IsPieceRefusal given s from to)
