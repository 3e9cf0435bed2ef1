-- What a search may answer.
use Rattle.std.specs.Prelude.{◌≡◌, ℕ, ◌+◌, ◌≤◌, ◌<◌, nat_lt, length, Option, Some, None, if◌then◌else◌}
use Rattle.rg_words.specs.declared.limits.TheConstants.{MOST_DECISIONS, MOST_PROOF_BYTES}
use Rattle.rg_words.specs.declared.refusal.RefusalNumber.{RefusalNumber}
use Rattle.rg_words.specs.declared.refusal.RefusalNumber.TheVariants.{Limit}
use Rattle.rg_clauses.specs.ClauseLists.{Cnf, Satisfies, IsUnsatisfiable, value_at}
use Rattle.rg_hints.specs.Lines.{Section, hint_line_at}
use Rattle.rg_hints.specs.Normal.{section_text}
use Rattle.rg_hints.specs.Verdict.{IsClosed}
use Rattle.rg_find.specs.declared.answer.Found.{Found}
use Rattle.rg_find.specs.declared.answer.Found.TheVariants.{Lines, Values, GaveUp, TooLarge}

-- lines are over the clauses, are closed for them, and no values satisfy the clauses; values are those of all variables, and satisfy the clauses
abbrev pub IsFound : Cnf → Found → Type 0
IsFound f (Lines lines) = (lines.given ≡ length f.clauses) × IsClosed f.clauses lines × IsUnsatisfiable f.clauses
IsFound f (Values values) = (length values.items ≡ f.variables) × Satisfies (value_at values.items) f.clauses
IsFound f GaveUp = Unit {0}
IsFound f TooLarge = Unit {0}

-- lines that are given have a text that is no longer than a proofs file may be
abbrev pub FoundFits : Found → Type 0
FoundFits (Lines lines) = length (section_text lines) ≤ MOST_PROOF_BYTES
FoundFits (Values values) = Unit {0}
FoundFits GaveUp = Unit {0}
FoundFits TooLarge = Unit {0}

-- the numbers of lines begin at one above the given clauses, and have no gaps
abbrev pub HasNoGaps : Section → Type 0
HasNoGaps s = (k : ℕ) → k < length s.lines → (hint_line_at s k).id ≡ s.given + 1 + k

-- so do those of lines that are given
abbrev pub FoundInOrder : Found → Type 0
FoundInOrder (Lines lines) = HasNoGaps lines
FoundInOrder (Values values) = Unit {0}
FoundInOrder GaveUp = Unit {0}
FoundInOrder TooLarge = Unit {0}

-- a search of more than the most decisions is refused
abbrev pub fault_of : ℕ → Option RefusalNumber
fault_of steps = if nat_lt MOST_DECISIONS steps then Some Limit else None
