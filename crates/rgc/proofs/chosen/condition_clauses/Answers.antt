use Rattle.std.proofs.Common.{inl}
use Rattle.rgc.proofs.chosen.condition_clauses.Goals as goal

pub returns-in-Err-clause-refused : goal.returns-in-Err-clause-refused
returns-in-Err-clause-refused c = inl c.in-Err.ensures.refused
