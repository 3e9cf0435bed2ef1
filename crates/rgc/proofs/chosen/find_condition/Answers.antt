use Rattle.std.proofs.Common.{inl}
use Rattle.rgc.proofs.chosen.find_condition.Goals as goal

pub returns-in-Err-clause-refused : goal.returns-in-Err-clause-refused
returns-in-Err-clause-refused g c = inl (inl c.in-Err.ensures.refused)
