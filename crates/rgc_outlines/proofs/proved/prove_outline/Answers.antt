use Rattle.std.proofs.Common.{inl, inr}
use Rattle.rg_accept.specs.Stages.{derived_program, derived_lines}
use Rattle.rgc_outlines.proofs.proved.prove_outline.Goals as goal

pub returns-in-Ok-Proofs-clause-proved : goal.returns-in-Ok-Proofs-clause-proved
returns-in-Ok-Proofs-clause-proved g c = record {
  derived = c.in-Ok.ensures.derived;
  proved = rw c.in-Ok-Proofs.field-0-is at c.in-Ok-Proofs.ensures.found;
  satisfied = rw c.in-Ok-Proofs.field-0-is at c.in-Ok-Proofs.ensures.satisfied;
}

pub returns-in-Ok-Failures-clause-unproved : goal.returns-in-Ok-Failures-clause-unproved
returns-in-Ok-Failures-clause-unproved g c = record {
  program = derived_program c.in-Ok.derived;
  lines = derived_lines c.in-Ok.derived;
  derived = c.in-Ok.ensures.derived;
  are = rw c.in-Ok-Failures.field-0-is at c.in-Ok-Failures.ensures.found;
}

pub returns-in-Err-clause-refused : goal.returns-in-Err-clause-refused
returns-in-Err-clause-refused g c = inl c.in-Err.ensures.refused

pub returns-in-Err-find_proofs-clause-refused : goal.returns-in-Err-find_proofs-clause-refused
returns-in-Err-find_proofs-clause-refused g c =
    inr (derived_program c.in-Ok.derived, derived_lines c.in-Ok.derived, c.in-Ok.ensures.derived, c.in-Err-find_proofs.ensures.refused)
