use Rattle.std.proofs.Common.{inl}
use Rattle.rg_tree.specs.ProgramTrees.{program}
use Rattle.rg_accept.specs.Stages.{derived_program, derived_lines}
use Rattle.rg_accept.proofs.Accepting.{proved_read, kept_proved, proofs_refused}
use Rattle.rg_accept.proofs.acceptance.accept_program.Goals as goal

pub returns-in-Ok-prove-clause-accepted : goal.returns-in-Ok-prove-clause-accepted
returns-in-Ok-prove-clause-accepted c = record {
  lines = derived_lines c.in-Ok.derived;
  fits = c.in-Ok.ensures.fits;
  proved = kept_proved c.args.proofs.now (program c.args.program) (derived_program c.in-Ok.derived) (derived_lines c.in-Ok.derived) c.in-Ok.ensures.program c.in-Ok-prove.ensures.proved;
}

pub returns-in-Err-prove-clause-accepts : goal.returns-in-Err-prove-clause-accepts
returns-in-Err-prove-clause-accepts c = λ a.
    c.in-Err-prove.ensures.accepts (proved_read c.one_derivation.ensures c.args.derivation.now c.args.proofs.now (program c.args.program) (derived_program c.in-Ok.derived) (derived_lines c.in-Ok.derived) c.in-Ok.ensures.program c.in-Ok.ensures.fits a)

pub returns-in-Err-prove-clause-refused : goal.returns-in-Err-prove-clause-refused
returns-in-Err-prove-clause-refused c =
    proofs_refused c.args.derivation.now c.args.proofs.now (program c.args.program) (derived_program c.in-Ok.derived) (derived_lines c.in-Ok.derived) c.in-Err-prove.refusal c.in-Ok.ensures.program c.in-Ok.ensures.fits c.in-Err-prove.ensures.refused

pub returns-in-Err-clause-accepts : goal.returns-in-Err-clause-accepts
returns-in-Err-clause-accepts c = λ a. c.in-Err.ensures.accepts a.lines a.fits

pub returns-in-Err-clause-refused : goal.returns-in-Err-clause-refused
returns-in-Err-clause-refused c = inl c.in-Err.ensures.refused
