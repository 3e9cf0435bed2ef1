use Rattle.std.proofs.Common.{inl}
use Rattle.rg_accept.specs.Stages.{parsed_program, derived_program, derived_lines, accepted_program}
use Rattle.rg_accept.proofs.Texts.{fits_read, text_proved, text_accepted, derivation_refused, text_proofs_refused}
use Rattle.rg_accept.proofs.acceptance.accept_by.Goals as goal

pub returns-in-Err-clause-accepts : goal.returns-in-Err-clause-accepts
returns-in-Err-clause-accepts g c = λ a. c.in-Err.ensures.accepts a.0 a.1.spells

pub returns-in-Err-clause-refused : goal.returns-in-Err-clause-refused
returns-in-Err-clause-refused g c = inl c.in-Err.ensures.refused

pub returns-in-Err-derive-clause-accepts : goal.returns-in-Err-derive-clause-accepts
returns-in-Err-derive-clause-accepts g c = λ a.
    let fits = fits_read c.one_program.ensures c.args.text.now c.args.derivation.now c.args.proofs.now (parsed_program c.in-Ok.parsed) c.in-Ok.ensures.spells a in
    c.in-Err-derive.ensures.accepts fits.0 fits.1

pub returns-in-Err-derive-clause-refused : goal.returns-in-Err-derive-clause-refused
returns-in-Err-derive-clause-refused g c =
    derivation_refused c.args.text.now c.args.derivation.now c.args.proofs.now (parsed_program c.in-Ok.parsed) c.in-Err-derive.refusal c.in-Ok.ensures.spells c.in-Err-derive.ensures.refused

pub returns-in-Ok-prove_by-clause-accepted : goal.returns-in-Ok-prove_by-clause-accepted
returns-in-Ok-prove_by-clause-accepted g c =
    text_accepted c.args.text.now c.args.derivation.now c.args.proofs.now (parsed_program c.in-Ok.parsed) (derived_program c.in-Ok-derive.derived) (accepted_program c.in-Ok-prove_by.proved) (derived_lines c.in-Ok-derive.derived) c.in-Ok.ensures.spells c.in-Ok-derive.ensures.program c.in-Ok-derive.ensures.fits c.in-Ok-prove_by.ensures.program c.in-Ok-prove_by.ensures.proved

pub returns-in-Ok-prove_by-clause-satisfied : goal.returns-in-Ok-prove_by-clause-satisfied
returns-in-Ok-prove_by-clause-satisfied g c = c.in-Ok-prove_by.ensures.satisfied

pub returns-in-Err-prove_by-clause-accepts : goal.returns-in-Err-prove_by-clause-accepts
returns-in-Err-prove_by-clause-accepts g c = λ a.
    c.in-Err-prove_by.ensures.accepts (text_proved c.one_program.ensures c.one_derivation.ensures c.args.text.now c.args.derivation.now c.args.proofs.now (parsed_program c.in-Ok.parsed) (derived_program c.in-Ok-derive.derived) (derived_lines c.in-Ok-derive.derived) c.in-Ok.ensures.spells c.in-Ok-derive.ensures.program c.in-Ok-derive.ensures.fits a)

pub returns-in-Err-prove_by-clause-refused : goal.returns-in-Err-prove_by-clause-refused
returns-in-Err-prove_by-clause-refused g c =
    text_proofs_refused c.args.text.now c.args.derivation.now c.args.proofs.now (parsed_program c.in-Ok.parsed) (derived_program c.in-Ok-derive.derived) (derived_lines c.in-Ok-derive.derived) c.in-Err-prove_by.refusal c.in-Ok.ensures.spells c.in-Ok-derive.ensures.program c.in-Ok-derive.ensures.fits c.in-Err-prove_by.ensures.refused
