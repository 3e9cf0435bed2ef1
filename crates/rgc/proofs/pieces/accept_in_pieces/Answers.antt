use Rattle.std.proofs.Common.{inl, inr}
use Rattle.rg_accept.specs.Stages.{derived_program, derived_lines, accepted_program}
use Rattle.rgc.proofs.InPieces.{pieces_kept, pieces_proved}
use Rattle.rgc.proofs.pieces.accept_in_pieces.Goals as goal

pub returns-in-Err-clause-accepts : goal.returns-in-Err-clause-accepts
returns-in-Err-clause-accepts g c = λ p are. c.in-Err.ensures.accepts p are.lines are.derived

pub returns-in-Err-clause-refused : goal.returns-in-Err-clause-refused
returns-in-Err-clause-refused g c = inl c.in-Err.ensures.refused

pub returns-in-Ok-prove_pieces-clause-accepted : goal.returns-in-Ok-prove_pieces-clause-accepted
returns-in-Ok-prove_pieces-clause-accepted g c =
    let derived = c.in-Ok.derived in
    pieces_kept c.args.text.now _ _ (derived_program derived) (accepted_program c.in-Ok-prove_pieces.accepted) (derived_lines derived) c.in-Ok.ensures.derived c.in-Ok-prove_pieces.ensures.program c.in-Ok-prove_pieces.ensures.proved

pub returns-in-Ok-prove_pieces-clause-satisfied : goal.returns-in-Ok-prove_pieces-clause-satisfied
returns-in-Ok-prove_pieces-clause-satisfied g c = c.in-Ok-prove_pieces.ensures.satisfied

pub returns-in-Err-prove_pieces-clause-accepts : goal.returns-in-Err-prove_pieces-clause-accepts
returns-in-Err-prove_pieces-clause-accepts g c = λ p are.
    let derived = c.in-Ok.derived in
    c.in-Err-prove_pieces.ensures.accepts (pieces_proved c.one_program.ensures c.one_derivation.ensures c.args.text.now _ _ p (derived_program derived) (derived_lines derived) c.in-Ok.ensures.derived are)

pub returns-in-Err-prove_pieces-clause-refused : goal.returns-in-Err-prove_pieces-clause-refused
returns-in-Err-prove_pieces-clause-refused g c = inr (derived_program c.in-Ok.derived, derived_lines c.in-Ok.derived, c.in-Ok.ensures.derived, c.in-Err-prove_pieces.ensures.refused)
