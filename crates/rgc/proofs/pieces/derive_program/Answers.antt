use Rattle.std.proofs.Common.{inl, inr}
use Rattle.rg_accept.specs.Stages.{parsed_program, derived_program, derived_lines}
use Rattle.rgc.proofs.InPieces.{derived_read, derived_kept}
use Rattle.rgc.proofs.pieces.derive_program.Goals as goal

pub returns-in-Err-clause-refused : goal.returns-in-Err-clause-refused
returns-in-Err-clause-refused c = inl c.in-Err.ensures.refused

pub returns-in-Err-clause-accepts : goal.returns-in-Err-clause-accepts
returns-in-Err-clause-accepts c = λ p ls are. c.in-Err.ensures.accepts p are.spells

pub returns-in-Ok-derive_in_pieces-clause-derived : goal.returns-in-Ok-derive_in_pieces-clause-derived
returns-in-Ok-derive_in_pieces-clause-derived c =
    let derived = c.in-Ok-derive_in_pieces.derived in
    derived_kept c.args.text.now _ (parsed_program c.in-Ok.parsed) (derived_program derived) (derived_lines derived) c.in-Ok.ensures.spells c.in-Ok-derive_in_pieces.ensures.program c.in-Ok-derive_in_pieces.ensures.fits

pub returns-in-Err-derive_in_pieces-clause-refused : goal.returns-in-Err-derive_in_pieces-clause-refused
returns-in-Err-derive_in_pieces-clause-refused c = inr (parsed_program c.in-Ok.parsed, c.in-Ok.ensures.spells, c.in-Err-derive_in_pieces.ensures.refused)

pub returns-in-Err-derive_in_pieces-clause-accepts : goal.returns-in-Err-derive_in_pieces-clause-accepts
returns-in-Err-derive_in_pieces-clause-accepts c = λ p ls are.
    c.in-Err-derive_in_pieces.ensures.accepts ls (derived_read c.one_program.ensures c.args.text.now _ p (parsed_program c.in-Ok.parsed) ls c.in-Ok.ensures.spells are)
