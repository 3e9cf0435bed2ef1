use Rattle.rgc_commands.specs.Stops.{proofs_line}
use Rattle.rgc_commands.proofs.files.three_files.Goals as goal

pub returns-in-Err-clause-unread : goal.returns-in-Err-clause-unread
returns-in-Err-clause-unread c = λ rest. c.in-Err.ensures.unread (proofs_line c.args.files.now rest)

pub returns-in-Err-proofs_of-clause-unread : goal.returns-in-Err-proofs_of-clause-unread
returns-in-Err-proofs_of-clause-unread c = λ rest. rw (c.in-Ok.ensures.text, c.in-Ok.ensures.derivation) (c.in-Err-proofs_of.ensures.unread rest)
