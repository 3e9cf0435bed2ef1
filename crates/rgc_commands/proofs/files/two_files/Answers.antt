use Rattle.rgc_commands.specs.Stops.{derivation_line}
use Rattle.rgc_commands.proofs.files.two_files.Goals as goal

pub returns-in-Err-clause-unread : goal.returns-in-Err-clause-unread
returns-in-Err-clause-unread c = λ rest. c.in-Err.ensures.unread (derivation_line c.args.files.now rest)

pub returns-in-Err-derivation_of-clause-unread : goal.returns-in-Err-derivation_of-clause-unread
returns-in-Err-derivation_of-clause-unread c = λ rest. rw c.in-Ok.ensures.bytes (c.in-Err-derivation_of.ensures.unread rest)
