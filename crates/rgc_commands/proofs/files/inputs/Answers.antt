use Rattle.rgc_commands.proofs.files.inputs.Goals as goal

pub returns-in-Err-clause-unread : goal.returns-in-Err-clause-unread
returns-in-Err-clause-unread c = c.in-Err.ensures.unread _

pub returns-in-Err-read_where_named-clause-unread : goal.returns-in-Err-read_where_named-clause-unread
returns-in-Err-read_where_named-clause-unread c = rw c.in-Ok.ensures.passed (c.in-Err-read_where_named.ensures.unread _)
