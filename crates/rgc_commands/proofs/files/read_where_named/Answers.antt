use Rattle.rgc_commands.proofs.files.read_where_named.Goals as goal

pub returns-in-Err-clause-unread : goal.returns-in-Err-clause-unread
returns-in-Err-clause-unread c = λ rest. rw c.in-Some.is (c.in-Err.ensures.unread rest)
