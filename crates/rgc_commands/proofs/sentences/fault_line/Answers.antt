use Rattle.rgc_commands.proofs.sentences.fault_line.Goals as goal

pub returns-in-Pre : goal.returns-in-Pre
returns-in-Pre c = rw (c.in-Pre.is, ← c.name_of-name.ensures) c.format.ensures.ok

pub returns-in-Rely : goal.returns-in-Rely
returns-in-Rely c = rw (c.in-Rely.is, ← c.name_of-name-in-Rely.ensures) c.format-in-Rely.ensures.ok
