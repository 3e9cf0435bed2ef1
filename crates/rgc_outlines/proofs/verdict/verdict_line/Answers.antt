use Rattle.rgc_outlines.proofs.verdict.verdict_line.Goals as goal

pub returns-in-Alone : goal.returns-in-Alone
returns-in-Alone c = rw (c.in-Alone.is, ← c.format-all.ensures.text, ← c.format-by_search.ensures.text) c.format.ensures.ok

pub returns-in-Named : goal.returns-in-Named
returns-in-Named c = rw (c.in-Named.is, ← c.format-all.ensures.text, ← c.format-by_search.ensures.text) c.format-in-Named.ensures.ok
