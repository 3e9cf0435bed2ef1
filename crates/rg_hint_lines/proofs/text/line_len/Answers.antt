use Rattle.std.proofs.Common.{subst}
use Rattle.memchr.specs.Find.{IsFirstByte, is_byte}
use Rattle.rg_hint_lines.proofs.LineFeeds.{feed_found, no_feed}
use Rattle.rg_hint_lines.proofs.text.line_len.Goals as goal

pub returns-in-Some-clause-value : goal.returns-in-Some-clause-value
returns-in-Some-clause-value c = feed_found c.args.text.now c.in-Some.place (subst (λ r. IsFirstByte (is_byte 10) c.args.text.now r) c.in-Some.is c.memchr.ensures)

pub returns-in-None-clause-value : goal.returns-in-None-clause-value
returns-in-None-clause-value c = no_feed c.args.text.now (subst (λ r. IsFirstByte (is_byte 10) c.args.text.now r) c.in-None.is c.memchr.ensures)
