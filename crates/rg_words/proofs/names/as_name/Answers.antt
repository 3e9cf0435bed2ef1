use Rattle.std.proofs.Common.{sym}
use Rattle.rg_words.proofs.Spelling.{no_text_no_name}
use Rattle.rg_words.proofs.names.as_name.Goals as goal

pub returns-in_default-clause-exact : goal.returns-in_default-clause-exact
returns-in_default-clause-exact c = sym (no_text_no_name c.args.bytes.now c.in_default.ensures.cases.0)
