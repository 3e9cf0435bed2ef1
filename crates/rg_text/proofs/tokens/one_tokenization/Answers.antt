use Rattle.rg_text.proofs.TokenLists.{tokens_one, bad_one, never_both}
use Rattle.rg_text.proofs.tokens.one_tokenization.Goals as goal

pub returns-clause-tokens : goal.returns-clause-tokens
returns-clause-tokens c = tokens_one

pub returns-clause-bad_byte : goal.returns-clause-bad_byte
returns-clause-bad_byte c = bad_one

pub returns-clause-never_both : goal.returns-clause-never_both
returns-clause-never_both c = never_both
