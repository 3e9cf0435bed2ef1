use Rattle.std.proofs.Common.{lit<, rules, tests, not}
use Rattle.std.proofs.lemmas.Iterator.Search.{find_from_yields_List}
use Rattle.std.proofs.lemmas.Iterator.Splits.{YieldsList-from_str_split}
use Rattle.rgc_commands.specs.Flagged.{is_word_name}
use Rattle.rgc_commands.proofs.names.stranger.Goals as goal

pub returns : goal.returns
returns c =
    find_from_yields_List (λ one. not (is_word_name c.args.layout.now one)) _ _ _ c.find.ensures.ran
    (YieldsList-from_str_split 44 c.args.names.now (lit< tt) c.split.ensures.text c.split.ensures.has_more c.split.ensures.pattern)
    (λ x b q k. search (rules, tests))
