use Rattle.rg_parse.proofs.PrintedStands.{read_compares_words}
use Rattle.rg_parse.proofs.PrintedText.{printed_spells}
use Rattle.rg_parse.proofs.PrintedWithin.{printed_is_read, read_prints_back}
use Rattle.rg_parse.proofs.printed.printed_reads_back.Goals as goal

pub returns : goal.returns
returns c = record { spells = printed_spells; is_read = printed_is_read; compares_words = read_compares_words; prints_back = read_prints_back }
