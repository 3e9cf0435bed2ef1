use Rattle.rg_build.proofs.Beginnings.{one_beginning, all_begun}
use Rattle.rg_parse.proofs.parse_programs.beginnings_have_one_list.Goals as goal

pub returns : goal.returns
returns c = record { one = one_beginning; all = all_begun }
