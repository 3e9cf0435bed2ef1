use Rattle.rg_parse.proofs.ProgramMeanings.{one_spelled_program}
use Rattle.rg_parse.proofs.programs.one_program.Goals as goal

pub returns : goal.returns
returns c = one_spelled_program
