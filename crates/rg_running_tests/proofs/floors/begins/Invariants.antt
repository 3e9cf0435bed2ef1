use Rattle.rg_tree.specs.ProgramTrees.{program}
use Rattle.rg_code.specs.CodeTrees.{code_blocks}
use Rattle.rg_running_tests.proofs.floors.begins.Given as goal

-- this floor: its ledger, program, code, start and limit
abbrev pub ghosts-tries-L-Ledger : goal.ghosts-tries-L-Ledger
ghosts-tries-L-Ledger g a = record { name = a.blank.name; parts = a.blank.parts }

abbrev pub ghosts-tries-L-Round : goal.ghosts-tries-L-Round
ghosts-tries-L-Round g a = record {
  program = program (g.E.Checked.program_of a.checked.now);
  code = code_blocks (g.E.Checked.code_of a.checked.now);
  start = a.first.values;
  limit = a.trial.now.limit;
}
