use Rattle.rg_tree.specs.ProgramTrees.{program}
use Rattle.rg_code.specs.CodeTrees.{code_blocks}
use Rattle.rg_runner.proofs.player.play.Given as goal

-- this run: its ledger, program, code, start and limit
abbrev pub ghosts-play_at-L-Ledger : goal.ghosts-play_at-L-Ledger
ghosts-play_at-L-Ledger g a = record { name = a.blank.name; parts = a.blank.parts }

abbrev pub ghosts-play_at-L-Round : goal.ghosts-play_at-L-Round
ghosts-play_at-L-Round g a = record {
  program = program (g.E.Checked.program_of a.checked.now);
  code = code_blocks (g.E.Checked.code_of a.checked.now);
  start = a.start.values;
  limit = a.limit;
}
