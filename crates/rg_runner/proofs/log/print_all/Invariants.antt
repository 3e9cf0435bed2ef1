use Rattle.std.proofs.Common.{◌≡◌}
use Rattle.rg_tree.specs.ProgramTrees.{program as program_tree}
use Rattle.rg_runner.specs.Inner.Printing.{Holds}
use Rattle.rg_runner.proofs.log.print_all.Given as goal

-- the lines of the printed records are out or wait, and the writer didn't fail
abbrev pub invariant-loop : goal.invariant-loop
invariant-loop g l = record {
  holds : Holds (program_tree l.program) (g.W.Out.contents l.fn.writer) (g.W.Out.contents l.writer) l.log;
  failures : g.W.Out.failures l.writer ≡ g.W.Out.failures l.fn.writer;
}
