use Rattle.std.proofs.Common.{◌≡◌}
use Rattle.rg_tree.specs.ProgramTrees.{program as program_tree}
use Rattle.rg_runner.specs.Inner.Printing.{Prints}
use Rattle.rg_runner.proofs.log.print_ready.Given as goal

-- what was printed was printed, and the writer didn't fail
abbrev pub invariant-loop : goal.invariant-loop
invariant-loop g l = record {
  prints : Prints (program_tree l.program) (g.W.Out.contents l.fn.writer) l.fn.log (g.W.Out.contents l.writer) l.log;
  failures : g.W.Out.failures l.writer ≡ g.W.Out.failures l.fn.writer;
}
