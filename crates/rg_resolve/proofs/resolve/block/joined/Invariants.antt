use Rattle.std.proofs.Common.{vec_len}
use Rattle.rg_tree.specs.ProgramView.{statement, items}
use Rattle.rg_resolve.proofs.Blocks.{AreAll}
use Rattle.rg_resolve.proofs.resolve.block.joined.Given as goal

abbrev pub invariant-loop-earlier : goal.invariant-loop-earlier
invariant-loop-earlier l = AreAll l.fn.statements.items l.statements.items (statement l.before) (items l.items)

abbrev pub decreases-loop-earlier : goal.decreases-loop-earlier
decreases-loop-earlier l = vec_len l.statements
