use Rattle.std.proofs.Common.{map}
use Rattle.rg_tree.specs.ProgramView.{statement}
use Rattle.rg_syntax.specs.Written as written
use Rattle.rg_syntax.specs.Written.{listed}
use Rattle.rg_resolve.specs.Programs.{statement_faults}
use Rattle.rg_resolve.specs.Inner.ProgramTrees.{statement_tree}
use Rattle.rg_syntax.proofs.Sizes.{statement_size, block_size}
use Rattle.rg_resolve.proofs.Lists.{AreDone, items_from}
use Rattle.rg_resolve.proofs.resolve.block.+blocks.Given as goal

abbrev pub decreases-statement_of : goal.decreases-statement_of
decreases-statement_of l = statement_size (written.statement l.scope.now.source.now l.s.now)

abbrev pub decreases-statements_of : goal.decreases-statements_of
decreases-statements_of l = block_size (listed (map (written.statement l.scope.now.source.now) l.items.now))

abbrev pub invariant-statements_of-loop-one : goal.invariant-statements_of-loop-one
invariant-statements_of-loop-one l =
    let view = written.statement l.scope.source.now in
    let words = l.scope.layout.now in
    AreDone (statement_tree words) (statement_faults words) (map view l.items) (items_from view l.items l.one-index) (map statement l.statements.items)
