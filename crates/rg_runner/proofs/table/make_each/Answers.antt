use Rattle.std.proofs.Common.{rules}
use Rattle.rg_floor.proofs.EachMove.{change_at}
use Rattle.rg_runner.proofs.table.make_each.Goals as goal

pub make_move-requires-clause-values : goal.make_move-requires-clause-values
make_move-requires-clause-values g c =
    change_at g.L.Round.program.words c.args.moves.now c.loop-i.i c.index-moves-i.result c.requires.moves (search rules) (search rules)
