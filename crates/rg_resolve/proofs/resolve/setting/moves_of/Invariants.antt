use Rattle.std.proofs.Common.{map}
use Rattle.rg_tree.specs.Moves.{move}
use Rattle.rg_syntax.specs.Written.{move_text}
use Rattle.rg_resolve.specs.Settings.{move_faults}
use Rattle.rg_resolve.proofs.Lists.{AreDone, items_from}
use Rattle.rg_resolve.proofs.resolve.setting.moves_of.Given as goal
use Rattle.rg_resolve.specs.Inner.SettingTrees.{move_tree}

abbrev pub invariant-loop-one : goal.invariant-loop-one
invariant-loop-one l =
    let src = l.scope.source.now in
    let words = l.scope.layout.now in
    AreDone (move_tree words) (move_faults words) (map (move_text src) l.written) (items_from (move_text src) l.written l.one-index) (map move l.moves.items)
