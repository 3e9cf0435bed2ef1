use Rattle.std.proofs.Common.{map}
use Rattle.rg_syntax.specs.Written.{setting}
use Rattle.rg_resolve.specs.Settings.{setting_faults}
use Rattle.rg_resolve.proofs.Lists.{items_from}
use Rattle.rg_resolve.proofs.Turns.{AreTaken, items_to}
use Rattle.rg_resolve.proofs.resolve.setting.word_values.Given as goal
use Rattle.rg_resolve.specs.Inner.SettingTrees.{word_value}

abbrev pub invariant-loop-i : goal.invariant-loop-i
invariant-loop-i l =
    let src = l.scope.source.now in
    let words = l.scope.layout.now in
    AreTaken (word_value words) (setting_faults words) (map (setting src) l.settings) (items_to (setting src) l.settings l.i) (items_from (setting src) l.settings l.i) l.values.items
