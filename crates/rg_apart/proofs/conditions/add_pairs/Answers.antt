use Rattle.std.proofs.Common.{rules}
use Rattle.rg_words.specs.Layout.{widths_of}
use Rattle.rg_apart.proofs.TypedVisits.{visit_typed}
use Rattle.rg_apart.proofs.conditions.add_pairs.Goals as goal

pub add_pair-requires-clause-second : goal.add_pair-requires-clause-second
add_pair-requires-clause-second c =
    visit_typed (widths_of c.args.layout.now) c.args.list.now c.loop-v.v-index c.v-item.result c.requires.list (search rules) (search rules)
