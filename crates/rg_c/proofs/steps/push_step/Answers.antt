use Rattle.std.proofs.Common.{length, map}
use Rattle.rg_tree.specs.ConditionTrees.{assignment}
use Rattle.rg_c.proofs.MovingFits.{moving_fits}
use Rattle.rg_c.proofs.steps.push_step.Goals as goal

pub all_translated-requires : goal.all_translated-requires
all_translated-requires c = rw (c.deref.ensures.value, c.in_ok-moves.ensures) (moving_fits (length c.args.s.now.layout.now) (map assignment c.args.act.now) c.requires.values)
