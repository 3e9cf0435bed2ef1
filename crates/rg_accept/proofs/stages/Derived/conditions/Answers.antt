use Rattle.std.proofs.Common.{map, rules}
use Rattle.rg_tree.specs.Conditions.{condition_tree}
use Rattle.rg_tree.specs.ProgramTrees.{program}
use Rattle.rg_accept.proofs.Asked.{all_sound}
use Rattle.rg_accept.proofs.stages.Derived.conditions.Goals as goal

pub returns-clause-sound : goal.returns-clause-sound
returns-clause-sound c =
    all_sound (program c.args.self.now.program) (map condition_tree c.in_ok-all.all.items) (map condition_tree c.add_conditions.new.all.items) (search rules) c.in_ok-all.ensures.parts
