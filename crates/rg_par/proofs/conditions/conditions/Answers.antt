use Rattle.rg_tree.specs.ProgramTrees.{program}
use Rattle.rg_par.proofs.Sound.{conditions_sound}
use Rattle.std.proofs.Common.{rules}
use Rattle.rg_par.proofs.conditions.conditions.Goals as goal

pub returns-clause-list : goal.returns-clause-list
returns-clause-list c = search rules

pub returns-clause-sound : goal.returns-clause-sound
returns-clause-sound c h = conditions_sound (program c.args.program.now) (rw (returns-clause-list c) at h)
