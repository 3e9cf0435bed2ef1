use Rattle.rg_tree.specs.ProgramTrees.{program}
use Rattle.rg_c.proofs.Fits.{program_fits}
use Rattle.rg_c.proofs.header.header.Goals as goal

pub push_top-requires : goal.push_top-requires
push_top-requires c = (program_fits (program c.args.program.now) c.facts.ensures.layout c.args.program.now.typed).0

pub push_asserted-requires : goal.push_asserted-requires
push_asserted-requires c = (program_fits (program c.args.program.now) c.facts.ensures.layout c.args.program.now.typed).0.0

pub push_asserted-requires-2 : goal.push_asserted-requires-2
push_asserted-requires-2 c = (program_fits (program c.args.program.now) c.facts.ensures.layout c.args.program.now.typed).0.3

pub push_parts-requires : goal.push_parts-requires
push_parts-requires c = rw c.deref.ensures.value (program_fits (program c.args.program.now) c.facts.ensures.layout c.args.program.now.typed).1
