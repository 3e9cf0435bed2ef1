use Rattle.rg_tree.specs.ProgramTrees.{program as program_tree}
use Rattle.rg_accept.specs.Stages.{emitted_program, emitted_lines}
use Rattle.rg_apart.proofs.search.find_apart.Goals as goal

pub returns : goal.returns
returns g c =
    c.parts_never_meet.ensures (emitted_program c.args.emitted.now) (program_tree c.args.left.now) c.args.erased.now c.requires (emitted_lines c.args.emitted.now) c.loop-word.apart.items
    (record { proved = c.args.emitted.now.proved; apart_hold = λ k less flagged. c.loop-word.invariant.1 k flagged })
