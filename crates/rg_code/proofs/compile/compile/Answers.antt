use Rattle.rg_tree.specs.ProgramTrees.{program as program_tree}
use Rattle.rg_code.proofs.Legal.{program_legal}
use Rattle.rg_code.proofs.Views.{compiler_is_right}
use Rattle.rg_code.proofs.compile.compile.Goals as goal

pub invariant_of-result : goal.invariant_of-result
invariant_of-result c =
    record { legal = rw (c.in_ok-parts.ensures.blocks, c.deref.ensures.value, c.in_ok-layout.ensures) (program_legal (program_tree c.args.program.now) c.facts.ensures.layout c.args.program.now.typed) }

pub returns-clause-runs : goal.returns-clause-runs
returns-clause-runs c = rw (c.in_ok-parts.ensures.blocks, c.deref.ensures.value) (compiler_is_right (program_tree c.args.program.now))
