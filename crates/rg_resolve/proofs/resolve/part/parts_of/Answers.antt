use Rattle.std.proofs.Common.{List, map, ◌∙◌, ap}
use Rattle.std.proofs.lemmas.Result.{err_from_is_err_and}
use Rattle.std.proofs.lemmas.List.{map-append}
use Rattle.rg_tree.specs.ProgramView.{part}
use Rattle.rg_tree.specs.declared.part.Part.{Part}
use Rattle.rg_resolve.proofs.Turns.{taken_start, taken_step, taken_refused, taken_trees, taken_faultless}
use Rattle.rg_resolve.proofs.resolve.part.parts_of.Goals as goal

pub loop-i-init : goal.loop-i-init
loop-i-init c = rw c.new-parts.ensures.items (taken_start _ _ _ _)

pub returns-in_err-part_of-clause-fault : goal.returns-in_err-part_of-clause-fault
returns-in_err-part_of-clause-fault c =
    let p = err_from_is_err_and c.from_residual.result c.from_residual.ensures.1 in
    rw (p.1, p.2) (taken_refused _ _ _ _ _ _ _ c.loop-i-test.true c.index-written-i.is c.loop-i.invariant c.args.scope.now.file _ c.in_err-part_of.ensures.fault)

pub loop-i-preserved : goal.loop-i-preserved
loop-i-preserved c =
    taken_step _ _ _ _ _ _ _ c.loop-i-test.true c.index-written-i.is c.loop-i.invariant _ _ c.in_ok-part_of.ensures.tree (ap (λ (ps : List Part). map part ps) c.in_ok-push.ensures.items ∙ map-append part _ _) c.in_ok-part_of.ensures.faultless

pub returns-clause-trees : goal.returns-clause-trees
returns-clause-trees c = taken_trees _ _ _ _ _ _ c.loop-i-test.false c.loop-i.invariant

pub returns-clause-faultless : goal.returns-clause-faultless
returns-clause-faultless c = taken_faultless _ _ _ _ _ _ c.loop-i-test.false c.loop-i.invariant
