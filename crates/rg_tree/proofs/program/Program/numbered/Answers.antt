use Rattle.std.proofs.Common.{◌≡◌, ◌+◌, ap, rules}
use Rattle.rg_tree.proofs.Numbers.{turn}
use Rattle.rg_tree.proofs.program.Program.numbered.Goals as goal

pub loop-part-preserved : goal.loop-part-preserved
loop-part-preserved c = record {
  number = ap (λ n. n + 1) c.loop-part.invariant.number;
  so_far = turn c.deref-part-items.result.now c.loop-part.part-index c.part-item.result _ _ _ (search rules) (search rules) (rw c.loop-part.invariant.number at c.in_ok-push_statement.ensures) c.loop-part.invariant.so_far;
}
