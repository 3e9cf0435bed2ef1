use Rattle.std.proofs.Math.Logic.{∥∥₁_map}
use Rattle.rg_accept.proofs.stages.Accepted.emit.Goals as goal

pub invariant_of-result : goal.invariant_of-result
invariant_of-result c = record {
  proved = c.args.self.proved;
  law = ∥∥₁_map c.args.self.satisfied (λ s. record {
    satisfied = s;
    runs = c.in_ok-code.ensures.runs;
    words = c.in_ok-code.ensures.words;
    names = c.in_ok-code.ensures.names;
  });
}
