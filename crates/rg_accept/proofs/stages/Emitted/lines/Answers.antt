use Rattle.std.proofs.Math.Logic.{∥∥₁_elim}
use Rattle.rg_rules.specs.Inner.OneProof.{AreTypedLines-prop}
use Rattle.rg_accept.proofs.stages.Emitted.lines.Goals as goal

pub returns-clause-typed : goal.returns-clause-typed
returns-clause-typed c = ∥∥₁_elim c.args.self.now.proved (AreTypedLines-prop _ _) (λ p. p.typed)
