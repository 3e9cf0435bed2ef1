use Rattle.std.proofs.Common.{subst}
use Rattle.rg_tree.specs.Programs.{IsSatisfied}
use Rattle.rgc_outlines.proofs.asked.has_proofs.Goals as goal

pub returns-in-Ok-clause-proved : goal.returns-in-Ok-clause-proved
returns-in-Ok-clause-proved g c = λ _. record {
  proofs = _;
  proved = c.in-Ok.ensures.proved;
  satisfied = subst IsSatisfied c.in-Ok.ensures.program c.in-Ok.ensures.satisfied;
}
