use Rattle.rg_parse.proofs.DerivationMeanings.{one_spelled_derivation}
use Rattle.rg_parse.proofs.derivations.one_derivation.Goals as goal

pub returns : goal.returns
returns c = one_spelled_derivation
