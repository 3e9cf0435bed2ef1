use Rattle.std.proofs.Common.{Err}
use Rattle.rg_shape.proofs.OneFault.{one_fault}
use Rattle.rg_shape.proofs.Outcome.{accepts_within}
use Rattle.rg_shape.proofs.shape.one_answer.Goals as goal

pub returns-clause-one_fault : goal.returns-clause-one_fault
returns-clause-one_fault c = λ k ts a b n m x y. one_fault k ts a b n m x y

pub returns-clause-no_fault : goal.returns-clause-no_fault
returns-clause-no_fault c = λ k ts a w x. accepts_within k ts (Err a) x w
