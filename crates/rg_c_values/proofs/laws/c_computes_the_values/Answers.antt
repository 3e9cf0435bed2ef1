use Rattle.rg_c_values.proofs.Right.{values_are_right, tests_are_right, stores_are_right}
use Rattle.rg_c_values.proofs.laws.c_computes_the_values.Goals as goal

pub returns-clause-values : goal.returns-clause-values
returns-clause-values c = values_are_right

pub returns-clause-tests : goal.returns-clause-tests
returns-clause-tests c = tests_are_right

pub returns-clause-stores : goal.returns-clause-stores
returns-clause-stores c = stores_are_right
