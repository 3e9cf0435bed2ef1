use Rattle.rg_c_values.proofs.WellFormed.{values_are_c, tests_are_c, stores_are_c}
use Rattle.rg_c_values.proofs.laws.expressions_are_well_formed.Goals as goal

pub returns-clause-values : goal.returns-clause-values
returns-clause-values c = values_are_c

pub returns-clause-tests : goal.returns-clause-tests
returns-clause-tests c = tests_are_c

pub returns-clause-stores : goal.returns-clause-stores
returns-clause-stores c = stores_are_c
