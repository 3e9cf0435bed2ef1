use Rattle.rg_c_values.proofs.NamesApart.{names_stay_apart, names_are_free}
use Rattle.rg_c_values.proofs.ArraysApart.{members_stay_apart}
use Rattle.rg_c_values.proofs.laws.names_are_names_in_c.Goals as goal

pub returns-clause-apart : goal.returns-clause-apart
returns-clause-apart c = names_stay_apart

pub returns-clause-free : goal.returns-clause-free
returns-clause-free c = names_are_free

pub returns-clause-members : goal.returns-clause-members
returns-clause-members c = members_stay_apart
