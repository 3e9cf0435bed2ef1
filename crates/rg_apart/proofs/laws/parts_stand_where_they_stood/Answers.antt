use Rattle.rg_apart.proofs.Meeting.{whole_is_left}
use Rattle.rg_apart.proofs.Erased.{erased_is_left}
use Rattle.rg_apart.proofs.laws.parts_stand_where_they_stood.Goals as goal

pub returns-clause-whole : goal.returns-clause-whole
returns-clause-whole c = whole_is_left

pub returns-clause-erased : goal.returns-clause-erased
returns-clause-erased c = erased_is_left
