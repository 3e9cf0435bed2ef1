use Rattle.rg_apart.proofs.Meeting.{parts_never_meet}
use Rattle.rg_apart.proofs.laws.parts_never_meet.Goals as goal

pub returns : goal.returns
returns c = parts_never_meet
