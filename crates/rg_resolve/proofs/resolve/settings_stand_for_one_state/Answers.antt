use Rattle.rg_resolve.proofs.Set.{one_start, one_list_of_moves, faultless_start, faultless_moves}
use Rattle.rg_resolve.proofs.resolve.settings_stand_for_one_state.Goals as goal

pub returns : goal.returns
returns c = record { one_start = one_start; one_list = one_list_of_moves; faultless_start = faultless_start; faultless_moves = faultless_moves }
