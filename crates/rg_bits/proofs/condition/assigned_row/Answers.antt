use Rattle.rg_rows.proofs.Building.{stopped, seen_as, ran_out, same_count}
use Rattle.rg_bits.proofs.condition.assigned_row.Goals as goal

pub returns-in_err-row : goal.returns-in_err-row
returns-in_err-row g c = stopped _ c.in_err-row.ensures c.from_residual.ensures (same_count _)

pub returns-in_err-into_owned : goal.returns-in_err-into_owned
returns-in_err-into_owned g c = ran_out _ c.from_residual-in_err-into_owned.ensures c.build_row.ensures.extends

pub returns : goal.returns
returns g c = seen_as _ (c.in_ok-into_owned.ensures.items_if_clones_equal (λ x y h. h)) c.in_ok-row.ensures
