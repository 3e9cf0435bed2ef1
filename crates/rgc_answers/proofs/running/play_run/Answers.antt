use Rattle.std.proofs.Common.{inl, inr, refl}
use Rattle.std.proofs.lemmas.Result.{err_from_is_err_and}
use Rattle.rg_tree.specs.ProgramTrees.{program}
use Rattle.rgc_answers.specs.Refused.{IsUnreadStart, IsUnbegun}
use Rattle.rgc_answers.proofs.Stops.{unread_stops, refused_run, play_stops}
use Rattle.rgc_answers.proofs.running.play_run.Goals as goal

pub returns-in_err-first-clause-stopped : goal.returns-in_err-first-clause-stopped
returns-in_err-first-clause-stopped g c =
    let p = err_from_is_err_and c.from_residual.result c.from_residual.ensures.1 in
    rw (p.1, p.2) (unread_stops (IsUnreadStart (program (g.E.Checked.program_of c.args.emitted.now)).words c.args.run.start) (IsUnbegun (program (g.E.Checked.program_of c.args.emitted.now)) c.args.run) _ _ _ (λ h. inl h) (rw c.program.ensures at c.in_err-first.ensures.refused))

pub returns-in_err-moves-clause-stopped : goal.returns-in_err-moves-clause-stopped
returns-in_err-moves-clause-stopped g c =
    let p = err_from_is_err_and c.from_residual-in_err-moves.result c.from_residual-in_err-moves.ensures.1 in
    rw (p.1, p.2) (refused_run (IsUnbegun (program (g.E.Checked.program_of c.args.emitted.now)) c.args.run) _ _ _ (inr (inl (c.in_ok-first.first.values, rw c.program.ensures at c.in_ok-first.ensures.starts, rw c.program.ensures at c.in_err-moves.ensures.refused))))

pub returns-clause-stopped : goal.returns-clause-stopped
returns-clause-stopped g c =
    play_stops (IsUnbegun (program (g.E.Checked.program_of c.args.emitted.now)) c.args.run) _ _ _ _ _ _ c.in-Err.refusal c.placed.result c.in-Err.ensures.faults c.in-Err.ensures.unopened c.in-Err.ensures.failures c.placed.ensures
    (λ number is. inr (inr (record {
      first = c.in_ok-first.first.values;
      starts = rw c.program.ensures at c.in_ok-first.ensures.starts;
      moving = _;
      moved = rw c.program.ensures at c.in_ok-moves.ensures.moved;
      fault = number;
      is = is;
      refusal = refl;
    })))
