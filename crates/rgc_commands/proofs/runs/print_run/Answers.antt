use Rattle.rg_words.proofs.Written.{appends_both}
use Rattle.rgc_commands.proofs.runs.print_run.Goals as goal

pub returns-clause-printed : goal.returns-clause-printed
returns-clause-printed g c =
    record {
      closed = c.in_ok-closed.closed;
      left = c.in_ok-closed.ensures.run;
      printed = appends_both _ _ _ _ _ c.in_ok-closed.ensures.printed (rw c.program.ensures at c.in_ok-write_rest.ensures.printed);
    }
