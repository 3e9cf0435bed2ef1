use Rattle.rgc.proofs.OneList.{one_list, reads_proved, closed_proved}
use Rattle.rgc.proofs.shown.valid_by.Goals as goal

pub returns-in-Err-read-clause-accepts : goal.returns-in-Err-read-clause-accepts
returns-in-Err-read-clause-accepts g c = λ p.
    let same = one_list c.one_meaning.ensures.show c.args.text.now _ _ c.in-Ok.ensures.clauses p.has in
    reads_proved _ _ c.args.text.now c.args.proofs.now _ p same c.len.ensures.value c.in-Err-read.ensures.section

pub returns-in-Ok-check-clause-holds : goal.returns-in-Ok-check-clause-holds
returns-in-Ok-check-clause-holds g c = c.in-Ok.ensures.holds c.in-Ok-check.ensures.unsatisfiable

pub returns-clause-accepts : goal.returns-clause-accepts
returns-clause-accepts g c = λ p.
    let same = one_list c.one_meaning.ensures.show c.args.text.now _ _ c.in-Ok.ensures.clauses p.has in
    c.in-Err-check.ensures.only (closed_proved _ _ c.args.text.now c.args.proofs.now _ p same c.len.ensures.value c.in-Ok-read.ensures.section)
