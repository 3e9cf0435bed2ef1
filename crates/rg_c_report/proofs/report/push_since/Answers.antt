use Rattle.rg_c_report.specs.Reports.{since_text}
use Rattle.rg_c_report.proofs.report.push_since.Goals as goal

pub returns : goal.returns
unfolding since_text
returns c = rw (← c.name_of.ensures, ← c.format.ensures.text) c.push_all.ensures
