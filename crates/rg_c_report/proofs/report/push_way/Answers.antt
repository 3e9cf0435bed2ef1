use Rattle.rg_c_report.proofs.report.push_way.Goals as goal

pub returns-in-Load : goal.returns-in-Load
returns-in-Load c = rw (c.in-Load.is, ← c.name_of.ensures) c.push_all-in-Load.ensures
