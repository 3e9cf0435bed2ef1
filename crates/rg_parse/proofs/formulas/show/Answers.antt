use Rattle.rg_parse.proofs.formulas.show.Goals as goal

pub returns-clause-accepts : goal.returns-clause-accepts
returns-clause-accepts c = λ words f spelled. c.read.ensures.accepts (words, f) spelled
