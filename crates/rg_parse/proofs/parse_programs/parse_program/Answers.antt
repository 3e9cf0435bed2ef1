use Rattle.rg_parse.proofs.parse_programs.parse_program.Goals as goal

pub returns-in-Err-clause-accepts : goal.returns-in-Err-clause-accepts
returns-in-Err-clause-accepts c = λ src w. c.refuse.ensures.memory (c.in-Err.ensures.accepts src (w.0, w.1, w.2, w.4))
