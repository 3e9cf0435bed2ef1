use Rattle.std.proofs.Common.{ap, ◌∙◌}
use Rattle.rg_parse.specs.Parse.{refusal_of}
use Rattle.rg_parse.proofs.parse.check_shape.Goals as goal

pub returns-in-Err-clause-refused : goal.returns-in-Err-clause-refused
returns-in-Err-clause-refused c = λ src. (c.in-Err.fault, c.in-Err.ensures.answers src, c.refusal.ensures)

pub returns-in-Err-clause-accepts : goal.returns-in-Err-clause-accepts
returns-in-Err-clause-accepts c = λ src w.
    c.refusal.ensures ∙ ap (refusal_of c.args.file c.args.tokens.now) (c.in-Err.ensures.accepts src w)
