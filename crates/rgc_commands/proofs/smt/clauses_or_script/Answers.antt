use Rattle.std.proofs.Common.{◌∙◌}
use Rattle.rgc_commands.proofs.smt.clauses_or_script.Goals as goal

pub returns-then-is_smt-clause-answer : goal.returns-then-is_smt-clause-answer
returns-then-is_smt-clause-answer c = λ s t same. c.script_of.ensures.answer s t (same ∙ c.if-is_smt.true)

pub returns-else-is_smt-clause-answer : goal.returns-else-is_smt-clause-answer
returns-else-is_smt-clause-answer c = λ s t same. c.clauses_of.ensures.answer s t (same ∙ c.if-is_smt.false)
