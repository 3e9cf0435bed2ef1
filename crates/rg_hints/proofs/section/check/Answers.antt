use Rattle.std.proofs.Common.{arith}
use Rattle.rg_hints.proofs.Soundness.{closed_unsatisfiable}
use Rattle.rg_hints.proofs.section.check.Goals as goal

pub returns-then-has_empty-clause-unsatisfiable : goal.returns-then-has_empty-clause-unsatisfiable
returns-then-has_empty-clause-unsatisfiable c =
    closed_unsatisfiable c.args.clauses.now c.args.lines.now c.has_empty.ensures.formula c.len.ensures.section (λ k low high. c.in_ok-check_piece.ensures.piece k low (omega (arith, high, c.len.ensures.value))) (c.has_empty.ensures.answer.0 c.if-has_empty.true)
