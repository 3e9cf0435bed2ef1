use Rattle.std.proofs.Common.{length}
use Rattle.rg_hints.proofs.OneEnd.{piece_only}
use Rattle.rg_hints.proofs.Soundness.{closed_unsatisfiable}
use Rattle.rg_pool.proofs.pieces.check_all.Goals as goal

pub returns-in-Err-clause-only : goal.returns-in-Err-clause-only
returns-in-Err-clause-only g c = λ closed.
    piece_only c.args.clauses.now.clauses c.args.lines.now 0 (length c.args.lines.now.lines) c.in-Err.refusal c.facts.ensures.section c.requires closed.lines c.in-Err.ensures

pub returns-then-has_empty-clause-unsatisfiable : goal.returns-then-has_empty-clause-unsatisfiable
returns-then-has_empty-clause-unsatisfiable g c =
    closed_unsatisfiable c.args.clauses.now c.args.lines.now c.has_empty.ensures.formula c.facts.ensures.section c.in_default.ensures (c.has_empty.ensures.answer.0 c.if-has_empty.true)
