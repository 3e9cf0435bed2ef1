use Rattle.rg_hints.specs.Inner.Memo.{AreCopies}
use Rattle.rg_hints.specs.Verdict.{LinesFollow}
use Rattle.rg_hints.proofs.section.follow_between.Given as goal

abbrev pub invariant-loop-index : goal.invariant-loop-index
invariant-loop-index g l = LinesFollow l.clauses.clauses l.lines l.from l.index × AreCopies l.clauses.clauses l.lines l.memo.copies
