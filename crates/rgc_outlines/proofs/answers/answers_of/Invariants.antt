use Rattle.std.proofs.Common.{All}
use Rattle.rgc_outlines.specs.Changed.{IsAnswered}
use Rattle.rgc_outlines.specs.Inner.Answers.{AreAnswered}
use Rattle.rgc_outlines.proofs.answers.answers_of.Given as goal

-- the answers so far are so, and what was found of the others
abbrev pub invariant-loop-index : goal.invariant-loop-index
invariant-loop-index g l = record {
  answered : All IsAnswered l.answers.items;
  found : AreAnswered l.places;
}
