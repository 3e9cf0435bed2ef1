use Rattle.rgc_outlines.proofs.answers.answers_of.Goals as goal

pub loop-index-preserved : goal.loop-index-preserved
loop-index-preserved g c = record {
  answered = c.in_ok-add_answer.ensures;
  found = c.in_ok-answered.ensures.found;
}
