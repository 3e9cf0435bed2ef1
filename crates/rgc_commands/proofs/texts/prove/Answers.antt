use Rattle.rgc_commands.proofs.texts.prove.Goals as goal

pub returns-in-None-clause-answer : goal.returns-in-None-clause-answer
returns-in-None-clause-answer g c = λ s t d. rw c.in-None.is (c.prove_all.ensures.answer s t d)

pub returns-in-None-clause-stopped : goal.returns-in-None-clause-stopped
returns-in-None-clause-stopped g c = λ s t d. rw c.in-None.is (c.prove_all.ensures.stopped s t d)

pub returns-in-Some-clause-answer : goal.returns-in-Some-clause-answer
returns-in-Some-clause-answer g c = λ s t d. rw c.in-Some.is (c.prove_part.ensures.answer s t d)

pub returns-in-Some-clause-stopped : goal.returns-in-Some-clause-stopped
returns-in-Some-clause-stopped g c = λ s t d. rw c.in-Some.is (c.prove_part.ensures.stopped s t d)
