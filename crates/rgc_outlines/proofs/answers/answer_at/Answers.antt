use Rattle.std.proofs.Common.{◌≡◌, ◌∙◌, sym, subst, ℕ, ◌<◌, List, length, Option, Some, None, Result, IfOk, IfSome}
use Rattle.std.specs.Prelude.{slice_index_or}
use Rattle.std.proofs.lemmas.List.{get_or_default}
use Rattle.rgc_outlines.specs.declared.answers.Answered.{Answered}
use Rattle.rgc_outlines.specs.Changed.{IsAnswered}
use Rattle.rgc_outlines.proofs.answers.answer_at.Goals as goal

-- what stands at a place is so, whatever it is read by
there : {E : Type 0} (found : List (Option (Result Answered E))) (i : ℕ) (d : Option (Result Answered E)) (r : Result Answered E) → i < length found → Some r ≡ slice_index_or found i d → IfSome (slice_index_or found i None) (λ o. IfOk o IsAnswered) → IfOk r IsAnswered
there {E} found i d r within is said =
    subst (λ (o : Option (Result Answered E)). IfSome o (λ o. IfOk o IsAnswered)) (sym (is ∙ get_or_default found i d None within)) said

pub returns-in-Some-clause-answered : goal.returns-in-Some-clause-answered
returns-in-Some-clause-answered g c =
    there c.args.found.now c.args.index c.index-found-index.result c.in-Some.answered c.if-index-found.true c.in-Some.ensures.value (c.requires.found c.args.index c.if-index-found.true)
