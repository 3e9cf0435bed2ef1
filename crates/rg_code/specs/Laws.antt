-- What the steps of legal code do.
use Rattle.std.specs.Prelude.{ℕ, ◌<◌, List, Some}
use Rattle.rg_words.specs.Layout.{Word}
use Rattle.rg_words.specs.States.{IsState, IsPair}
use Rattle.rg_tree.specs.Traces.{State}
use Rattle.rg_code.specs.Code.{BlockTree, Makes_step}
use Rattle.rg_code.specs.Legal.{IsLegalBlock}

-- the step of a legal block leads from a state to a state, keeps the fixed words, and goes to a block of the part
abbrev pub BlockStepsArePairs : Type 0
BlockStepsArePairs =
    (words : List Word) (n : ℕ) (b : BlockTree) (s t : State) (to : ℕ) → IsLegalBlock words n b → IsState words s → Makes_step (Some b) s t to → IsPair words s t × (to < n)
