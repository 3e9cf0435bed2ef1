-- What typed programs promise of their steps.
use Rattle.std.specs.Prelude.{ℕ, List}
use Rattle.rg_words.specs.Layout.{Word, widths_of}
use Rattle.rg_words.specs.States.{IsState, IsPair}
use Rattle.rg_tree.specs.Trees.{Assignment}
use Rattle.rg_tree.specs.ConditionTrees.{assigned}
use Rattle.rg_tree.specs.TypedPrograms.{IsTypedAction}

-- the step of typed assignments leads from a state to a state and keeps the fixed words
abbrev pub StepsArePairs : Type 0
StepsArePairs = (words : List Word) (act : List Assignment) (s : List ℕ) → IsTypedAction words act → IsState words s → IsPair words s (assigned act s)
