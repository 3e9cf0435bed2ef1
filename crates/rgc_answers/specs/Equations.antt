-- Equations of the words' values in two states, and formulas joined.
use Rattle.std.specs.Prelude.{true, List, [], ◌∷◌, ◌++◌}
use Rattle.rg_words.specs.declared.operators.Comparison.TheVariants.{Equal}
use Rattle.rg_words.specs.declared.operators.Connective.TheVariants.{And, Implies}
use Rattle.rg_tree.specs.Trees.{Expression, Proposition, next_word, truth, connected, compared}

-- two expressions of a word are equal; nothing is said of a word that the first reads in the first state
abbrev pub equation : Expression → Expression → List Proposition
equation (next_word k) b = compared Equal (next_word k) b ∷ []
equation _ b = []

-- two rows are equal, word by word
abbrev pub equations : List Expression → List Expression → List Proposition
equations (a ∷ as_) (b ∷ bs) = equation a b ++ equations as_ bs
equations _ _ = []

-- all of these hold
abbrev pub conjunction : List Proposition → Proposition
conjunction [] = truth true
conjunction (f ∷ []) = f
conjunction (f ∷ g ∷ gs) = connected And f (conjunction (g ∷ gs))

-- these give the goal
abbrev pub implied : List Proposition → Proposition → Proposition
implied [] goal = goal
implied (f ∷ fs) goal = connected Implies (conjunction (f ∷ fs)) goal
