-- The conjuncts that are lost fit the words that the formula fits.
use Rattle.std.proofs.Common.{ℕ, Bool, true, false, List, [], ◌∷◌, ◌++◌, cond}
use Rattle.std.specs.Prelude.{is_some}
use Rattle.std.specs.List.{filter}
use Rattle.rg_words.specs.declared.operators.Connective.TheVariants.{And, Or, Implies, Iff}
use Rattle.rg_tree.specs.Trees.{Proposition, truth, negation, connected, compared}
use Rattle.rg_tree.specs.Fits.{FormulaFits}
use Rattle.rg_tree.specs.ConditionTrees.{AllFit}
use Rattle.rg_erase.specs.Erased.{speaks_of, conjuncts, lost}

both_fit : (n : ℕ) (fs gs : List Proposition) → AllFit fs n → AllFit gs n → AllFit (fs ++ gs) n
both_fit n [] gs h k = k
both_fit n (f ∷ fs) gs h k = (h.0, both_fit n fs gs h.1 k)

conjuncts_fit : (n : ℕ) (f : Proposition) → FormulaFits f n → AllFit (conjuncts f) n
conjuncts_fit n (truth b) h = (h, tt)
conjuncts_fit n (negation f) h = (h, tt)
conjuncts_fit n (compared c a b) h = (h, tt)
conjuncts_fit n (connected And f g) h = both_fit n (conjuncts f) (conjuncts g) (conjuncts_fit n f h.0) (conjuncts_fit n g h.1)
conjuncts_fit n (connected Or f g) h = (h, tt)
conjuncts_fit n (connected Implies f g) h = (h, tt)
conjuncts_fit n (connected Iff f g) h = (h, tt)

some_fit : (n : ℕ) (p : Proposition → Bool) (fs : List Proposition) → AllFit fs n → AllFit (filter p fs) n
some_fit n p [] h = tt
some_fit n p (f ∷ fs) h = by_test (p f) (some_fit n p fs h.1)
  where
    by_test : (b : Bool) → AllFit (filter p fs) n → AllFit (cond b (f ∷ filter p fs) (filter p fs)) n
    by_test true rest = (h.0, rest)
    by_test false rest = rest

pub lost_fit : (n : ℕ) (erased : List Bool) (f : Proposition) → FormulaFits f n → AllFit (lost erased f) n
lost_fit n erased f h = some_fit n (λ g. is_some (speaks_of erased erased g)) (conjuncts f) (conjuncts_fit n f h)
