-- That a statement satisfies its specification follows from that there is a proof of it.
use Rattle.std.proofs.Common.{◌≡◌, Bool, true, false, List, [], ◌∷◌, inl, inr, refl, ⊎_elim}
use Rattle.std.proofs.Math.Logic.{∥∥₁_elim, ∥∥₁_map}
use Rattle.std.specs.Coded.{Coded-set, coded_ℕ, coded_bool, coded_list}
use Rattle.rg_words.specs.Layout.{Word}
use Rattle.rg_tree.specs.Statements.{Statement, Specification}
use Rattle.rg_tree.specs.Meaning.{holds}
use Rattle.rg_tree.specs.Traces.{State, ViewStep, Own, Env, Inside, OwnInside}
use Rattle.rg_tree.specs.Satisfaction.{StatementSatisfies}

same_state : {s t : State} → IsProp (s ≡ t)
same_state = Coded-set (coded_list coded_ℕ) _ _

same_bool : {a b : Bool} → IsProp (a ≡ b)
same_bool = Coded-set coded_bool _ _

inside_merely : (R : State → State → Bool) (s t : State) → ∥ Inside R s t ∥₁ → Inside R s t
inside_merely R s t h = by_test (R s t) refl
  where
    no_test : R s t ≡ false → R s t ≡ true → ⊥
    no_test e r = cc (e, r)

    by_test : (b : Bool) → R s t ≡ b → Inside R s t
    by_test true e = inl e
    by_test false e = inr (∥∥₁_elim h same_state (λ x. ⊎_elim (λ r. absurd (no_test e r)) (λ same. same) x))

own_merely : (G : State → State → Bool) (s : State) (ms : List ViewStep) → ∥ OwnInside G s ms ∥₁ → OwnInside G s ms
own_merely G s [] h = tt
own_merely G s (Own t ∷ ms) h = (inside_merely G s t (∥∥₁_map h (λ x. x.0)), own_merely G t ms (∥∥₁_map h (λ x. x.1)))
own_merely G s (Env t ∷ ms) h = own_merely G t ms h

pub satisfies_merely : (words : List Word) (spec : Specification) (s : Statement) → ∥ StatementSatisfies words spec s ∥₁ → StatementSatisfies words spec s
satisfies_merely words spec stmt h = record {
  steps = λ s ms ended run tr at env. own_merely (holds spec.guar) s ms (∥∥₁_map h (λ x. x.steps s ms ended run tr at env));
  end = λ s ms run tr at env. ∥∥₁_elim h same_bool (λ x. x.end s ms run tr at env);
}
