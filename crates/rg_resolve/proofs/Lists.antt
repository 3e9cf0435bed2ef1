-- A list whose items are resolved one after another.
use Rattle.std.proofs.Common.{◌≡◌, ℕ, suc, ◌+◌, ◌≤◌, ◌<◌, List, [], ◌∷◌, ◌++◌, length, map, drop, refl, sym, ap, ◌∙◌, add-one, append_assoc, get_or, drop-cons}
use Rattle.std.specs.List.{flat_map}
use Rattle.std.proofs.lemmas.List.{append-nil}
use Rattle.std.proofs.Math.ListN.{drop_of_length-le}
use Rattle.rg_words.specs.declared.refusal.Refusal.{Refusal}
use Rattle.rg_words.specs.declared.refusal.SourceFile.{SourceFile}
use Rattle.rg_resolve.specs.Faults.{Fault, IsRefusal}
use Rattle.rg_leaves.proofs.Refusals.{of_first}

-- what is done, and what the rest gives, is what all give; and the faults of the rest are those of all
pub record AreDone {A B : Type 0} (tree : A → B) (faults : A → List Fault) (all rest : List A) (done : List B) : Type 0 where
  pub whole : done ++ map tree rest ≡ map tree all
  pub none : flat_map faults rest ≡ flat_map faults all

-- the items from a place on, as written
unfoldable pub items_from : {I A : Type 0} → (I → A) → List I → ℕ → List A
items_from view items i = map view (drop i items)

pub items_from-cons : {I A : Type 0} (view : I → A) (items : List I) (i : ℕ) (d : I) → i < length items → items_from view items i ≡ view (get_or items i d) ∷ items_from view items (suc i)
unfolding items_from
items_from-cons view items i d inside = ap (λ xs. map view xs) (drop-cons items i d inside)

pub items_from-end : {I A : Type 0} (view : I → A) (items : List I) (i : ℕ) → length items ≤ i → items_from view items i ≡ []
unfolding items_from
items_from-end view items i past = ap (λ xs. map view xs) (drop_of_length-le items past)

module _ {A B : Type 0} (tree : A → B) (faults : A → List Fault) (all rest : List A) (a : A) (done : List B) (h : AreDone tree faults all (a ∷ rest) done) where
  step : (more : List B) → more ≡ done ++ tree a ∷ [] → faults a ≡ [] → AreDone tree faults all rest more
  step more same none = rw same (record {
    whole = append_assoc done (tree a ∷ []) (map tree rest) ∙ h.whole;
    none = sym (ap (λ fs. fs ++ flat_map faults rest) none) ∙ h.none;
  })

  refused : (file : SourceFile) (refusal : Refusal) → IsRefusal file (faults a) refusal → IsRefusal file (flat_map faults all) refusal
  refused file refusal r = rw (← h.none) (of_first file _ _ refusal r)

module _ {I A B : Type 0} (view : I → A) (tree : A → B) (faults : A → List Fault) (items : List I) where
  pub done_start : AreDone tree faults (map view items) (items_from view items 0) []
  unfolding items_from
  done_start = record { whole = refl; none = refl }

  -- the item at a place
  module _ (i : ℕ) (done : List B) (d : I) (inside : i < length items) (is : d ≡ get_or items i d) (h : AreDone tree faults (map view items) (items_from view items i) done) where
    next : AreDone tree faults (map view items) (view d ∷ items_from view items (suc i)) done
    next = rw (← (items_from-cons view items i d inside ∙ ap (λ x. view x ∷ items_from view items (suc i)) (sym is))) h

    pub done_step : (b : B) (more : List B) → b ≡ tree (view d) → more ≡ done ++ b ∷ [] → faults (view d) ≡ [] → AreDone tree faults (map view items) (items_from view items (i + 1)) more
    done_step b more same longer none = rw add-one (step tree faults _ _ _ done next more (rw (← same) longer) none)

    pub done_refused : (file : SourceFile) (refusal : Refusal) → IsRefusal file (faults (view d)) refusal → IsRefusal file (flat_map faults (map view items)) refusal
    done_refused file refusal r = refused tree faults _ _ _ done next file refusal r

  module _ (i : ℕ) (done : List B) (past : length items ≤ i) (h : AreDone tree faults (map view items) (items_from view items i) done) where
    end : AreDone tree faults (map view items) [] done
    end = rw (← items_from-end view items i past) h

    pub done_trees : done ≡ map tree (map view items)
    done_trees = sym (append-nil done) ∙ end.whole

    pub done_faultless : flat_map faults (map view items) ≡ []
    done_faultless = sym end.none
