-- A list whose items are resolved one after another, each after those before it.
use Rattle.std.proofs.Common.{◌≡◌, ℕ, suc, ◌+◌, ◌≤◌, ◌<◌, Bool, ◌||◌, List, [], ◌∷◌, ◌++◌, length, map, take, refl, sym, ap, ◌∙◌, add-one, append_assoc, get_or}
use Rattle.std.specs.List.{list_any}
use Rattle.std.proofs.lemmas.List.{append-nil, map-append, get_or_default}
use Rattle.std.proofs.Math.Seq.{take-suc}
use Rattle.rg_words.specs.declared.refusal.Refusal.{Refusal}
use Rattle.rg_words.specs.declared.refusal.SourceFile.{SourceFile}
use Rattle.rg_resolve.specs.Faults.{Fault, faults_in_turn, IsRefusal}
use Rattle.rg_leaves.proofs.Refusals.{of_first}
use Rattle.rg_resolve.proofs.Lists.{items_from, items_from-cons, items_from-end}

pub any-map : {A B : Type 0} (p : B → Bool) (f : A → B) (xs : List A) → list_any p (map f xs) ≡ list_any (λ x. p (f x)) xs
any-map p f [] = refl
any-map p f (x ∷ xs) = ap (λ b. p (f x) || b) (any-map p f xs)

-- what is done, and what the rest gives, is what all give; and the faults of the rest, after those before, are those of all
pub record AreTaken {A B : Type 0} (tree : A → B) (faults : List A → A → List Fault) (all before rest : List A) (done : List B) : Type 0 where
  pub whole : done ++ map tree rest ≡ map tree all
  pub none : faults_in_turn faults before rest ≡ faults_in_turn faults [] all

-- the items before a place, as written
pub items_to : {I A : Type 0} → (I → A) → List I → ℕ → List A
items_to view items i = map view (take i items)

items_to-more : {I A : Type 0} (view : I → A) (items : List I) (i : ℕ) (d : I) → i < length items → items_to view items (suc i) ≡ items_to view items i ++ view (get_or items i d) ∷ []
unfolding items_to
items_to-more view items i d inside = ap (λ xs. map view xs) (take-suc items i d inside) ∙ map-append _ (take i items) _

module _ {A B : Type 0} (tree : A → B) (faults : List A → A → List Fault) (all before rest : List A) (a : A) (done : List B) (h : AreTaken tree faults all before (a ∷ rest) done) where
  step : (more : List B) → more ≡ done ++ tree a ∷ [] → faults before a ≡ [] → AreTaken tree faults all (before ++ a ∷ []) rest more
  unfolding faults_in_turn
  step more same none = rw same (record {
    whole = append_assoc done (tree a ∷ []) (map tree rest) ∙ h.whole;
    none = sym (ap (λ fs. fs ++ faults_in_turn faults (before ++ a ∷ []) rest) none) ∙ h.none;
  })

  refused : (file : SourceFile) (refusal : Refusal) → IsRefusal file (faults before a) refusal → IsRefusal file (faults_in_turn faults [] all) refusal
  unfolding faults_in_turn
  refused file refusal r = rw (← h.none) (of_first file _ _ refusal r)

module _ {I A B : Type 0} (view : I → A) (tree : A → B) (faults : List A → A → List Fault) (items : List I) where
  pub taken_start : AreTaken tree faults (map view items) (items_to view items 0) (items_from view items 0) []
  unfolding items_from items_to
  taken_start = record { whole = refl; none = refl }

  -- the item at a place
  module _ (i : ℕ) (done : List B) (d : I) (inside : i < length items) (is : d ≡ get_or items i d) (h : AreTaken tree faults (map view items) (items_to view items i) (items_from view items i) done) where
    next : AreTaken tree faults (map view items) (items_to view items i) (view d ∷ items_from view items (suc i)) done
    next = rw (← (items_from-cons view items i d inside ∙ ap (λ x. view x ∷ items_from view items (suc i)) (sym is))) h

    pub taken_step : (b : B) (more : List B) → b ≡ tree (view d) → more ≡ done ++ b ∷ [] → faults (map view (take i items)) (view d) ≡ [] → AreTaken tree faults (map view items) (items_to view items (i + 1)) (items_from view items (i + 1)) more
    unfolding items_to
    taken_step b more same longer none =
        rw (add-one, items_to-more view items i d inside ∙ ap (λ x. items_to view items i ++ view x ∷ []) (sym is)) (step tree faults _ _ _ _ done next more (rw (← same) longer) none)

    pub taken_refused : (file : SourceFile) (refusal : Refusal) → IsRefusal file (faults (map view (take i items)) (view d)) refusal → IsRefusal file (faults_in_turn faults [] (map view items)) refusal
    unfolding items_to
    taken_refused file refusal r = refused tree faults _ _ _ _ done next file refusal r

  module _ (i : ℕ) (done : List B) (past : length items ≤ i) (h : AreTaken tree faults (map view items) (items_to view items i) (items_from view items i) done) where
    end : AreTaken tree faults (map view items) (items_to view items i) [] done
    end = rw (← items_from-end view items i past) h

    pub taken_trees : done ≡ map tree (map view items)
    taken_trees = sym (append-nil done) ∙ end.whole

    pub taken_faultless : faults_in_turn faults [] (map view items) ≡ []
    unfolding faults_in_turn
    taken_faultless = sym end.none

-- what stands at a place is the item there
pub same_item : {X : Type 0} (xs : List X) (i : ℕ) (e : X) → i < length xs → get_or xs i e ≡ get_or xs i (get_or xs i e)
same_item xs i e inside = get_or_default xs i e (get_or xs i e) inside
