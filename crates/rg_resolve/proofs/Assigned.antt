-- The faults of an assignment, from those of its target and of its value.
use Rattle.std.proofs.Common.{◌≡◌, ℕ, Bool, true, false, List, [], ◌++◌, refl, sym, ap, subst, ◌∙◌}
use Rattle.std.specs.Prelude.{Option, Some, None, IsTrue}
use Rattle.std.specs.Option.{unwrap_or}
use Rattle.std.proofs.lemmas.Bool.{not-true}
use Rattle.rg_words.specs.declared.refusal.Refusal.{Refusal}
use Rattle.rg_words.specs.declared.refusal.SourceFile.{SourceFile}
use Rattle.rg_words.specs.Layout.{Word, index_of}
use Rattle.rg_tree.specs.Trees.{Expression}
use Rattle.rg_syntax.specs.Written.{AssignedTree}
use Rattle.rg_resolve.specs.Faults.{width_at, group_at, term_faults, IsRefusal}
use Rattle.rg_resolve.specs.Inner.FormulaTrees.{place_of, IsTermTree}
use Rattle.rg_resolve.specs.Programs.{is_fixed, target_faults, assigned_faults}
use Rattle.rg_leaves.specs.declared.group.Group.{Group}
use Rattle.rg_leaves.specs.declared.group.Group.TheVariants.{Width}
use Rattle.rg_leaves.proofs.Refusals.{of_first, of_rest, no_faults}
use Rattle.rg_resolve.proofs.Typed.{none_left, none_right, unless-none}

module _ (words : List Word) (a : AssignedTree) where
  pub target_refused : (file : SourceFile) (refusal : Refusal) → IsRefusal file (target_faults words a.target (index_of words a.target.text)) refusal → IsRefusal file (assigned_faults words a) refusal
  unfolding assigned_faults
  target_refused file refusal r = of_first file _ _ refusal r

  module _ (one_state : Bool) (k w : ℕ) (one : IsTrue one_state) (found : index_of words a.target.text ≡ Some k) (wide : w ≡ width_at words k) (none : target_faults words a.target (index_of words a.target.text) ≡ []) where
    group_is : Width w ≡ group_at words (index_of words a.target.text)
    group_is = ap Width wide ∙ sym (ap (λ o. group_at words o) found)

    pub value_refused : (file : SourceFile) (refusal : Refusal) → IsRefusal file (term_faults words one_state (Width w) a.value) refusal → IsRefusal file (assigned_faults words a) refusal
    unfolding assigned_faults
    value_refused file refusal r =
        let P : Group → Bool → Type 0 = λ g b. IsRefusal file (term_faults words b g a.value) refusal in
        of_rest file _ _ refusal none (subst (λ g. P g true) group_is (subst (λ b. P (Width w) b) one r))

    pub both_faultless : (e : Expression) → IsTermTree words one_state (Width w) a.value e → assigned_faults words a ≡ []
    unfolding assigned_faults
    both_faultless e t =
        let P : Group → Bool → Type 0 = λ g b. term_faults words b g a.value ≡ [] in
        no_faults _ _ none (subst (λ g. P g true) group_is (subst (λ b. P (Width w) b) one t.faultless))

module _ (words : List Word) where
  -- what no fault of an assignment says
  pub record IsFineAssignment (a : AssignedTree) : Type 0 where
    pub found : index_of words a.target.text ≡ Some (place_of words a.target.text)
    pub free : is_fixed words (place_of words a.target.text) ≡ false
    pub value : term_faults words true (Width (width_at words (place_of words a.target.text))) a.value ≡ []

  fine_by : (a : AssignedTree) (at : Option ℕ) → index_of words a.target.text ≡ at → target_faults words a.target at ++ term_faults words true (group_at words at) a.value ≡ [] → IsFineAssignment a
  fine_by a None e h = cc
  fine_by a (Some k) e h =
      let place : place_of words a.target.text ≡ k = ap (λ o. unwrap_or o 0) e in
      record {
        found = e ∙ ap Some (sym place);
        free = rw place (not-true _ (unless-none _ _ _ (none_left _ _ h)));
        value = rw place (none_right _ _ h);
      }

  pub fine_assignment : (a : AssignedTree) → assigned_faults words a ≡ [] → IsFineAssignment a
  unfolding assigned_faults
  fine_assignment a h = fine_by a _ refl h
