-- Words that are declared one after another.
use Rattle.std.proofs.Common.{◌≡◌, ℕ, suc, ◌+◌, ◌≤◌, ◌<◌, List, [], ◌∷◌, ◌++◌, length, map, drop, refl, sym, ap, ◌∙◌, add-one, append_assoc, get_or, drop-cons}
use Rattle.std.proofs.lemmas.List.{append-nil}
use Rattle.std.proofs.Math.ListN.{drop_of_length-le}
use Rattle.rg_words.specs.declared.refusal.Refusal.{Refusal}
use Rattle.rg_words.specs.declared.refusal.SourceFile.{SourceFile}
use Rattle.rg_words.specs.Layout.{Word}
use Rattle.rg_text.specs.Text.{leaf_of}
use Rattle.rg_syntax.specs.declared.written.Declaration.{Declaration}
use Rattle.rg_syntax.specs.Written.{DeclaredWord, declared_word}
use Rattle.rg_resolve.specs.Faults.{IsRefusal}
use Rattle.rg_resolve.specs.Words.{word_of, words_of, name_faults, width_faults, faults_after, declaration_faults}
use Rattle.rg_leaves.proofs.Refusals.{of_first}

-- these words and the rest of the declarations are all declarations
pub record IsDeclaredSoFar (all rest : List DeclaredWord) (words : List Word) : Type 0 where
  pub whole : words ++ words_of rest ≡ words_of all
  pub faults : faults_after words rest ≡ declaration_faults all

pub so_far_start : (all : List DeclaredWord) → IsDeclaredSoFar all all []
so_far_start all = record { whole = refl; faults = refl }

pub so_far_step : (all rest : List DeclaredWord) (d : DeclaredWord) (words more : List Word) → IsDeclaredSoFar all (d ∷ rest) words → name_faults words d.name ++ width_faults d.width ≡ [] → more ≡ words ++ word_of d ∷ [] → IsDeclaredSoFar all rest more
unfolding faults_after
so_far_step all rest d words more h none same = rw same (record {
  whole = append_assoc words (word_of d ∷ []) (words_of rest) ∙ h.whole;
  faults = sym (ap (λ fs. fs ++ faults_after (words ++ word_of d ∷ []) rest) none) ∙ h.faults;
})

pub so_far_refused : (file : SourceFile) (refusal : Refusal) (all rest : List DeclaredWord) (d : DeclaredWord) (words : List Word) → IsDeclaredSoFar all (d ∷ rest) words → IsRefusal file (name_faults words d.name ++ width_faults d.width) refusal → IsRefusal file (declaration_faults all) refusal
unfolding faults_after
so_far_refused file refusal all rest d words h r = rw (← h.faults) (of_first file _ _ refusal r)

pub so_far_words : (all : List DeclaredWord) (words : List Word) → IsDeclaredSoFar all [] words → words ≡ words_of all
so_far_words all words h = sym (append-nil words) ∙ h.whole

pub so_far_faultless : (all : List DeclaredWord) (words : List Word) → IsDeclaredSoFar all [] words → declaration_faults all ≡ []
unfolding faults_after
so_far_faultless all words h = sym h.faults

-- the declarations from a place on
pub declared_from : List ℕ → List Declaration → ℕ → List DeclaredWord
declared_from src declarations i = map (declared_word src) (drop i declarations)

pub declared_from-cons : (src : List ℕ) (declarations : List Declaration) (i : ℕ) (d : Declaration) → i < length declarations → declared_from src declarations i ≡ declared_word src (get_or declarations i d) ∷ declared_from src declarations (suc i)
unfolding declared_from
declared_from-cons src declarations i d inside = ap (λ ds. map (declared_word src) ds) (drop-cons declarations i d inside)

pub declared_from-end : (src : List ℕ) (declarations : List Declaration) (i : ℕ) → length declarations ≤ i → declared_from src declarations i ≡ []
unfolding declared_from
declared_from-end src declarations i past = ap (λ ds. map (declared_word src) ds) (drop_of_length-le declarations past)

pub declared_from-start : (src : List ℕ) (declarations : List Declaration) → declared_from src declarations 0 ≡ map (declared_word src) declarations
unfolding declared_from
declared_from-start src declarations = refl

module _ (src : List ℕ) (declarations : List Declaration) (i : ℕ) (d : Declaration) (words : List Word) (inside : i < length declarations) (so_far : IsDeclaredSoFar (map (declared_word src) declarations) (declared_from src declarations i) words) where
  next_declared : IsDeclaredSoFar (map (declared_word src) declarations) (declared_word src (get_or declarations i d) ∷ declared_from src declarations (suc i)) words
  next_declared = rw (← declared_from-cons src declarations i d inside) so_far

  pub declared_step : (more : List Word) → more ≡ words ++ word_of (declared_word src (get_or declarations i d)) ∷ [] → name_faults words (leaf_of src (get_or declarations i d).name) ++ width_faults (leaf_of src (get_or declarations i d).width) ≡ [] → IsDeclaredSoFar (map (declared_word src) declarations) (declared_from src declarations (i + 1)) more
  declared_step more same none = rw add-one (so_far_step _ _ _ words more next_declared none same)

  pub declared_refused : (file : SourceFile) (refusal : Refusal) → IsRefusal file (name_faults words (leaf_of src (get_or declarations i d).name) ++ width_faults (leaf_of src (get_or declarations i d).width)) refusal → IsRefusal file (declaration_faults (map (declared_word src) declarations)) refusal
  declared_refused file refusal r = so_far_refused file refusal _ _ _ words next_declared r
