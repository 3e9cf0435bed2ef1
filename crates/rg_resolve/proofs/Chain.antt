-- A chain that leans to the left, as its first operand and the links after it.
use Rattle.std.proofs.Common.{◌≡◌, ℕ, ◌+◌, ◌≤◌, ◌<◌, Bool, List, [], ◌∷◌, ◌++◌, length, map, reverse, refl, ap, subst, arith}
use Rattle.std.proofs.lemmas.List.{reverse-append}
use Rattle.rg_words.specs.declared.refusal.Refusal.{Refusal}
use Rattle.rg_words.specs.declared.refusal.SourceFile.{SourceFile}
use Rattle.rg_words.specs.Layout.{Word}
use Rattle.rg_text.specs.declared.kind.Junction.{Junction}
use Rattle.rg_tree.specs.Trees as tree
use Rattle.rg_tree.specs.Trees.{Proposition}
use Rattle.rg_syntax.specs.Written.{Term, Claim, claim, number, word, next_word, inverse, binary, shifted, choice, truth, negation, joined, implied, compared}
use Rattle.rg_resolve.specs.Faults.{claim_faults, IsRefusal}
use Rattle.rg_resolve.specs.Typing.{connective_of}
use Rattle.rg_resolve.specs.declared.resolve.formula.Link.{Link}
use Rattle.rg_leaves.proofs.Refusals.{of_first, of_rest}
use Rattle.rg_resolve.proofs.Parts.{of_joined}
use Rattle.rg_resolve.specs.Inner.FormulaTrees.{IsClaimTree}

-- how much a tree has in it
abbrev mutual
  pub term_size : Term → ℕ
  term_size (number n) = 1
  term_size (word x) = 1
  term_size (next_word x) = 1
  term_size (inverse a) = term_size a + 1
  term_size (binary o a b) = term_size a + term_size b + 1
  term_size (shifted d a n) = term_size a + 1
  term_size (choice f a b) = claim_size f + term_size a + term_size b + 2

  pub claim_size : Claim → ℕ
  claim_size (truth b) = 1
  claim_size (negation f) = claim_size f + 1
  claim_size (joined j f g) = claim_size f + claim_size g + 2
  claim_size (implied d f g) = claim_size f + claim_size g + 1
  claim_size (compared c a b) = term_size a + term_size b + 1

-- a connective and the operand after it
pub record Step : Type 0 where
  pub junction : Junction
  pub operand : Claim

abbrev pub step_of : List ℕ → Link → Step
step_of src link = record { junction = link.junction; operand = claim src link.operand.now }

-- the links of a stack, the innermost first
unfoldable pub steps_of : List ℕ → List Link → List Step
steps_of src links = map (step_of src) (reverse links)

-- the chain
unfoldable pub chain_of : Claim → List Step → Claim
chain_of f [] = f
chain_of f (s ∷ ss) = chain_of (joined s.junction f s.operand) ss

pub steps_of-none : (src : List ℕ) → steps_of src [] ≡ []
unfolding steps_of
steps_of-none src = refl

pub steps_of-push : (src : List ℕ) (links more : List Link) (link : Link) → more ≡ links ++ link ∷ [] → steps_of src more ≡ step_of src link ∷ steps_of src links
unfolding steps_of
steps_of-push src links more link e = rw (e, reverse-append links (link ∷ [])) refl

pub no_items : {A : Type 0} (items : List A) → length items ≡ 0 → items ≡ []
no_items [] h = refl
no_items (x ∷ xs) h = absurd (omega arith)

chain_grows : (f : Claim) (ss : List Step) → claim_size f ≤ claim_size (chain_of f ss)
unfolding chain_of
chain_grows f [] = omega arith
chain_grows f (s ∷ ss) = omega (arith, chain_grows (joined s.junction f s.operand) ss)

chain_refused : (words : List Word) (one_state : Bool) (file : SourceFile) (refusal : Refusal) (f : Claim) (ss : List Step) → IsRefusal file (claim_faults words one_state f) refusal → IsRefusal file (claim_faults words one_state (chain_of f ss)) refusal
unfolding chain_of
chain_refused words one_state file refusal f [] h = h
chain_refused words one_state file refusal f (s ∷ ss) h = chain_refused words one_state file refusal (joined s.junction f s.operand) ss (of_first _ _ _ _ h)

-- what is left of a chain: the operand that is reached, and the links after it
pub record IsSpine (whole f : Claim) (ss : List Step) : Type 0 where
  pub chain : chain_of f ss ≡ whole
  pub smaller : claim_size f + 1 < claim_size whole

-- what is done of a chain, and the links after it
pub record IsDone (words : List Word) (one_state : Bool) (whole : Claim) (done_tree : Proposition) (ss : List Step) : Type 0 where
  pub done : Claim
  pub tree : IsClaimTree words one_state done done_tree
  pub chain : chain_of done ss ≡ whole

pub spine_start : (j : Junction) (f g : Claim) → IsSpine (joined j f g) f (record { junction = j; operand = g } ∷ [])
unfolding chain_of
spine_start j f g = record { chain = refl; smaller = omega arith }

pub spine_step : (whole f g : Claim) (j : Junction) (ss : List Step) → IsSpine whole (joined j f g) ss → IsSpine whole f (record { junction = j; operand = g } ∷ ss)
unfolding chain_of
spine_step whole f g j ss h = record { chain = h.chain; smaller = omega (arith, h.smaller) }

module _ (words : List Word) (one_state : Bool) (whole : Claim) where
  pub done_start : (f : Claim) (p : Proposition) (ss : List Step) → IsSpine whole f ss → IsClaimTree words one_state f p → IsDone words one_state whole p ss
  done_start f p ss h t = record { done = f; tree = t; chain = h.chain }

  pub done_step : (p q : Proposition) (s : Step) (ss : List Step) → IsDone words one_state whole p (s ∷ ss) → IsClaimTree words one_state s.operand q → IsDone words one_state whole (tree.connected (connective_of s.junction) p q) ss
  unfolding chain_of
  done_step p q s ss h t = record { done = joined s.junction h.done s.operand; tree = of_joined words one_state s.junction h.done s.operand p q h.tree t; chain = h.chain }

  pub done_end : (p : Proposition) → IsDone words one_state whole p [] → IsClaimTree words one_state whole p
  unfolding chain_of
  done_end p h = let P : Claim → Type 0 = λ f. IsClaimTree words one_state f p in subst P h.chain h.tree

  pub done_smaller : (p : Proposition) (s : Step) (ss : List Step) → IsDone words one_state whole p (s ∷ ss) → claim_size s.operand + 1 < claim_size whole
  unfolding chain_of
  done_smaller p s ss h = omega (arith, chain_grows (joined s.junction h.done s.operand) ss, ap claim_size h.chain)

  refused_whole : (file : SourceFile) (refusal : Refusal) (f : Claim) (ss : List Step) → chain_of f ss ≡ whole → IsRefusal file (claim_faults words one_state f) refusal → IsRefusal file (claim_faults words one_state whole) refusal
  refused_whole file refusal f ss e h =
      let P : Claim → Type 0 = λ g. IsRefusal file (claim_faults words one_state g) refusal in
      subst P e (chain_refused words one_state file refusal f ss h)

  pub spine_refused : (file : SourceFile) (refusal : Refusal) (f : Claim) (ss : List Step) → IsSpine whole f ss → IsRefusal file (claim_faults words one_state f) refusal → IsRefusal file (claim_faults words one_state whole) refusal
  spine_refused file refusal f ss h r = refused_whole file refusal f ss h.chain r

  pub done_refused : (file : SourceFile) (refusal : Refusal) (p : Proposition) (s : Step) (ss : List Step) → IsDone words one_state whole p (s ∷ ss) → IsRefusal file (claim_faults words one_state s.operand) refusal → IsRefusal file (claim_faults words one_state whole) refusal
  unfolding chain_of
  done_refused file refusal p s ss h r = refused_whole file refusal (joined s.junction h.done s.operand) ss h.chain (of_rest _ _ _ _ h.tree.faultless r)
