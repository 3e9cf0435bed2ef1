-- answers at the places of their numbers
use Rattle.std.proofs.Common.{◌≡◌, ℕ, ◌<◌, Option, Some, None, Result, Ok, Vec, Global, List, [], ◌∷◌, ◌++◌, length, get_or, set, refl, sym, ap, subst, ◌∙◌, inl, inr, ⊎_elim, arith, length-set, length-append}
use Rattle.std.proofs.Math.ListN.{get_or-append}
use Rattle.std.specs.Prelude.{All, Contains, IfSome, IfOk}
use Rattle.std.proofs.lemmas.List.{get_or-set_same, get_or-set_other}
use Rattle.std.proofs.lemmas.List.Elements.{All-contains, Contains-append_left, Contains-append_right}
use Rattle.std.proofs.lemmas.Result.{IfOk-at_ok}
use Rattle.std.proofs.lemmas.Bool.Decides.{eqb_tells}
use Rattle.std.specs.declared.alloc.AllocError.{AllocError}
use Rattle.rg_pool.specs.Inner.Deals.{Fills}

-- the last of a list is in it, and so is what stands before it
pub last_in : {X : Type 0} (xs ys : List X) (a : X) → xs ≡ ys ++ a ∷ [] → Contains xs a
last_in xs ys a e = subst (λ zs. Contains zs a) (sym e) (Contains-append_right ys (a ∷ []) a (0, omega arith, refl))

pub others_in : {X : Type 0} (xs ys : List X) (a : X) → xs ≡ ys ++ a ∷ [] → (b : X) → Contains ys b → Contains xs b
others_in xs ys a e b h = subst (λ zs. Contains zs b) (sym e) (Contains-append_left ys (a ∷ []) b h)

module _ {X : Type 0} (answers : List (ℕ × X)) (old mid : List (Option X)) where
  -- one more answer
  pub fills_more : Fills answers old mid → (k : ℕ) (x : X) → Contains answers (k, x) → k < length mid → Fills answers old (set mid k (Some x))
  fills_more f k x in_ small = record {
    size = length-set mid k (Some x) ∙ f.size;
    each = λ i. ⊎_elim
        (λ same. inr (x, subst (λ (j : ℕ). Contains answers (j, x)) (sym same.1) in_, ap (λ (j : ℕ). get_or (set mid k (Some x)) j None) same.1 ∙ get_or-set_same mid k (Some x) None small))
        (λ other. let kept : get_or (set mid k (Some x)) i None ≡ get_or mid i None = get_or-set_other mid k i (Some x) None other.1 in
        ⊎_elim (λ e. inl (kept ∙ e)) (λ found. inr (found.0, found.1, kept ∙ found.2)) (f.each i))
        (eqb_tells i k);
  }

-- each part that a thread gave holds answers of this kind, to numbers below the count
pub record AreParts {X : Type 0} (P : ℕ → X → Type 0) (count : ℕ) (parts : List (Result (Vec (ℕ × X) Global) AllocError)) : Type 0 where
  pub all : All (λ r. IfOk r (λ v. All (λ a. (a.0 < count) × P a.0 a.1) v.items)) parts

-- each place holds an answer of this kind, or none
pub record AreKept {X : Type 0} (P : ℕ → X → Type 0) (count : ℕ) (places : List (Option X)) : Type 0 where
  pub each : (i : ℕ) → i < count → IfSome (get_or places i None) (P i)

module _ {X : Type 0} {P : ℕ → X → Type 0} {count : ℕ} (parts rest : List (Result (Vec (ℕ × X) Global) AllocError)) (part : Result (Vec (ℕ × X) Global) AllocError) (v : Vec (ℕ × X) Global) (are : AreParts P count parts) (taken : parts ≡ rest ++ part ∷ []) where
  abbrev OfKind : Vec (ℕ × X) Global → Type 0
  OfKind w = All (λ a. (a.0 < count) × P a.0 a.1) w.items

  -- what a part holds
  in_part : part ≡ Ok v → OfKind v
  in_part is = IfOk-at_ok OfKind is (All-contains (λ r. IfOk r OfKind) parts part are.all (last_in parts rest part taken))

  -- its numbers are below the count
  pub part_below : part ≡ Ok v → (k : ℕ) (d : ℕ × X) → k < length v.items → (get_or v.items k d).0 < count
  part_below is k d small = (in_part is k d small).0

  -- the parts that are left
  pub parts_left : AreParts P count rest
  parts_left = record {
    all = λ k d small.
        let h = are.all k d (subst (λ zs. k < length zs) (sym taken) (omega (arith, length-append rest (part ∷ []), small))) in
        let same : get_or parts k d ≡ get_or rest k d = ap (λ zs. get_or zs k d) taken ∙ get_or-append rest (part ∷ []) d k small in
        subst (λ r. IfOk r OfKind) same h;
  }

  -- places with the answers of a part
  pub kept_more : part ≡ Ok v → (old new : List (Option X)) → Fills v.items old new → AreKept P count old → AreKept P count new
  kept_more is old new f before = record {
    each = λ i small.
        ⊎_elim
        (λ e. subst (λ o. IfSome o (P i)) (sym e) (before.each i small))
        (λ found. subst (λ o. IfSome o (P i)) (sym found.2) (All-contains (λ a. (a.0 < count) × P a.0 a.1) v.items (i, found.0) (in_part is) found.1).1)
        (f.each i);
  }
