-- One list of tokens has one first fault.
use Rattle.std.proofs.Common.{◌≡◌, ◌≢◌, ℕ, ◌+◌, ◌<◌, ◌⊎◌, inl, inr, List, ◌++◌, take, drop, Err, refl, sym, ap, ◌∙◌, arith}
use Rattle.std.proofs.lemmas.List.{take-append-drop, take-take, append_assoc}
use Rattle.std.proofs.lemmas.Bool.{cases_order}
use Rattle.rg_syntax.specs.declared.text_kind.TextKind.{TextKind}
use Rattle.rg_shape.specs.declared.shape.ShapeFault.{ShapeFault}
use Rattle.rg_shape.specs.declared.shape.ShapeFault.TheVariants.{Memory, Unexpected, TooDeep, TooMany, Unfinished}
use Rattle.rg_syntax.specs.Grammar.{Lexeme, BeginsText}
use Rattle.rg_syntax.specs.Limits.{BeginsWithin, BeginsShallow}
use Rattle.rg_shape.specs.Shape.{ShapeIs}

module _ (k : TextKind) (ts : List Lexeme) where
  -- what begins a text within the limits does so as far as any of its tokens
  shorter : (us : List Lexeme) (n : ℕ) → BeginsWithin k us → BeginsWithin k (take n us)
  shorter us n b =
      (b.0, drop n us ++ b.1, b.2, b.3, b.4 ∙ ap (λ vs. vs ++ b.1) (sym (take-append-drop n us)) ∙ append_assoc (take n us) (drop n us) b.1)

  earlier : (i j : ℕ) → i < j → BeginsWithin k (take j ts) → BeginsWithin k (take (i + 1) ts)
  earlier i j less b = rw (take-take (i + 1) j ts (omega (arith, less))) at (shorter (take j ts) (i + 1) b)

  as_shallow : (us : List Lexeme) → BeginsWithin k us → BeginsShallow k us
  as_shallow us b = (b.0, b.1, b.2, b.4)

  as_text : (us : List Lexeme) → BeginsShallow k us → BeginsText k us
  as_text us b = (b.0, b.1, b.3)

  -- the tokens up to this one begin no text within the limits, and those before it do
  record FaultAt (i : ℕ) : Type 0 where
    before : BeginsWithin k (take i ts)
    none : BeginsWithin k (take (i + 1) ts) → ⊥

  unexpected_at : (i : ℕ) → ShapeIs k ts (Err (Unexpected i)) → FaultAt i
  unexpected_at i x = record { before = x.1; none = λ b. x.2 (as_text _ (as_shallow _ b)) }

  deep_at : (i : ℕ) → ShapeIs k ts (Err (TooDeep i)) → FaultAt i
  deep_at i x = record { before = x.1; none = λ b. x.3 (as_shallow _ b) }

  many_at : (i : ℕ) → ShapeIs k ts (Err (TooMany i)) → FaultAt i
  many_at i x = record { before = x.1; none = x.3 }

  same_place : (i j : ℕ) → FaultAt i → FaultAt j → i ≡ j
  same_place i j a b = go (cases_order i j)
    where
      go : ((i ≡ j) ⊎ ((i < j) ⊎ (j < i))) → i ≡ j
      go (inl e) = e
      go (inr (inl less)) = absurd (a.none (earlier i j less b.before))
      go (inr (inr less)) = absurd (b.none (earlier j i less a.before))

  not_at_end : (i : ℕ) → FaultAt i → BeginsWithin k ts → ⊥
  not_at_end i a b = a.none (shorter ts (i + 1) b)

  not_deep_too : (i j : ℕ) → ShapeIs k ts (Err (Unexpected i)) → ShapeIs k ts (Err (TooDeep j)) → ⊥
  not_deep_too i j x y = x.2 (rw (same_place i j (unexpected_at i x) (deep_at j y)) y.2)

  not_many_too : (i j : ℕ) → ShapeIs k ts (Err (Unexpected i)) → ShapeIs k ts (Err (TooMany j)) → ⊥
  not_many_too i j x y = x.2 (rw (same_place i j (unexpected_at i x) (many_at j y)) (as_text _ y.2))

  deep_or_many : (i j : ℕ) → ShapeIs k ts (Err (TooDeep i)) → ShapeIs k ts (Err (TooMany j)) → ⊥
  deep_or_many i j x y = x.3 (rw (same_place i j (deep_at i x) (many_at j y)) y.2)

  pub one_fault : (a b : ShapeFault) → a ≢ Memory → b ≢ Memory → ShapeIs k ts (Err a) → ShapeIs k ts (Err b) → a ≡ b
  one_fault Memory b n m x y = absurd (n refl)
  one_fault (Unexpected i) Memory n m x y = absurd (m refl)
  one_fault (Unexpected i) (Unexpected j) n m x y = ap Unexpected (same_place i j (unexpected_at i x) (unexpected_at j y))
  one_fault (Unexpected i) (TooDeep j) n m x y = absurd (not_deep_too i j x y)
  one_fault (Unexpected i) (TooMany j) n m x y = absurd (not_many_too i j x y)
  one_fault (Unexpected i) Unfinished n m x y = absurd (not_at_end i (unexpected_at i x) y.0)
  one_fault (TooDeep i) Memory n m x y = absurd (m refl)
  one_fault (TooDeep i) (Unexpected j) n m x y = absurd (not_deep_too j i y x)
  one_fault (TooDeep i) (TooDeep j) n m x y = ap TooDeep (same_place i j (deep_at i x) (deep_at j y))
  one_fault (TooDeep i) (TooMany j) n m x y = absurd (deep_or_many i j x y)
  one_fault (TooDeep i) Unfinished n m x y = absurd (not_at_end i (deep_at i x) y.0)
  one_fault (TooMany i) Memory n m x y = absurd (m refl)
  one_fault (TooMany i) (Unexpected j) n m x y = absurd (not_many_too j i y x)
  one_fault (TooMany i) (TooDeep j) n m x y = absurd (deep_or_many j i y x)
  one_fault (TooMany i) (TooMany j) n m x y = ap TooMany (same_place i j (many_at i x) (many_at j y))
  one_fault (TooMany i) Unfinished n m x y = absurd (not_at_end i (many_at i x) y.0)
  one_fault Unfinished Memory n m x y = absurd (m refl)
  one_fault Unfinished (Unexpected j) n m x y = absurd (not_at_end j (unexpected_at j y) x.0)
  one_fault Unfinished (TooDeep j) n m x y = absurd (not_at_end j (deep_at j y) x.0)
  one_fault Unfinished (TooMany j) n m x y = absurd (not_at_end j (many_at j y) x.0)
  one_fault Unfinished Unfinished n m x y = refl
