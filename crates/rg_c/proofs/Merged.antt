-- Assignments, of which those that are together are done as one store, do what they do one by one.
use Rattle.std.proofs.Common.{◌≡◌, ◌∙◌, ℕ, zero, suc, ◌-◌, ◌<◌, Bool, true, false, ◌&&◌, List, [], ◌∷◌, take, drop, Option, Some, None, refl, ap, sym, subst, arith}
use Rattle.std.specs.Prelude.{nat_lt, if◌then◌else◌}
use Rattle.std.specs.Option.{option_map_or}
use Rattle.std.proofs.lemmas.Bool.{and_parts, or_parts}
use Rattle.rg_words.specs.Layout.{Word}
use Rattle.rg_words.specs.States.{IsState}
use Rattle.rg_c_plan.specs.declared.kind.Kind.{Kind}
use Rattle.rg_c_values.specs.declared.print.Read.{Read}
use Rattle.rg_c_values.specs.Arrays.{array_length}
use Rattle.rg_c_values.specs.Items.{is_below, read_of}
use Rattle.rg_c_values.proofs.ItemsRight.{lt_from}
use Rattle.rg_c.specs.declared.tree.Target.TheVariants.{Word as ToWord}
use Rattle.rg_c.specs.CStatements.{CStatement, ◌⨾◌, each}
use Rattle.rg_c.specs.Assigned.{GivenTree, assigned_to}
use Rattle.rg_c.specs.Together.{ItemTree, item_given, gives_from, is_apart, is_together, together, all_given, is_local, has_local}
use Rattle.rg_c.specs.Meaning.{Machine, sees, Outcome, on, leaves, waits, next, run}
use Rattle.rg_c.proofs.Givens.{then_on}
use Rattle.rg_c.proofs.TogetherRight.{together_is, stores_are_together}

on_same : (m k : Machine) → on m ≡ on k → m ≡ k
on_same m k h = cc

module _ (words : List Word) (kinds : List Kind) (reads : List Read) where
  abbrev pub one : GivenTree → CStatement
  one g = assigned_to kinds ToWord g

  -- statements go on, with a machine of which this holds
  pub record Goes (c : CStatement) (m : Machine) (P : Machine → Type 0) : Type 0 where
    pub to : Machine
    pub run_is : run words reads c m ≡ on to
    pub rest : P to

  -- assignments go on one by one, from states of the words
  abbrev pub Going : List GivenTree → Machine → Type 0
  Going [] m = Unit {0}
  Going (g ∷ gs) m = IsState words (sees reads m) × Goes (one g) m (Going gs)

  arrives : (gs : List GivenTree) (n : ℕ) (m : Machine) → Going gs m → Goes (each one (take n gs)) m (λ k. Unit {0})
  arrives gs zero m h = record { to = m; run_is = refl; rest = tt }
  arrives [] (suc n) m h = record { to = m; run_is = refl; rest = tt }
  arrives (g ∷ gs) (suc n) m h =
      let r = arrives gs n h.1.to h.1.rest in
      record { to = r.to; run_is = then_on _ h.1.run_is ∙ r.run_is; rest = tt }

  split : (gs : List GivenTree) (n : ℕ) (m : Machine) → run words reads (each one gs) m ≡ next (run words reads (each one (take n gs)) m) (run words reads (each one (drop n gs)))
  split gs zero m = refl
  split [] (suc n) m = refl
  split (g ∷ gs) (suc n) m = by (run words reads (one g) m) (split gs n)
    where
      by : (o : Outcome) → ((k : Machine) → run words reads (each one gs) k ≡ next (run words reads (each one (take n gs)) k) (run words reads (each one (drop n gs)))) →
          next o (run words reads (each one gs)) ≡ next (next o (run words reads (each one (take n gs)))) (run words reads (each one (drop n gs)))
      by (on k) rest = rest k
      by (leaves k) rest = refl
      by (waits k) rest = refl

  few_local : (gs : List GivenTree) (n : ℕ) → has_local reads gs ≡ false → has_local reads (take n gs) ≡ false
  few_local gs zero h = refl
  few_local [] (suc n) h = refl
  few_local (g ∷ gs) (suc n) h = let d = or_parts (is_local (read_of reads g.word)) (has_local reads gs) h in rw d.0 (few_local gs n d.1)

  two : (gs : List GivenTree) (it : ItemTree) → together words kinds gs ≡ Some it → 1 < array_length words it.first
  two gs it h =
      let n = array_length words it.first in
      let parts = and_parts _ _ (together_is words kinds gs it h) in
      lt_from 1 n (and_parts _ _ parts.0).0

  merge : (g : GivenTree) (gs : List GivenTree) (m : Machine) (going : Going (g ∷ gs) m) → has_local reads (g ∷ gs) ≡ false →
      ((r : ℕ) (k : Machine) → run words reads (each one (take r gs)) going.1.to ≡ on k → run words reads (all_given words kinds r gs) k ≡ run words reads (each one (drop r gs)) k) →
      run words reads (all_given words kinds 0 (g ∷ gs)) m ≡ run words reads (each one (g ∷ gs)) m
  merge g gs m going local rest = by (together words kinds (g ∷ gs)) refl
    where
      here : (c : CStatement) → run words reads (one g ⨾ c) m ≡ run words reads c going.1.to
      here c = then_on _ going.1.run_is

      by : (o : Option ItemTree) → together words kinds (g ∷ gs) ≡ o →
          run words reads (option_map_or (λ (it : ItemTree). item_given kinds it ⨾ all_given words kinds (array_length words it.first - 1) gs) o (one g ⨾ all_given words kinds 0 gs)) m
          ≡ run words reads (one g ⨾ each one gs) m
      by None e = here (all_given words kinds 0 gs) ∙ rest 0 going.1.to refl ∙ sym (here (each one gs))
      by (Some it) e =
          let n = array_length words it.first in
          let r = n - 1 in
          let more = two (g ∷ gs) it e in
          let size : n ≡ suc r = omega (arith, more) in
          let a = arrives gs r going.1.to going.1.rest in
          let law = (stores_are_together words kinds reads m going.0 (g ∷ gs) it e (few_local (g ∷ gs) n local)).1 in
          let taken = ap (λ i. run words reads (each one (take i (g ∷ gs))) m) size ∙ here (each one (take r gs)) ∙ a.run_is in
          then_on _ (law ∙ taken)
          ∙ rest r a.to a.run_is
          ∙ sym (here (each one gs) ∙ split gs r going.1.to ∙ ap (λ o. next o (run words reads (each one (drop r gs)))) a.run_is)

  pub merged : (gs : List GivenTree) (n : ℕ) (m k : Machine) → Going gs m → has_local reads gs ≡ false → run words reads (each one (take n gs)) m ≡ on k →
      run words reads (all_given words kinds n gs) k ≡ run words reads (each one (drop n gs)) k
  merged [] zero m k going local arrived = refl
  merged [] (suc n) m k going local arrived = refl
  merged (g ∷ gs) (suc n) m k going local arrived =
      merged gs n going.1.to k going.1.rest (or_parts _ _ local).1
      (sym (then_on _ going.1.run_is) ∙ arrived)
  merged (g ∷ gs) zero m k going local arrived =
      subst (λ u. run words reads (all_given words kinds 0 (g ∷ gs)) u ≡ run words reads (each one (g ∷ gs)) u) (on_same m k arrived)
      (merge g gs m going local (λ r a h. merged gs r going.1.to a going.1.rest (or_parts _ _ local).1 h))
