-- The steps of legal code lead from states to states.
use Rattle.std.proofs.Common.{◌≡◌, ℕ, ◌<◌, ◌^◌, Bool, true, false, List, [], ◌∷◌, Some, None, sym, subst, arith}
use Rattle.std.specs.Prelude.{Option, option_and_then, option_map, slice_set, slice_index, if◌then◌else◌}
use Rattle.std.proofs.lemmas.List.{length-map}
use Rattle.rg_words.specs.Layout.{Word, widths_of}
use Rattle.rg_words.specs.States.{IsState, IsPair}
use Rattle.rg_tree.specs.Traces.{State}
use Rattle.rg_tree.proofs.Steps.{set_values, agree_self, agree_set, agree_trans}
use Rattle.rg_code.specs.Operations.{left_by, reported_by}
use Rattle.rg_code.specs.Code.{StoreTree, do_block, await_block, test_block, end_block, stored}
use Rattle.rg_code.specs.Legal.{IsBelow, AreLegalStores}
use Rattle.rg_code.specs.Laws.{BlockStepsArePairs}

-- what follows from a number that is below the bound follows from one that may be missing
from_number : (P : Type 0) (bound : ℕ) (next : ℕ → Option State) (t : State) (o : Option ℕ) → IsBelow bound o → option_and_then next o ≡ Some t → ((x : ℕ) → x < bound → next x ≡ Some t → P) → P
from_number P bound next t None below h k = absurd below
from_number P bound next t (Some x) below h k = k x below h

pair_self : (words : List Word) (s t : State) → IsState words s → s ≡ t → IsPair words s t
pair_self words s t st e = subst (λ (x : State). IsPair words s x) e (record { first = st; second = st; fixed = agree_self words s })

stores_pair : (words : List Word) (act : List StoreTree) (s t : State) → AreLegalStores words act → IsState words s → stored act s ≡ Some t → IsPair words s t
stores_pair words [] s t legal st h = let e : s ≡ t = cc h in pair_self words s t st e
stores_pair words (a ∷ act) s t legal st h =
    from_number (IsPair words s t) (2 ^ slice_index (widths_of words) a.target) (λ x. stored act (slice_set s a.target x)) t (left_by a.value s) (legal.0.2.1 s st) h
    (λ x less k.
    let size = length-map words (λ w. w.width) in
    let st' = set_values (widths_of words) s a.target x st (omega (arith, size, legal.0.0)) less in
    let rest = stores_pair words act (slice_set s a.target x) t legal.1 st' k in
    record { first = st; second = rest.second; fixed = agree_trans words s (slice_set s a.target x) t st' (agree_set words s a.target x legal.0.1) rest.fixed })

-- a place along an equation
place_at : (n next to : ℕ) → to ≡ next → next < n → to < n
place_at n next to e h = omega arith

chosen_place : (n yes_place no_place to : ℕ) (o : Option Bool) → option_map (λ v. if v then yes_place else no_place) o ≡ Some to → yes_place < n → no_place < n → to < n
chosen_place n yes_place no_place to None e h k = cc e
chosen_place n yes_place no_place to (Some true) e h k = let q : yes_place ≡ to = cc e in omega arith
chosen_place n yes_place no_place to (Some false) e h k = let q : no_place ≡ to = cc e in omega arith

pub block_steps_are_pairs : BlockStepsArePairs
block_steps_are_pairs words n (do_block row next act) s t to legal st m = (stores_pair words act s t legal.1 st m.0, place_at n next to m.1 legal.0)
block_steps_are_pairs words n (await_block row next b act) s t to legal st m = (stores_pair words act s t legal.2 st m.1, place_at n next to m.2 legal.0)
block_steps_are_pairs words n (test_block row yes_place no_place b) s t to legal st m =
    (pair_self words s t st (sym m.0), chosen_place n yes_place no_place to (reported_by b s) m.1 legal.0 legal.1)
block_steps_are_pairs words n end_block s t to legal st m = absurd m
