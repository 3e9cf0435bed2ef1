use Rattle.std.proofs.Common.{◌≡◌, ℤ, List, sym, subst}
use Rattle.std.specs.Prelude.{Contains}
use Rattle.std.proofs.lemmas.Bool.Decides.{Decides-int_eq}
use Rattle.std.proofs.lemmas.Cmp.{int_eq_equiv}
use Rattle.std.proofs.lemmas.List.Filters.{dedup_is}
use Rattle.std.proofs.lemmas.List.Kept.{Contains-dedup, Contains-from_dedup}
use Rattle.std.proofs.lemmas.List.Sorted.{Contains-permutation, IsPermutation-sym}
use Rattle.rg_hints.proofs.memo.each_once.Goals as goal

pub returns : goal.returns
returns c =
    let items : c.extend_from_slice.new.self.items ≡ c.args.clause.now = rw c.in_ok-copy.ensures.items at c.in_ok-extend_from_slice.ensures.items in
    let is = dedup_is _ _ _ c.dedup.ensures.filtered in
    let moved = c.sort_unstable.ensures.permutation in
    record {
      to = λ x h.
          let P : List ℤ → Type 0 = λ xs. Contains xs x in
          rw is (Contains-dedup int_eq_equiv (λ y z. (Decides-int_eq y z).0) _ x (Contains-permutation _ _ x moved (subst P (sym items) h)));
      from = λ x h.
          let P : List ℤ → Type 0 = λ xs. Contains xs x in
          subst P items (Contains-permutation _ _ x (IsPermutation-sym _ _ moved) (Contains-from_dedup _ _ x (rw is at h)));
    }
