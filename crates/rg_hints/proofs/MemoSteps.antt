-- copies of clauses
use Rattle.std.proofs.Common.{◌≡◌, ℕ, ℤ, List, length, get_or, take, drop, sym, inl, inr, ⊎_elim, subst, Option, IfSome, arith}
use Rattle.std.specs.Prelude.{All, Contains}
use Rattle.std.specs.Global.{Global}
use Rattle.std.specs.BTreeMap.{BTreeMap}
use Rattle.std.specs.declared.vec.Vec.{Vec}
use Rattle.std.proofs.lemmas.List.{take_all, take-append-drop}
use Rattle.std.proofs.lemmas.List.Elements.{All-contains, Contains-get_or, Contains-append_left}
use Rattle.rg_hint_lines.specs.Lines.{HintLine, Section, IsSection}
use Rattle.rg_hints.specs.Hints.{Names}
use Rattle.rg_hints.specs.Inner.Memo.{HasSame, AreCopies, IsCopyOf, IsCopied}
use Rattle.rg_hints.specs.Inner.Status.{IsStatus}
use Rattle.rg_hints.specs.declared.status.Status.{Status}
use Rattle.rg_hints.specs.declared.status.Status.TheVariants.{Conflict, Unit as UnitOf, Open}
use Rattle.rg_hints.proofs.OneEnd.{names_same}

-- clauses of the same literals are the same under a set
pub status_same : (set clause copy : List ℤ) → HasSame clause copy → (status : Status) → IsStatus set copy status → IsStatus set clause status
status_same set clause copy same Conflict h = λ x m. h x (same.to x m)
status_same set clause copy same (UnitOf x) h = record {
  member = same.from x h.member;
  open_ = h.open_;
  others = λ y m. h.others y (same.to y m);
}
status_same set clause copy same Open h = record {
  first = h.first;
  second = h.second;
  first_in = same.from h.first h.first_in;
  second_in = same.from h.second h.second_in;
  distinct = h.distinct;
  first_open = h.first_open;
  second_open = h.second_open;
}

-- what is so of each literal of a clause is so of each of its copy
pub all_same : (P : ℤ → Type 0) (clause copy : List ℤ) → HasSame clause copy → All P clause → All P copy
all_same P clause copy same all = λ k d small. All-contains P clause (get_or copy k d) all (same.from (get_or copy k d) (Contains-get_or copy k d small))

-- a number names one clause in a section
module _ (given : List (List ℤ)) (s : Section) (section : IsSection s) (count : s.given ≡ length given) where
  names_one : (id : ℕ) (b c : List ℤ) → Names given s.lines id b → Names given s.lines id c → b ≡ c
  names_one id b c m n =
      let P : List ℤ → List HintLine → Type 0 = λ clause lines. Names given lines id clause in
      let e : s.lines ≡ take (length s.lines) s.lines = sym (take_all (length s.lines) s.lines (omega arith)) in
      names_same given s (length s.lines) id b c section count (subst (P b) e m) (subst (P c) e n)

  -- what is named among some lines is named among all
  pub names_in_all : (i id : ℕ) (clause : List ℤ) → Names given (take i s.lines) id clause → Names given s.lines id clause
  names_in_all i id clause n =
      ⊎_elim (λ p. inl p)
      (λ p.
      let P : List HintLine → Type 0 = λ ls. Contains ls p.0 in
      inr (p.0, subst P (take-append-drop i s.lines) (Contains-append_left (take i s.lines) (drop i s.lines) p.0 p.1), p.2, p.3)) n

  -- the copies stay copies
  pub copies_kept : (i id : ℕ) (clause : List ℤ) (old new : BTreeMap ℕ (Vec ℤ Global)) → Names given (take i s.lines) id clause → AreCopies given s old → IsCopied id clause old new → AreCopies given s new
  copies_kept i id clause old new named are is =
      λ other c n. ⊎_elim
      (λ e. let P : Option (Vec ℤ Global) → Type 0 = λ o. IfSome o (λ v. HasSame c v.items) in subst P (sym e) (are other c n))
      (λ e.
      let Q : ℕ → Type 0 = λ k. Names given s.lines k c in
      let same : clause ≡ c = names_one id clause c (names_in_all i id clause named) (subst Q e n) in
      let R : List ℤ → Type 0 = λ d. IsCopyOf id d new in
      let S : ℕ → Type 0 = λ k. IsCopyOf k c new in
      subst S (sym e) (subst R same is.0))
      (is.1 other)
