-- idle hints, and chains over sets of the same literals
use Rattle.std.proofs.Common.{◌≡◌, ℕ, ◌+◌, ◌<◌, ℤ, neg_ℤ, List, [], ◌∷◌, ◌++◌, length, get_or, take, drop, sym, ap, ◌∙◌, inl, inr, ⊎_elim, subst, true}
use Rattle.std.specs.Prelude.{All, Contains}
use Rattle.std.specs.List.{list_any}
use Rattle.std.specs.Ordering.{nat_cmp, is_eq}
use Rattle.std.proofs.Math.IntN.{neg_ℤ-neg_ℤ}
use Rattle.std.proofs.lemmas.List.{drop_more}
use Rattle.std.proofs.lemmas.List.Elements.{All-contains, Contains-append_left, Contains-push, Contains-push_cases}
use Rattle.std.proofs.lemmas.Map.Views.{Contains-from_any, All-insert_key}
use Rattle.std.specs.Global.{Global}
use Rattle.std.specs.BTreeMap.{BTreeMap}
use Rattle.std.specs.declared.vec.Vec.{Vec}
use Rattle.rg_hint_lines.specs.Lines.{HintLine, Section, IsSection, hint_line_at}
use Rattle.rg_hints.specs.Hints.{Names, IsFalse, IsConflict, IsUnit, IsOpen, End, Conflict, NotEarlier, NotUnit, NoHint, EndsAs, ComesTo, LineComesTo}
use Rattle.rg_hints.specs.Inner.Memo.{HasSame, IsTaken, AreCopies, IsCopied}
use Rattle.rg_hints.proofs.MarkSteps.{same_key}
use Rattle.rg_hints.proofs.MemoSteps.{copies_kept}

-- the hint's clause has one literal that isn't false, and the set holds it
pub record IsIdle (given : List (List ℤ)) (earlier : List HintLine) (set : List ℤ) (hint : ℕ) : Type 0 where
  pub clause : List ℤ
  pub literal : ℤ
  pub named : Names given earlier hint clause
  pub is_unit : IsUnit set clause literal
  pub held : Contains set literal

conflict_same : (set other clause : List ℤ) → HasSame set other → IsConflict set clause → IsConflict other clause
conflict_same set other clause same h = λ x m. same.to (neg_ℤ x) (h x m)

unit_same_set : (set other clause : List ℤ) (x : ℤ) → HasSame set other → IsUnit set clause x → IsUnit other clause x
unit_same_set set other clause x same u = record {
  member = u.member;
  open_ = λ f. u.open_ (same.from (neg_ℤ x) f);
  others = λ y m. ⊎_elim (λ e. inl e) (λ f. inr (same.to (neg_ℤ y) f)) (u.others y m);
}

open_same : (set other clause : List ℤ) → HasSame set other → IsOpen set clause → IsOpen other clause
open_same set other clause same o = record {
  first = o.first;
  second = o.second;
  first_in = o.first_in;
  second_in = o.second_in;
  distinct = o.distinct;
  first_open = λ f. o.first_open (same.from (neg_ℤ o.first) f);
  second_open = λ f. o.second_open (same.from (neg_ℤ o.second) f);
}

push_same : (set other : List ℤ) (x : ℤ) → HasSame set other → HasSame (set ++ x ∷ []) (other ++ x ∷ [])
push_same set other x same = record {
  to = λ y m. pushed set other x y same.to m;
  from = λ y m. pushed other set x y same.from m;
} where
  pushed : (one two : List ℤ) (p q : ℤ) → ((z : ℤ) → Contains one z → Contains two z) → Contains (one ++ p ∷ []) q → Contains (two ++ p ∷ []) q
  pushed one two p q to m =
      let P : ℤ → Type 0 = λ z. Contains (two ++ p ∷ []) z in
      ⊎_elim (λ n. Contains-append_left two (p ∷ []) q (to q n)) (λ e. subst P e (Contains-push two p)) (Contains-push_cases one p q m)

-- a literal that is held, put in again
again_same : (set : List ℤ) (x : ℤ) → Contains set x → HasSame set (set ++ x ∷ [])
again_same set x held = record {
  to = λ y m. Contains-append_left set (x ∷ []) y m;
  from = λ y m. let P : ℤ → Type 0 = λ z. Contains set z in ⊎_elim (λ n. n) (λ e. subst P e held) (Contains-push_cases set x y m);
}

module _ (given : List (List ℤ)) (earlier : List HintLine) where
  ends_same : (end : End) (set other : List ℤ) → HasSame set other → (hints : List ℕ) → EndsAs given earlier end set hints → EndsAs given earlier end other hints
  ends_same NoHint set other same [] h = h
  ends_same Conflict set other same [] h = h
  ends_same NotEarlier set other same [] h = h
  ends_same NotUnit set other same [] h = h
  ends_same Conflict set other same (hint ∷ hints) h = (h.0, h.1, conflict_same set other h.0 same h.2)
  ends_same NotEarlier set other same (hint ∷ hints) h = h
  ends_same NotUnit set other same (hint ∷ hints) h = (h.0, h.1, open_same set other h.0 same h.2)
  ends_same NoHint set other same (hint ∷ hints) h = h

  -- a chain ends as it does from a set of the same literals
  comes_same : (end : End) (set other : List ℤ) → HasSame set other → (hints : List ℕ) → ComesTo given earlier end set hints → ComesTo given earlier end other hints
  comes_same end set other same [] h = ends_same end set other same [] h
  comes_same end set other same (hint ∷ hints) h =
      ⊎_elim (λ p. inl (ends_same end set other same (hint ∷ hints) p))
      (λ p. inr (p.0, p.1, p.2, unit_same_set set other p.0 p.1 same p.3, comes_same end (set ++ p.1 ∷ []) (other ++ p.1 ∷ []) (push_same set other p.1 same) hints p.4))
      h

  -- an idle hint may be passed over
  pub comes_idle : (end : End) (set : List ℤ) (hints : List ℕ) (i : ℕ) → i < length hints → IsIdle given earlier set (get_or hints i 0) → ComesTo given earlier end set (drop (i + 1) hints) → ComesTo given earlier end set (drop i hints)
  comes_idle end set hints i small idle rest =
      rw (drop_more hints i 0 small) (inr (idle.clause, idle.literal, idle.named, idle.is_unit, comes_same end set (set ++ idle.literal ∷ []) (again_same set idle.literal idle.held) (drop (i + 1) hints) rest))

  -- a hint stays idle where a literal that isn't false is put in
  idle_kept : (set : List ℤ) (x : ℤ) (hint : ℕ) → (IsFalse set x → ⊥) → IsIdle given earlier set hint → IsIdle given earlier (set ++ x ∷ []) hint
  idle_kept set x hint fresh idle =
      let held_of = λ (e : x ≡ neg_ℤ idle.literal).
      let P : ℤ → Type 0 = λ z. Contains set z in
      subst P (sym (ap neg_ℤ e ∙ neg_ℤ-neg_ℤ idle.literal)) idle.held in
      record {
        clause = idle.clause;
        literal = idle.literal;
        named = idle.named;
        is_unit = record {
          member = idle.is_unit.member;
          open_ = λ f. ⊎_elim (λ n. idle.is_unit.open_ n) (λ e. fresh (held_of e)) (Contains-push_cases set x (neg_ℤ idle.literal) f);
          others = λ y m. ⊎_elim (λ e. inl e) (λ f. inr (Contains-append_left set (x ∷ []) (neg_ℤ y) f)) (idle.is_unit.others y m);
        };
        held = Contains-append_left set (x ∷ []) idle.literal idle.held;
      }

  -- the idle hints after the literal of a unit clause is taken
  pub idle_after : (set new_set : List ℤ) (idle new_idle : List ℕ) (hint : ℕ) (clause : List ℤ) (x : ℤ) → Names given earlier hint clause → IsUnit set clause x → All (IsIdle given earlier set) idle → IsTaken set idle hint x new_set new_idle → All (IsIdle given earlier new_set) new_idle
  idle_after set new_set idle new_idle hint clause x named u all taken =
      ⊎_elim
      (λ t. rw (t.0, t.1) (λ k d small. idle_kept set x (get_or idle k d) u.open_ (all k d small)))
      (λ t. rw (t.1, t.2) (All-insert_key nat_cmp hint (IsIdle given earlier set) idle all (record { clause = clause; literal = x; named = named; is_unit = u; held = t.0 })))
      taken

  -- the chain after it
  pub comes_taken : (end : End) (set new_set : List ℤ) (idle new_idle : List ℕ) (hints : List ℕ) (i : ℕ) (clause : List ℤ) (x : ℤ) → i < length hints → Names given earlier (get_or hints i 0) clause → IsUnit set clause x → IsTaken set idle (get_or hints i 0) x new_set new_idle → ComesTo given earlier end new_set (drop (i + 1) hints) → ComesTo given earlier end set (drop i hints)
  comes_taken end set new_set idle new_idle hints i clause x small named u taken rest =
      let P : List ℤ → Type 0 = λ s. ComesTo given earlier end s (drop (i + 1) hints) in
      rw (drop_more hints i 0 small)
      (inr (
        clause,
        x,
        named,
        u,
        ⊎_elim
            (λ t. subst P t.0 rest)
            (λ t. comes_same end set (set ++ x ∷ []) (again_same set x t.0) (drop (i + 1) hints) (subst P t.1 rest))
            taken,
      ))

-- the line's hints are followed up to a place: where the chain goes on from here to an end, it comes to that end from its beginning
pub record IsAlong (given : List (List ℤ)) (s : Section) (i : ℕ) (hints : List ℕ) (at : ℕ) (set : List ℤ) (idle : List ℕ) (copies : BTreeMap ℕ (Vec ℤ Global)) : Type 0 where
  pub ends : (end : End) → ComesTo given (take i s.lines) end set (drop at hints) → LineComesTo given (take i s.lines) end (hint_line_at s i)
  pub idles : All (IsIdle given (take i s.lines) set) idle
  pub copies_ : AreCopies given s copies

module _ (given : List (List ℤ)) (s : Section) (i : ℕ) (hints : List ℕ) (at : ℕ) (small : at < length hints) (set : List ℤ) (idle : List ℕ) (copies : BTreeMap ℕ (Vec ℤ Global)) (along : IsAlong given s i hints at set idle copies) where
  -- a hint that is found among the idle ones is idle
  idle_found : list_any (λ k. is_eq (nat_cmp (get_or hints at 0) k)) idle ≡ true → IsIdle given (take i s.lines) set (get_or hints at 0)
  idle_found found =
      All-contains (IsIdle given (take i s.lines) set) idle (get_or hints at 0) along.idles (Contains-from_any {eq = λ m n. is_eq (nat_cmp m n)} (λ m n e. same_key m n e) (get_or hints at 0) idle found)

  -- it is passed over
  pub along_idle : list_any (λ k. is_eq (nat_cmp (get_or hints at 0) k)) idle ≡ true → IsAlong given s i hints (at + 1) set idle copies
  along_idle found = record {
    ends = λ end rest. along.ends end (comes_idle given (take i s.lines) end set hints at small (idle_found found) rest);
    idles = along.idles;
    copies_ = along.copies_;
  }

  -- the literal of its clause is taken
  pub along_taken : IsSection s → s.given ≡ length given → (new_set : List ℤ) (new_idle : List ℕ) (new_copies : BTreeMap ℕ (Vec ℤ Global)) (clause : List ℤ) (x : ℤ) → Names given (take i s.lines) (get_or hints at 0) clause → IsUnit set clause x → IsCopied (get_or hints at 0) clause copies new_copies → IsTaken set idle (get_or hints at 0) x new_set new_idle → IsAlong given s i hints (at + 1) new_set new_idle new_copies
  along_taken section count new_set new_idle new_copies clause x named u copied taken = record {
    ends = λ end rest. along.ends end (comes_taken given (take i s.lines) end set new_set idle new_idle hints at clause x small named u taken rest);
    idles = idle_after given (take i s.lines) set new_set idle new_idle (get_or hints at 0) clause x named u along.idles taken;
    copies_ = copies_kept given s section count i (get_or hints at 0) clause copies new_copies named along.copies_ copied;
  }
