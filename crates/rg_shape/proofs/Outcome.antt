-- What the machine's runs say of the tokens.
use Rattle.std.proofs.Common.{◌≡◌, ℕ, zero, suc, ◌+◌, ◌<◌, Bool, true, false, ◌&&◌, ◌||◌, cond, List, [], ◌∷◌, ◌++◌, length, take, drop, Option, Result, IfErr, Some, None, Ok, Err, option_and_then, refl, sym, ap, subst, ◌∙◌, arith, append-nil}
use Rattle.std.proofs.lemmas.List.{take-map, map-append, length-map, take-append-drop}
use Rattle.rg_text.specs.declared.kind.Kind.{Kind}
use Rattle.rg_syntax.specs.declared.text_kind.TextKind.{TextKind}
use Rattle.rg_syntax.specs.declared.text_kind.TextKind.TheVariants as texts
use Rattle.rg_shape.specs.declared.point.Point.{Point}
use Rattle.rg_shape.specs.declared.shape.ShapeFault.{ShapeFault}
use Rattle.rg_shape.specs.declared.shape.ShapeFault.TheVariants.{Memory, Unexpected, TooDeep, TooMany, Unfinished}
use Rattle.rg_syntax.specs.Grammar.{Lexeme, Spelling, spelled, IsText, BeginsText, no_setting}
use Rattle.rg_syntax.specs.Limits.{IsTextWithin, BeginsWithin, BeginsShallow}
use Rattle.rg_shape.specs.Inner.Machine.{start, next, is_shallow, has_room, is_at_end}
use Rattle.rg_shape.specs.Shape.{ShapeIs}
use Rattle.rg_shape.proofs.Steps.{kinds, is_written, written, limited_run, fewer_limits, run-append, limited-append, kind_of, run, allowed, limited}
use Rattle.rg_shape.proofs.Spellings.{last_point, text_ends, reads_text}
use Rattle.rg_shape.proofs.Within.{also, fits, fits_text, fits_shallow, fits_short, shallow_fits, within_fits}
use Rattle.rg_shape.proofs.Zipper.{State, WellState, state_kind, state_points, alone, bottom, unread, hole, head, set, for_start, after_settings, before_moves, in_lines, before_lines, tokens, Reaches}
use Rattle.rg_shape.proofs.Advance.{reached}
use Rattle.rg_shape.proofs.Finish.{state_ends, at_end}
use Rattle.rg_syntax.proofs.Clauses.{and_both}

-- what the machine has read stands for a beginning of a text
begun : (k : TextKind) (ts : List Lexeme) → written ts ≡ true → (ps : List Point) → run (start k) (kinds ts) ≡ Some ps → Reaches k (λ r. ts ++ r) ps
begun texts.Formula ts u ps h = reached ts u (hole (bottom alone)) tt ps h
begun texts.Show ts u ps h = reached ts u (head false unread) tt ps h
begun texts.Start ts u ps h = reached ts u (set (after_settings for_start no_setting)) tt ps h
begun texts.Moves ts u ps h = reached ts u (set before_moves) tt ps h
begun texts.Program ts u ps h = reached ts u (head true unread) tt ps h
begun texts.Derivation ts u ps h = reached ts u (in_lines before_lines) tt ps h

fits_from_run : (lists : Bool) (k : TextKind) (s : Spelling k) (ps : List Point) → limited lists (start k) (kinds (spelled k s [])) ≡ Some ps → fits lists k s ≡ true
fits_from_run lists k s ps h = go (fits lists k s) (sym (fits_text lists k s) ∙ h)
  where
    go : (b : Bool) → also b (Some (last_point k s ∷ [])) ≡ Some ps → b ≡ true
    go true h = refl
    go false h = cc

pub whole : (k : TextKind) (ts : List Lexeme) → written ts ≡ true → (ps : List Point) → limited true (start k) (kinds ts) ≡ Some ps → is_at_end ps ≡ true → IsTextWithin k ts
whole k ts u ps h n =
    let r = begun k ts u ps (limited_run true (kinds ts) (start k) ps h) in
    let e : IsText k (tokens r.state []) = rw r.kind at (at_end r.state r.well (ap is_at_end r.places ∙ n)) in
    let same : ts ≡ spelled k e.0 [] = sym (append-nil ts) ∙ sym (r.same []) ∙ e.1 in
    let f = fits_from_run true k e.0 ps (ap (λ us. limited true (start k) (kinds us)) (sym same) ∙ h) in
    (e.0, fits_shallow true k e.0 f, fits_short k e.0 f, same)

-- the closers of a state, as a text of this kind
record Closed (k : TextKind) (s : State) : Type 0 where
  rest : List Lexeme
  text : Spelling k
  same : tokens s rest ≡ spelled k text []
  unlimited : (lists : Bool) → run (state_points s) (kinds rest) ≡ Some (last_point k text ∷ []) → limited lists (state_points s) (kinds rest) ≡ Some (last_point k text ∷ [])

closed : (s : State) → WellState s → Closed (state_kind s) s
closed s w =
    let c = state_ends s w in
    record { rest = c.rest; text = c.text; same = c.whole; unlimited = c.unlimited }

pub begins : (k : TextKind) (ts : List Lexeme) → written ts ≡ true → (ps : List Point) → run (start k) (kinds ts) ≡ Some ps → BeginsText k ts
begins k ts u ps h =
    let r = begun k ts u ps h in
    let c = subst (λ k. Closed k r.state) r.kind (closed r.state r.well) in
    (c.text, c.rest, sym c.same ∙ r.same c.rest)

-- a text within the limits that were asked begins with these tokens
begins_fitting : (lists : Bool) (k : TextKind) (ts : List Lexeme) → written ts ≡ true → (ps : List Point) → limited lists (start k) (kinds ts) ≡ Some ps → (s : Spelling k) × (rest : List Lexeme) × (fits lists k s ≡ true) × (spelled k s [] ≡ ts ++ rest)
begins_fitting lists k ts u ps h =
    let h' = limited_run lists (kinds ts) (start k) ps h in
    let r = begun k ts u ps h' in
    let c = subst (λ k. Closed k r.state) r.kind (closed r.state r.well) in
    let same : spelled k c.text [] ≡ ts ++ c.rest = sym c.same ∙ r.same c.rest in
    let joined : kinds (spelled k c.text []) ≡ kinds ts ++ kinds c.rest = ap kinds same ∙ map-append kind_of ts c.rest in
    let by_run : run ps (kinds c.rest) ≡ Some (last_point k c.text ∷ []) = ap (option_and_then (λ qs. run qs (kinds c.rest))) (sym h') ∙ sym (run-append (kinds ts) (kinds c.rest) (start k)) ∙ ap (run (start k)) (sym joined) ∙ reads_text k c.text in
    let free : limited lists ps (kinds c.rest) ≡ Some (last_point k c.text ∷ []) = ap (λ qs. limited lists qs (kinds c.rest)) (sym r.places) ∙ c.unlimited lists (ap (λ qs. run qs (kinds c.rest)) r.places ∙ by_run) in
    let by_limited : limited lists (start k) (kinds (spelled k c.text [])) ≡ Some (last_point k c.text ∷ []) = ap (limited lists (start k)) joined ∙ limited-append lists (kinds ts) (kinds c.rest) (start k) ∙ ap (option_and_then (λ qs. limited lists qs (kinds c.rest))) h ∙ free in
    (c.text, c.rest, fits_from_run lists k c.text (last_point k c.text ∷ []) by_limited, same)

pub begins_within : (k : TextKind) (ts : List Lexeme) → written ts ≡ true → (ps : List Point) → limited true (start k) (kinds ts) ≡ Some ps → BeginsWithin k ts
begins_within k ts u ps h =
    let b = begins_fitting true k ts u ps h in
    (b.0, b.1, fits_shallow true k b.0 b.2, fits_short k b.0 b.2, b.3)

pub begins_shallow : (k : TextKind) (ts : List Lexeme) → written ts ≡ true → (ps : List Point) → limited false (start k) (kinds ts) ≡ Some ps → BeginsShallow k ts
begins_shallow k ts u ps h =
    let b = begins_fitting false k ts u ps h in
    (b.0, b.1, fits_shallow false k b.0 b.2, b.3)

pub begins_none : (k : TextKind) (ts : List Lexeme) → run (start k) (kinds ts) ≡ None → ¬ BeginsText k ts
begins_none k ts h b =
    let joined : kinds (spelled k b.0 []) ≡ kinds ts ++ kinds b.1 = ap kinds b.2 ∙ map-append kind_of ts b.1 in
    let failed : run (start k) (kinds (spelled k b.0 [])) ≡ None = ap (run (start k)) joined ∙ run-append (kinds ts) (kinds b.1) (start k) ∙ ap (option_and_then (λ qs. run qs (kinds b.1))) h in
    let e = reads_text k b.0 in
    cc

-- no text within the limits that were asked begins with these tokens
begins_none_fitting : (lists : Bool) (k : TextKind) (ts : List Lexeme) (s : Spelling k) (rest : List Lexeme) → limited lists (start k) (kinds ts) ≡ None → fits lists k s ≡ true → spelled k s [] ≡ ts ++ rest → ⊥
begins_none_fitting lists k ts s rest h f same =
    let joined : kinds (spelled k s []) ≡ kinds ts ++ kinds rest = ap kinds same ∙ map-append kind_of ts rest in
    let failed : limited lists (start k) (kinds (spelled k s [])) ≡ None = ap (limited lists (start k)) joined ∙ limited-append lists (kinds ts) (kinds rest) (start k) ∙ ap (option_and_then (λ qs. limited lists qs (kinds rest))) h in
    let e = fits_text lists k s ∙ ap (λ v. also v (Some (last_point k s ∷ []))) f in
    cc

pub begins_none_within : (k : TextKind) (ts : List Lexeme) → limited true (start k) (kinds ts) ≡ None → ¬ BeginsWithin k ts
begins_none_within k ts h b = begins_none_fitting true k ts b.0 b.1 h (within_fits k b.0 b.2 b.3) b.4

pub begins_none_shallow : (k : TextKind) (ts : List Lexeme) → limited false (start k) (kinds ts) ≡ None → ¬ BeginsShallow k ts
begins_none_shallow k ts h b = begins_none_fitting false k ts b.0 b.1 h (shallow_fits k b.0 b.2) b.3

same_some : (ps qs : List Point) → Some ps ≡ Some qs → ps ≡ qs
same_some ps qs h = cc

pub not_whole : (k : TextKind) (ts : List Lexeme) (ps : List Point) → limited true (start k) (kinds ts) ≡ Some ps → is_at_end ps ≡ false → ¬ IsText k ts
not_whole k ts ps h n f =
    let a = limited_run true (kinds ts) (start k) ps h in
    let e = reads_text k f.0 in
    let same : run (start k) (kinds ts) ≡ run (start k) (kinds (spelled k f.0 [])) = ap (λ us. run (start k) (kinds us)) f.1 in
    let last : ps ≡ last_point k f.0 ∷ [] = same_some ps (last_point k f.0 ∷ []) (sym a ∙ same ∙ e) in
    let ends = sym n ∙ ap is_at_end last ∙ text_ends k f.0 in
    cc

written-take : (n : ℕ) (ts : List Lexeme) → written ts ≡ true → written (take n ts) ≡ true
written-take zero ts u = refl
written-take (suc n) [] u = refl
written-take (suc n) (t ∷ ts) u =
    let a = and_both (is_written t) (written ts) u in
    rw (a.0, written-take n ts a.1) refl

-- the answers, where the machine has taken the first i tokens
module _ (k : TextKind) (ts : List Lexeme) (u : written ts ≡ true) (ks : List Kind) (same : kinds ts ≡ ks) (i : ℕ) (x : Kind) (ps : List Point) (fits : i < length ks) (one : take (i + 1) ks ≡ take i ks ++ x ∷ []) (ran : limited true (start k) (take i ks) ≡ Some ps) where
  written_to : (n : ℕ) → written (take n ts) ≡ true
  written_to n = written-take n ts u

  in_text : i < length ts
  in_text = omega (arith, length-map ts kind_of, ap length same)

  up_to : limited true (start k) (kinds (take i ts)) ≡ Some ps
  up_to = ap (limited true (start k)) (sym (take-map kind_of i ts) ∙ ap (take i) same) ∙ ran

  one_further : kinds (take (i + 1) ts) ≡ take i ks ++ x ∷ []
  one_further = sym (take-map kind_of (i + 1) ts) ∙ ap (take (i + 1)) same ∙ one

  run_further : run (start k) (kinds (take (i + 1) ts)) ≡ option_and_then (λ qs. Some qs) (next ps x)
  run_further =
      ap (run (start k)) one_further ∙ run-append (take i ks) (x ∷ []) (start k) ∙ ap (option_and_then (λ qs. run qs (x ∷ []))) (limited_run true (take i ks) (start k) ps ran)

  limited_further : (lists : Bool) → limited lists (start k) (take i ks) ≡ Some ps → limited lists (start k) (kinds (take (i + 1) ts)) ≡ cond (allowed lists ps x) (option_and_then (λ qs. Some qs) (next ps x)) None
  limited_further lists ran =
      ap (limited lists (start k)) one_further ∙ limited-append lists (take i ks) (x ∷ []) (start k) ∙ ap (option_and_then (λ qs. limited lists qs (x ∷ []))) ran

  by_depth : limited false (start k) (kinds (take (i + 1) ts)) ≡ cond (is_shallow ps x) (option_and_then (λ qs. Some qs) (next ps x)) None
  by_depth = limited_further false (fewer_limits (take i ks) (start k) ps ran) ∙ unasked (has_room ps x) (is_shallow ps x) (option_and_then (λ qs. Some qs) (next ps x))
    where
      unasked : (a b : Bool) (x : Option (List Point)) → cond ((a || true) && b) x None ≡ cond b x None
      unasked true b x = refl
      unasked false b x = refl

  pub answers_unexpected : next ps x ≡ None → ShapeIs k ts (Err (Unexpected i))
  answers_unexpected h = (in_text, begins_within k (take i ts) (written_to i) ps up_to, begins_none k (take (i + 1) ts) (run_further ∙ ap (option_and_then (λ qs. Some qs)) h))

  pub answers_too_deep : (qs : List Point) → next ps x ≡ Some qs → is_shallow ps x ≡ false → ShapeIs k ts (Err (TooDeep i))
  answers_too_deep qs h n =
      (in_text, begins_within k (take i ts) (written_to i) ps up_to, begins k (take (i + 1) ts) (written_to (i + 1)) qs (run_further ∙ ap (option_and_then (λ qs. Some qs)) h), begins_none_shallow k (take (i + 1) ts) (by_depth ∙ ap (λ b. cond b (option_and_then (λ qs. Some qs) (next ps x)) None) n))

  pub answers_too_many : (qs : List Point) → next ps x ≡ Some qs → is_shallow ps x ≡ true → has_room ps x ≡ false → ShapeIs k ts (Err (TooMany i))
  answers_too_many qs h s n =
      (in_text, begins_within k (take i ts) (written_to i) ps up_to, begins_shallow k (take (i + 1) ts) (written_to (i + 1)) qs (by_depth ∙ ap (λ b. cond b (option_and_then (λ qs. Some qs) (next ps x)) None) s ∙ ap (option_and_then (λ qs. Some qs)) h), begins_none_within k (take (i + 1) ts) (limited_further true ran ∙ ap (λ b. cond ((b || false) && is_shallow ps x) (option_and_then (λ qs. Some qs) (next ps x)) None) n))

pub limited_more : (k : TextKind) (ks : List Kind) (i : ℕ) (x : Kind) (ps qs : List Point) → take (i + 1) ks ≡ take i ks ++ x ∷ [] → limited true (start k) (take i ks) ≡ Some ps → next ps x ≡ Some qs → is_shallow ps x ≡ true → has_room ps x ≡ true → limited true (start k) (take (i + 1) ks) ≡ Some qs
limited_more k ks i x ps qs one ran h s r =
    ap (limited true (start k)) one ∙ limited-append true (take i ks) (x ∷ []) (start k) ∙ ap (option_and_then (λ rs. limited true rs (x ∷ []))) ran ∙ one_more (has_room ps x) (is_shallow ps x) (next ps x) r s h
  where
    one_more : (a b : Bool) (o : Option (List Point)) → a ≡ true → b ≡ true → o ≡ Some qs → cond ((a || false) && b) (option_and_then (λ rs. Some rs) o) None ≡ Some qs
    one_more a b o p q r = rw (p, q, r) refl

-- the answers where all tokens were taken
pub answers_whole : (k : TextKind) (ts : List Lexeme) → written ts ≡ true → (ps : List Point) → limited true (start k) (kinds ts) ≡ Some ps → is_at_end ps ≡ true → IsTextWithin k ts
answers_whole k ts u ps h e = whole k ts u ps h e

pub answers_unfinished : (k : TextKind) (ts : List Lexeme) → written ts ≡ true → (ps : List Point) → limited true (start k) (kinds ts) ≡ Some ps → is_at_end ps ≡ false → ShapeIs k ts (Err Unfinished)
answers_unfinished k ts u ps h e =
    (begins_within k ts u ps h, not_whole k ts ps h e)

-- a text within the limits is refused only for want of memory
pub accepts_within : (k : TextKind) (ts : List Lexeme) (r : Result (Unit {0}) ShapeFault) → ShapeIs k ts r → IsTextWithin k ts → IfErr r (λ e. e ≡ Memory)
accepts_within k ts (Ok u) a w = tt
accepts_within k ts (Err Memory) a w = refl
accepts_within k ts (Err (Unexpected i)) a w = absurd (a.2 (w.0, drop (i + 1) ts, sym w.3 ∙ sym (take-append-drop (i + 1) ts)))
accepts_within k ts (Err (TooDeep i)) a w = absurd (a.3 (w.0, drop (i + 1) ts, w.1, sym w.3 ∙ sym (take-append-drop (i + 1) ts)))
accepts_within k ts (Err (TooMany i)) a w = absurd (a.3 (w.0, drop (i + 1) ts, w.1, w.2, sym w.3 ∙ sym (take-append-drop (i + 1) ts)))
accepts_within k ts (Err Unfinished) a w = absurd (a.1 (w.0, w.3))
