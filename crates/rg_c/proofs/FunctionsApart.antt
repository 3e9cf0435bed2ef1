-- Functions of headers have different names.
use Rattle.std.proofs.Common.{◌≡◌, ℕ, true, false, nat_eq, List, [], ◌∷◌, ◌++◌, get_or, refl, sym, ap, ◌∙◌, arith}
use Rattle.std.specs.Prelude.{codes}
use Rattle.std.specs.List.{starts_with, list_any}
use Rattle.std.proofs.lemmas.Bool.{or_parts, eqb-false}
use Rattle.rg_c.specs.Functions.{Function, asks_pre, asks_post, runs, goes_round, performs, role, stands_in, has_role, FunctionsStayApart}

-- what comes behind a title begins with `_`
begins : (g : Function) (k : ℕ) (r : List ℕ) → role g ≡ k ∷ r → k ≡ 95
begins asks_pre k r h = cc
begins asks_post k r h = cc
begins (runs q) k r h = cc
begins (goes_round q) k r h = cc
begins (performs q) k r h = cc

never_empty : (g : Function) → [] ≡ role g → ⊥
never_empty asks_pre h = absurd (cc)
never_empty asks_post h = absurd (cc)
never_empty (runs q) h = absurd (cc)
never_empty (goes_round q) h = absurd (cc)
never_empty (performs q) h = absurd (cc)

-- equal lists have equal members
at : (k : ℕ) (a b : List ℕ) → a ≡ b → get_or a k 0 ≡ get_or b k 0
at k a b h = ap (λ l. get_or l k 0) h

same_role : (f g : Function) → role f ≡ role g → f ≡ g
same_role asks_pre asks_pre h = refl
same_role asks_pre asks_post h = let e : 114 ≡ 111 = at 2 _ _ h in absurd (omega (arith, e))
same_role asks_pre (runs q) h = let e : 112 ≡ 114 = at 1 _ _ h in absurd (omega (arith, e))
same_role asks_pre (goes_round q) h = let e : 112 ≡ 114 = at 1 _ _ h in absurd (omega (arith, e))
same_role asks_pre (performs q) h = let e : 114 ≡ 101 = at 2 _ _ h in absurd (omega (arith, e))
same_role asks_post asks_pre h = let e : 111 ≡ 114 = at 2 _ _ h in absurd (omega (arith, e))
same_role asks_post asks_post h = refl
same_role asks_post (runs q) h = let e : 112 ≡ 114 = at 1 _ _ h in absurd (omega (arith, e))
same_role asks_post (goes_round q) h = let e : 112 ≡ 114 = at 1 _ _ h in absurd (omega (arith, e))
same_role asks_post (performs q) h = let e : 111 ≡ 101 = at 2 _ _ h in absurd (omega (arith, e))
same_role (runs p) asks_pre h = let e : 114 ≡ 112 = at 1 _ _ h in absurd (omega (arith, e))
same_role (runs p) asks_post h = let e : 114 ≡ 112 = at 1 _ _ h in absurd (omega (arith, e))
same_role (runs p) (runs q) h = let e : p ≡ q = cc in ap runs e
same_role (runs p) (goes_round q) h = let e : 117 ≡ 111 = at 2 _ _ h in absurd (omega (arith, e))
same_role (runs p) (performs q) h = let e : 114 ≡ 112 = at 1 _ _ h in absurd (omega (arith, e))
same_role (goes_round p) asks_pre h = let e : 114 ≡ 112 = at 1 _ _ h in absurd (omega (arith, e))
same_role (goes_round p) asks_post h = let e : 114 ≡ 112 = at 1 _ _ h in absurd (omega (arith, e))
same_role (goes_round p) (runs q) h = let e : 111 ≡ 117 = at 2 _ _ h in absurd (omega (arith, e))
same_role (goes_round p) (goes_round q) h = let e : p ≡ q = cc in ap goes_round e
same_role (goes_round p) (performs q) h = let e : 114 ≡ 112 = at 1 _ _ h in absurd (omega (arith, e))
same_role (performs p) asks_pre h = let e : 101 ≡ 114 = at 2 _ _ h in absurd (omega (arith, e))
same_role (performs p) asks_post h = let e : 101 ≡ 111 = at 2 _ _ h in absurd (omega (arith, e))
same_role (performs p) (runs q) h = let e : 112 ≡ 114 = at 1 _ _ h in absurd (omega (arith, e))
same_role (performs p) (goes_round q) h = let e : 112 ≡ 114 = at 1 _ _ h in absurd (omega (arith, e))
same_role (performs p) (performs q) h = let e : p ≡ q = cc in ap performs e

-- none of the texts stands in a title
abbrev Plain : List ℕ → Type 0
Plain t = (stands_in (codes "_run") t ≡ false) × (stands_in (codes "_round") t ≡ false) × (stands_in (codes "_perform") t ≡ false)

plain_rest : (c : ℕ) (t : List ℕ) → Plain (c ∷ t) → Plain t
plain_rest c t h =
    ((or_parts _ _ h.0).1, (or_parts _ _ h.1).1, (or_parts _ _ h.2).1)

-- a text without `_` has no such end
no_end : (u : List ℕ) (g : Function) (l : List ℕ) → l ≡ u ++ role g → list_any (λ k. nat_eq 95 k) l ≡ false → ⊥
no_end [] g [] h e = never_empty g h
no_end [] g (k ∷ l) h e =
    let other = eqb-false _ _ (or_parts _ _ e).0 in
    other (sym (begins g k l (sym h)))
no_end (c ∷ u) g [] h e = absurd (cc)
no_end (c ∷ u) g (k ∷ l) h e =
    let rest : l ≡ u ++ role g = cc in
    no_end u g l rest (or_parts _ _ e).1

run_found : (u : List ℕ) → stands_in (codes "_run") (95 ∷ 114 ∷ 117 ∷ 110 ∷ u) ≡ true
run_found u = refl

round_found : (u : List ℕ) → stands_in (codes "_round") (95 ∷ 114 ∷ 111 ∷ 117 ∷ 110 ∷ 100 ∷ u) ≡ true
round_found u = refl

perform_found : (u : List ℕ) → stands_in (codes "_perform") (95 ∷ 112 ∷ 101 ∷ 114 ∷ 102 ∷ 111 ∷ 114 ∷ 109 ∷ u) ≡ true
perform_found u = refl

-- a title that is longer by some letters, the first ones of the other one's function
longer_run : (c : ℕ) (u p : List ℕ) (g : Function) → Plain (c ∷ u) → 95 ∷ 114 ∷ 117 ∷ 110 ∷ 95 ∷ p ≡ (c ∷ u) ++ role g → ⊥
longer_run c [] p g plain h =
    let b : 114 ≡ 95 = begins g 114 (117 ∷ 110 ∷ 95 ∷ p) (cc) in absurd (omega (arith, b))
longer_run c (a ∷ []) p g plain h =
    let b : 117 ≡ 95 = begins g 117 (110 ∷ 95 ∷ p) (cc) in absurd (omega (arith, b))
longer_run c (a ∷ b ∷ []) p g plain h =
    let b : 110 ≡ 95 = begins g 110 (95 ∷ p) (cc) in absurd (omega (arith, b))
longer_run c (a ∷ b ∷ d ∷ u) p g plain h =
    let same : c ∷ a ∷ b ∷ d ∷ u ≡ 95 ∷ 114 ∷ 117 ∷ 110 ∷ u = cc in
    let never : true ≡ false = sym (ap (stands_in (codes "_run")) same ∙ run_found u) ∙ plain.0 in
    absurd (cc)

longer_round : (c : ℕ) (u p : List ℕ) (g : Function) → Plain (c ∷ u) → 95 ∷ 114 ∷ 111 ∷ 117 ∷ 110 ∷ 100 ∷ 95 ∷ p ≡ (c ∷ u) ++ role g → ⊥
longer_round c [] p g plain h =
    let b : 114 ≡ 95 = begins g 114 (111 ∷ 117 ∷ 110 ∷ 100 ∷ 95 ∷ p) (cc) in absurd (omega (arith, b))
longer_round c (a ∷ []) p g plain h =
    let b : 111 ≡ 95 = begins g 111 (117 ∷ 110 ∷ 100 ∷ 95 ∷ p) (cc) in absurd (omega (arith, b))
longer_round c (a ∷ b ∷ []) p g plain h =
    let b : 117 ≡ 95 = begins g 117 (110 ∷ 100 ∷ 95 ∷ p) (cc) in absurd (omega (arith, b))
longer_round c (a ∷ b ∷ d ∷ []) p g plain h =
    let b : 110 ≡ 95 = begins g 110 (100 ∷ 95 ∷ p) (cc) in absurd (omega (arith, b))
longer_round c (a ∷ b ∷ d ∷ e ∷ []) p g plain h =
    let b : 100 ≡ 95 = begins g 100 (95 ∷ p) (cc) in absurd (omega (arith, b))
longer_round c (a ∷ b ∷ d ∷ e ∷ i ∷ u) p g plain h =
    let same : c ∷ a ∷ b ∷ d ∷ e ∷ i ∷ u ≡ 95 ∷ 114 ∷ 111 ∷ 117 ∷ 110 ∷ 100 ∷ u = cc in
    let never : true ≡ false = sym (ap (stands_in (codes "_round")) same ∙ round_found u) ∙ plain.1 in
    absurd (cc)

longer_perform : (c : ℕ) (u p : List ℕ) (g : Function) → Plain (c ∷ u) → 95 ∷ 112 ∷ 101 ∷ 114 ∷ 102 ∷ 111 ∷ 114 ∷ 109 ∷ 95 ∷ p ≡ (c ∷ u) ++ role g → ⊥
longer_perform c [] p g plain h =
    let q : 112 ≡ 95 = begins g 112 (101 ∷ 114 ∷ 102 ∷ 111 ∷ 114 ∷ 109 ∷ 95 ∷ p) (cc) in absurd (omega (arith, q))
longer_perform c (a ∷ []) p g plain h =
    let q : 101 ≡ 95 = begins g 101 (114 ∷ 102 ∷ 111 ∷ 114 ∷ 109 ∷ 95 ∷ p) (cc) in absurd (omega (arith, q))
longer_perform c (a ∷ b ∷ []) p g plain h =
    let q : 114 ≡ 95 = begins g 114 (102 ∷ 111 ∷ 114 ∷ 109 ∷ 95 ∷ p) (cc) in absurd (omega (arith, q))
longer_perform c (a ∷ b ∷ d ∷ []) p g plain h =
    let q : 102 ≡ 95 = begins g 102 (111 ∷ 114 ∷ 109 ∷ 95 ∷ p) (cc) in absurd (omega (arith, q))
longer_perform c (a ∷ b ∷ d ∷ e ∷ []) p g plain h =
    let q : 111 ≡ 95 = begins g 111 (114 ∷ 109 ∷ 95 ∷ p) (cc) in absurd (omega (arith, q))
longer_perform c (a ∷ b ∷ d ∷ e ∷ i ∷ []) p g plain h =
    let q : 114 ≡ 95 = begins g 114 (109 ∷ 95 ∷ p) (cc) in absurd (omega (arith, q))
longer_perform c (a ∷ b ∷ d ∷ e ∷ i ∷ j ∷ []) p g plain h =
    let q : 109 ≡ 95 = begins g 109 (95 ∷ p) (cc) in absurd (omega (arith, q))
longer_perform c (a ∷ b ∷ d ∷ e ∷ i ∷ j ∷ k ∷ u) p g plain h =
    let same : c ∷ a ∷ b ∷ d ∷ e ∷ i ∷ j ∷ k ∷ u ≡ 95 ∷ 112 ∷ 101 ∷ 114 ∷ 102 ∷ 111 ∷ 114 ∷ 109 ∷ u = cc in
    let never : true ≡ false = sym (ap (stands_in (codes "_perform")) same ∙ perform_found u) ∙ plain.2 in
    absurd (cc)

longer : (c : ℕ) (u : List ℕ) (f g : Function) → Plain (c ∷ u) → role f ≡ (c ∷ u) ++ role g → ⊥
longer c u asks_pre g plain h = let rest : 112 ∷ 114 ∷ 101 ∷ [] ≡ u ++ role g = cc in no_end u g (112 ∷ 114 ∷ 101 ∷ []) rest refl
longer c u asks_post g plain h = let rest : 112 ∷ 111 ∷ 115 ∷ 116 ∷ [] ≡ u ++ role g = cc in no_end u g (112 ∷ 111 ∷ 115 ∷ 116 ∷ []) rest refl
longer c u (runs p) g plain h = longer_run c u p g plain h
longer c u (goes_round p) g plain h = longer_round c u p g plain h
longer c u (performs p) g plain h = longer_perform c u p g plain h

apart : (t u : List ℕ) (f g : Function) → Plain t → Plain u → t ++ role f ≡ u ++ role g → (t ≡ u) × (f ≡ g)
apart [] [] f g a b h = (refl, same_role f g h)
apart [] (c ∷ u) f g a b h = absurd (longer c u f g b h)
apart (c ∷ t) [] f g a b h = absurd (longer c t g f a (sym h))
apart (c ∷ t) (d ∷ u) f g a b h =
    let first : c ≡ d = cc in
    let rest : t ++ role f ≡ u ++ role g = cc in
    let both = apart t u f g (plain_rest c t a) (plain_rest d u b) rest in
    let e = both.0 in
    let q : c ∷ t ≡ d ∷ u = cc in
    (q, both.1)

-- a title without a role has none of the texts in it
plain_title : (t : List ℕ) → has_role t ≡ false → Plain t
plain_title t h =
    let parts = or_parts _ _ h in
    let first = or_parts _ _ parts.0 in
    (first.0, first.1, parts.1)

pub functions_stay_apart : FunctionsStayApart
functions_stay_apart t u f g a b h =
    apart t u f g (plain_title t a) (plain_title u b) h
