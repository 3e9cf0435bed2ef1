-- what the connectives on literals mean
use Rattle.std.proofs.Common.{◌≡◌, ◌≤◌, Bool, true, false, not, ◌&&◌, ◌||◌, cond, List, refl, sym, ap, ◌∙◌}
use Rattle.rg_gates.specs.declared.Lit.{Lit}
use Rattle.rg_gates.specs.declared.Lit.TheVariants.{True, False, Variable}
use Rattle.rg_gates.specs.Circuit.{Circuit, variable_count, negation, lit_value}
use Rattle.rg_gates.specs.And.{and_of}
use Rattle.rg_gates.proofs.Meaning.{and_extends, and_value}
use Rattle.rg_rows.specs.Literals.{or_of, xor_of, pick_of, implies_of, iff_of}
use Rattle.rg_rows.proofs.Means.{Means, give-means, then-means, weaker-means, grows-means}

not-twice : (b : Bool) → not (not b) ≡ b
not-twice true = refl
not-twice false = refl

pub negation_value : (values : List Bool) (l : Lit) → lit_value values (negation l) ≡ not (lit_value values l)
negation_value values True = refl
negation_value values False = refl
negation_value values (Variable n true) = sym (not-twice _)
negation_value values (Variable n false) = refl

-- the literal has this value
abbrev pub IsValue : (List Bool → Bool) → List Bool → Lit → Type 0
IsValue f values l = lit_value values l ≡ f values

pub and-means : (a b : Lit) → Means (and_of a b) (IsValue (λ v. lit_value v a && lit_value v b))
and-means a b = record { extends = and_extends a b; value = and_value a b }

or_by_and : (x y : Bool) → not (not x && not y) ≡ (x || y)
or_by_and true y = refl
or_by_and false true = refl
or_by_and false false = refl

pub or-means : (a b : Lit) → Means (or_of a b) (IsValue (λ v. lit_value v a || lit_value v b))
unfolding or_of
or-means a b = then-means (and_of (negation a) (negation b)) _ _ _ (and-means (negation a) (negation b)) (λ c. give-means (negation c) _ (λ v e.
    negation_value v c ∙ ap not e ∙ ap (λ x. not (x && lit_value v (negation b))) (negation_value v a) ∙ ap (λ x. not (not (lit_value v a) && x)) (negation_value v b)
    ∙ or_by_and (lit_value v a) (lit_value v b)))

abbrev pub differ : Bool → Bool → Bool
differ true b = not b
differ false b = b

xor_by_and : (x y : Bool) → ((x && not y) || (not x && y)) ≡ differ x y
xor_by_and true true = refl
xor_by_and true false = refl
xor_by_and false y = refl

pub xor-means : (a b : Lit) → Means (xor_of a b) (IsValue (λ v. differ (lit_value v a) (lit_value v b)))
unfolding xor_of
xor-means a b =
    then-means (and_of a (negation b)) _ _ _ (and-means a (negation b)) (λ p.
    then-means (and_of (negation a) b) _ _ _ (and-means (negation a) b) (λ q.
    weaker-means (or_of p q) _ _ (λ v l e g f.
    e ∙ ap (λ x. x || lit_value v q) f ∙ ap (λ x. (lit_value v a && lit_value v (negation b)) || x) g
    ∙ ap (λ x. (lit_value v a && x) || (lit_value v (negation a) && lit_value v b)) (negation_value v b)
    ∙ ap (λ x. (lit_value v a && not (lit_value v b)) || (x && lit_value v b)) (negation_value v a)
    ∙ xor_by_and (lit_value v a) (lit_value v b)) (or-means p q)))

pick_by_and : (x y z : Bool) → ((x && y) || (not x && z)) ≡ cond x y z
pick_by_and true true z = refl
pick_by_and true false z = refl
pick_by_and false y z = refl

pub pick-means : (c a b : Lit) → Means (pick_of c a b) (IsValue (λ v. cond (lit_value v c) (lit_value v a) (lit_value v b)))
unfolding pick_of
pick-means c a b =
    then-means (and_of c a) _ _ _ (and-means c a) (λ p.
    then-means (and_of (negation c) b) _ _ _ (and-means (negation c) b) (λ q.
    weaker-means (or_of p q) _ _ (λ v l e g f.
    e ∙ ap (λ x. x || lit_value v q) f ∙ ap (λ x. (lit_value v c && lit_value v a) || x) g
    ∙ ap (λ x. (lit_value v c && lit_value v a) || (x && lit_value v b)) (negation_value v c)
    ∙ pick_by_and (lit_value v c) (lit_value v a) (lit_value v b)) (or-means p q)))

implies_by_and : (x y : Bool) → not (x && not y) ≡ (not x || y)
implies_by_and true true = refl
implies_by_and true false = refl
implies_by_and false y = refl

pub implies-means : (a b : Lit) → Means (implies_of a b) (IsValue (λ v. not (lit_value v a) || lit_value v b))
unfolding implies_of
implies-means a b = then-means (and_of a (negation b)) _ _ _ (and-means a (negation b)) (λ c. give-means (negation c) _ (λ v e.
    negation_value v c ∙ ap not e ∙ ap (λ x. not (lit_value v a && x)) (negation_value v b) ∙ implies_by_and (lit_value v a) (lit_value v b)))

iff_by_xor : (x y : Bool) → not (differ x y) ≡ cond x y (not y)
iff_by_xor true y = not-twice y
iff_by_xor false y = refl

pub iff-means : (a b : Lit) → Means (iff_of a b) (IsValue (λ v. cond (lit_value v a) (lit_value v b) (not (lit_value v b))))
unfolding iff_of
iff-means a b = then-means (xor_of a b) _ _ _ (xor-means a b) (λ x. give-means (negation x) _ (λ v e.
    negation_value v x ∙ ap not e ∙ iff_by_xor (lit_value v a) (lit_value v b)))

pub and-grows : (a b : Lit) (c : Circuit) → variable_count c ≤ variable_count (and_of a b c).1
and-grows a b c = grows-means (and_of a b) _ (and-means a b) c

pub or-grows : (a b : Lit) (c : Circuit) → variable_count c ≤ variable_count (or_of a b c).1
or-grows a b c = grows-means (or_of a b) _ (or-means a b) c

pub xor-grows : (a b : Lit) (c : Circuit) → variable_count c ≤ variable_count (xor_of a b c).1
xor-grows a b c = grows-means (xor_of a b) _ (xor-means a b) c

pub pick-grows : (s a b : Lit) (c : Circuit) → variable_count c ≤ variable_count (pick_of s a b c).1
pick-grows s a b c = grows-means (pick_of s a b) _ (pick-means s a b) c

pub implies-grows : (a b : Lit) (c : Circuit) → variable_count c ≤ variable_count (implies_of a b c).1
implies-grows a b c = grows-means (implies_of a b) _ (implies-means a b) c
