-- Equations of rows, and conjunctions.
use Rattle.std.proofs.Common.{◌≡◌, ◌<◌, ◌+◌, ℕ, List, [], ◌∷◌, ◌++◌, length, map, take, get_or, refl, ap, sym, ◌∙◌, append_assoc, append-nil, arith}
use Rattle.std.proofs.lemmas.List.{map-append, length-map, length-take-le}
use Rattle.std.proofs.lemmas.Grind.{take_at_read}
use Rattle.rg_words.specs.declared.operators.Connective.TheVariants.{And}
use Rattle.rg_tree.specs.declared.tree.Expr.{Expr}
use Rattle.rg_tree.specs.Trees.{Expression, Proposition, connected}
use Rattle.rg_tree.specs.declared.tree.Formula.{Formula}
use Rattle.rg_tree.specs.View.{expression, formula}
use Rattle.rgc_answers.specs.Equations.{equation, equations, conjunction}

-- one word more
equations_more : (as_ bs : List Expression) (a b : Expression) → length as_ ≡ length bs → equations (as_ ++ a ∷ []) (bs ++ b ∷ []) ≡ equations as_ bs ++ equation a b
equations_more [] [] a b e = append-nil (equation a b)
equations_more (x ∷ xs) (y ∷ ys) a b e =
    ap (λ l. equation x y ++ l) (equations_more xs ys a b (omega (arith, e))) ∙ sym (append_assoc (equation x y) (equations xs ys) (equation a b))
equations_more [] (y ∷ ys) a b e = absurd (omega (arith, e))
equations_more (x ∷ xs) [] a b e = absurd (omega (arith, e))

-- the expressions up to a place, and the one there
row_taken : (xs : List Expr) (i : ℕ) (x : Expr) → i < length xs → x ≡ get_or xs i x → map expression (take (i + 1) xs) ≡ map expression (take i xs) ++ expression x ∷ []
row_taken xs i x less is =
    ap (λ l. map expression l) ((take_at_read xs i x less).1)
    ∙ map-append expression (take i xs) (get_or xs i x ∷ [])
    ∙ ap (λ y. map expression (take i xs) ++ expression y ∷ []) (sym is)

row_counted : (xs : List Expr) (i : ℕ) → i < length xs → length (map expression (take i xs)) ≡ i
row_counted xs i less = length-map (take i xs) expression ∙ length-take-le i xs (omega (arith, less))

pub equations_taken : (xs ys : List Expr) (i : ℕ) (x y : Expr) → i < length xs → i < length ys → x ≡ get_or xs i x → y ≡ get_or ys i y
    → equations (map expression (take (i + 1) xs)) (map expression (take (i + 1) ys)) ≡ equations (map expression (take i xs)) (map expression (take i ys)) ++ equation (expression x) (expression y)
equations_taken xs ys i x y less small is_x is_y =
    rw (row_taken xs i x less is_x, row_taken ys i y small is_y)
    (equations_more (map expression (take i xs)) (map expression (take i ys)) (expression x) (expression y) (row_counted xs i less ∙ sym (row_counted ys i small)))

-- the last two of a conjunction, joined
pub conjunction_last : (fs : List Proposition) (f g : Proposition) → conjunction (fs ++ connected And f g ∷ []) ≡ conjunction (fs ++ f ∷ g ∷ [])
conjunction_last [] f g = refl
conjunction_last (x ∷ []) f g = refl
conjunction_last (x ∷ y ∷ fs) f g = ap (λ r. connected And x r) (conjunction_last (y ∷ fs) f g)

-- the last formula is taken from the list
pub joined_first : (all rest : List Formula) (last : Formula) → all ≡ rest ++ last ∷ [] → conjunction (map formula rest ++ formula last ∷ []) ≡ conjunction (map formula all)
joined_first all rest last is = ap (λ l. conjunction l) (sym (ap (λ l. map formula l) is ∙ map-append formula rest (last ∷ [])))

-- and joined with those after it
pub joined_step : (all rest : List Formula) (before whole next : Formula) (start : Proposition) → all ≡ rest ++ before ∷ [] → formula next ≡ connected And (formula before) (formula whole)
    → conjunction (map formula all ++ formula whole ∷ []) ≡ start → conjunction (map formula rest ++ formula next ∷ []) ≡ start
joined_step all rest before whole next start is joined so_far =
    ap (λ f. conjunction (map formula rest ++ f ∷ [])) joined
    ∙ conjunction_last (map formula rest) (formula before) (formula whole)
    ∙ ap (λ l. conjunction l) (sym (ap (λ l. map formula l ++ formula whole ∷ []) is
    ∙ ap (λ l. l ++ formula whole ∷ []) (map-append formula rest (before ∷ []))
    ∙ append_assoc (map formula rest) (formula before ∷ []) (formula whole ∷ [])))
    ∙ so_far
