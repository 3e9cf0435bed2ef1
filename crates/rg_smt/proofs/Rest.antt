-- Words and assignments, one by one: the first of those that are left, and the rest.
use Rattle.std.proofs.Common.{◌≡◌, ◌∙◌, ℕ, suc, ◌+◌, ◌-◌, ◌<◌, List, [], ◌∷◌, ◌++◌, length, map, take, drop, get_or, refl, ap, sym, arith}
use Rattle.std.proofs.lemmas.List.{take_more, drop_more, map-append}
use Rattle.rg_tree.specs.declared.condition.Assign.{Assign}
use Rattle.rg_tree.specs.ConditionTrees.{assignment}
use Rattle.rg_words.specs.Layout.{Word}
use Rattle.rg_smt.specs.Symbols.{Reading, done}
use Rattle.rg_smt.specs.Scripts.{declaration, second_declaration, declarations, definition, definitions, kept, unchanged}

pub declarations_next : (words : List Word) (r : Reading) (k n : ℕ) → k < n →
    declarations words r k (n - k) ≡ declaration words (done []) k ++ (second_declaration words r k ++ declarations words r (k + 1) (n - (k + 1)))
declarations_next words r k n less = ap (declarations words r k) count
  where
    count : n - k ≡ suc (n - (k + 1))
    count = omega (arith, less)

pub unchanged_next : (words : List Word) (r : Reading) (k n : ℕ) → k < n → unchanged words r k (n - k) ≡ kept words r k ++ unchanged words r (k + 1) (n - (k + 1))
unchanged_next words r k n less = ap (unchanged words r k) count
  where
    count : n - k ≡ suc (n - (k + 1))
    count = omega (arith, less)

pub definitions_next : (words : List Word) (act : List Assign) (i : ℕ) (a : Assign) → i < length act → a ≡ get_or act i a →
    definitions words (map assignment (take i act)) (map assignment (drop i act))
    ≡ definition words (map assignment (take i act)) (assignment a) ++ definitions words (map assignment (take (i + 1) act)) (map assignment (drop (i + 1) act))
definitions_next words act i a less is =
    let dropped : drop i act ≡ a ∷ drop (i + 1) act = drop_more act i a less ∙ ap (λ (x : Assign). x ∷ drop (i + 1) act) (sym is) in
    let taken : take (i + 1) act ≡ take i act ++ a ∷ [] = take_more act i a less ∙ ap (λ (x : Assign). take i act ++ x ∷ []) (sym is) in
    let mapped : map assignment (take (i + 1) act) ≡ map assignment (take i act) ++ assignment a ∷ [] =
    ap (map assignment) taken ∙ map-append assignment (take i act) (a ∷ []) in
    rw (dropped, mapped) refl
