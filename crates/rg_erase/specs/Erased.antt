-- A program without some of its words. For each word, in the order of declaration, a flag says whether it is erased; a word without a flag stays.
use Rattle.std.specs.Prelude.{ℕ, zero, suc, Bool, true, false, not, List, [], ◌∷◌, ◌++◌, get_or, map, Option, Some, None, is_none, is_some, if◌then◌else◌}
use Rattle.std.specs.List.{filter}
use Rattle.rg_words.specs.Layout.{Word}
use Rattle.rg_words.specs.declared.operators.Connective.TheVariants.{And}
use Rattle.rg_tree.specs.Trees.{Expression, Proposition, Assignment, number, word, next_word, inverse, binary, shifted, choice, truth, negation, connected, compared}
use Rattle.rg_tree.specs.Statements.{Statement, skip, assign, await, sequence, branch, loop, Items, one, more, Specification, PartTree, ProgramTree}

-- what stays of a list with an entry for each word
abbrev pub staying : {A : Type 0} → List Bool → List A → List A
staying [] xs = xs
staying (e ∷ es) [] = []
staying (true ∷ es) (x ∷ xs) = staying es xs
staying (false ∷ es) (x ∷ xs) = x ∷ staying es xs

-- the place of a word among those that stay
abbrev pub new_place : List Bool → ℕ → ℕ
new_place [] k = k
new_place (e ∷ es) zero = zero
new_place (true ∷ es) (suc k) = new_place es k
new_place (false ∷ es) (suc k) = suc (new_place es k)

-- whether a word is erased
abbrev pub is_erased : List Bool → ℕ → Bool
is_erased erased k = get_or erased k false

-- the word itself, where its flag is set
abbrev pub flagged : List Bool → ℕ → Option ℕ
flagged flags k = if get_or flags k false then Some k else None

-- the first of two that is there
abbrev pub first_of : {A : Type 0} → Option A → Option A → Option A
first_of None o = o
first_of (Some x) o = Some x

-- the first word in a tree, from left to right, that has the first flag, or is primed and has the second
abbrev mutual
  pub mentions : List Bool → List Bool → Expression → Option ℕ
  mentions now next (number w n) = None
  mentions now next (word k) = flagged now k
  mentions now next (next_word k) = flagged next k
  mentions now next (inverse w a) = mentions now next a
  mentions now next (binary o w a b) = first_of (mentions now next a) (mentions now next b)
  mentions now next (shifted d w a k) = mentions now next a
  mentions now next (choice f a b) = first_of (speaks_of now next f) (first_of (mentions now next a) (mentions now next b))

  pub speaks_of : List Bool → List Bool → Proposition → Option ℕ
  speaks_of now next (truth b) = None
  speaks_of now next (negation f) = speaks_of now next f
  speaks_of now next (connected c f g) = first_of (speaks_of now next f) (speaks_of now next g)
  speaks_of now next (compared c a b) = first_of (mentions now next a) (mentions now next b)

-- a tree over the words that stay
abbrev mutual
  pub renamed : List Bool → Expression → Expression
  renamed erased (number w n) = number w n
  renamed erased (word k) = word (new_place erased k)
  renamed erased (next_word k) = next_word (new_place erased k)
  renamed erased (inverse w a) = inverse w (renamed erased a)
  renamed erased (binary o w a b) = binary o w (renamed erased a) (renamed erased b)
  renamed erased (shifted d w a k) = shifted d w (renamed erased a) k
  renamed erased (choice f a b) = choice (renamed_formula erased f) (renamed erased a) (renamed erased b)

  pub renamed_formula : List Bool → Proposition → Proposition
  renamed_formula erased (truth b) = truth b
  renamed_formula erased (negation f) = negation (renamed_formula erased f)
  renamed_formula erased (connected c f g) = connected c (renamed_formula erased f) (renamed_formula erased g)
  renamed_formula erased (compared c a b) = compared c (renamed erased a) (renamed erased b)

-- the conjuncts of a formula, in order
abbrev pub conjuncts : Proposition → List Proposition
conjuncts (connected And f g) = conjuncts f ++ conjuncts g
conjuncts f = f ∷ []

-- a formula, and these besides
abbrev pub and_all : Proposition → List Proposition → Proposition
and_all f [] = f
and_all f (g ∷ gs) = and_all (connected And f g) gs

-- these formulas as one
abbrev pub all_of : List Proposition → Proposition
all_of [] = truth true
all_of (f ∷ fs) = and_all f fs

-- those of these formulas that speak of no erased word, over the words that stay
abbrev pub kept_of : List Bool → List Proposition → List Proposition
kept_of erased fs = map (renamed_formula erased) (filter (λ f. is_none (speaks_of erased erased f)) fs)

-- the conjuncts of a formula that speak of no erased word
abbrev pub kept : List Bool → Proposition → Proposition
kept erased f = all_of (kept_of erased (conjuncts f))

-- the conjuncts of a formula that speak of erased words
abbrev pub lost : List Bool → Proposition → List Proposition
lost erased f = filter (λ g. is_some (speaks_of erased erased g)) (conjuncts f)

-- an assignment to a word that stays
abbrev pub renamed_assignment : List Bool → Assignment → Assignment
renamed_assignment erased a = record { target = new_place erased a.target; value = renamed erased a.value }

-- the assignments to words that stay
abbrev pub kept_assignments : List Bool → List Assignment → List Assignment
kept_assignments erased act = map (renamed_assignment erased) (filter (λ a. not (is_erased erased a.target)) act)

-- the formula is the constant true
abbrev pub is_always : Proposition → Bool
is_always (truth b) = b
is_always f = false

-- an await with these assignments; where there are none, one that gives this word its own value, or a skip where it needn't wait
abbrev pub awaiting : ℕ → ℕ → Proposition → List Assignment → Statement
awaiting own row b [] = if is_always b then skip row else await row b (record { target = own; value = word own } ∷ [])
awaiting own row b (a ∷ act) = await row b (a ∷ act)

-- a statement without the assignments to erased words; each keeps its line. A step that keeps no assignment gives this word its own value, or is a skip
abbrev mutual
  pub without : List Bool → ℕ → Statement → Statement
  without erased own (skip row) = skip row
  without erased own (assign row a) = if is_erased erased a.target then skip row else assign row (renamed_assignment erased a)
  without erased own (await row b act) = awaiting own row (renamed_formula erased b) (kept_assignments erased act)
  without erased own (sequence row s items) = sequence row (without erased own s) (items_without erased own items)
  without erased own (branch row b s t) = branch row (renamed_formula erased b) (without erased own s) (without erased own t)
  without erased own (loop row b s) = loop row (renamed_formula erased b) (without erased own s)

  pub items_without : List Bool → ℕ → Items → Items
  items_without erased own (one s) = one (without erased own s)
  items_without erased own (more s items) = more (without erased own s) (items_without erased own items)

-- of each formula the conjuncts that speak of no erased word
abbrev pub kept_specification : List Bool → Specification → Specification
kept_specification erased spec = record { pre = kept erased spec.pre; rely = kept erased spec.rely; guar = kept erased spec.guar; post = kept erased spec.post }

-- a part without these words
abbrev pub part_without : List Bool → ℕ → PartTree → PartTree
part_without erased own p = record { name = p.name; spec = kept_specification erased p.spec; body = without erased own p.body }

-- the first word that isn't fixed; the count of words where all are
abbrev pub first_free : List Word → ℕ
first_free [] = zero
first_free (w ∷ ws) = if w.fixed then suc (first_free ws) else zero

-- a program without these words
abbrev pub erased_program : List Bool → ProgramTree → ProgramTree
erased_program erased p = record {
  words = staying erased p.words;
  spec = kept_specification erased p.spec;
  parts = map (part_without erased (first_free (staying erased p.words))) p.parts;
}
