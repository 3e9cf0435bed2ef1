-- The code of a typed program is legal.
use Rattle.std.proofs.Common.{◌≡◌, ◌≤◌, ◌<◌, ◌+◌, ◌^◌, ℕ, suc, Bool, true, false, List, [], ◌∷◌, ◌++◌, length, map, Some, refl, subst, sym, arith, length-append}
use Rattle.std.specs.Prelude.{Option}
use Rattle.std.proofs.lemmas.List.{length-map}
use Rattle.rg_words.specs.Layout.{Word, widths_of, IsLayout}
use Rattle.rg_tree.specs.Trees.{Expression, Proposition, Assignment, number, word, next_word, inverse, binary, shifted, choice, truth, negation, connected, compared}
use Rattle.rg_tree.specs.Fits.{ExpressionFits, FormulaFits}
use Rattle.rg_tree.specs.Typing.{HasWidth}
use Rattle.rg_tree.specs.Meaning.{value_of}
use Rattle.rg_tree.specs.Traces.{holds_at}
use Rattle.rg_tree.specs.ConditionTrees.{AssignmentsTyped}
use Rattle.rg_tree.specs.Statements.{Statement, skip, assign, await, sequence, branch, loop, Items, one, more, PartTree, ProgramTree}
use Rattle.rg_tree.specs.TypedPrograms.{IsTypedPredicate, TargetsFree, IsTypedStatement, AreTypedItems, AreTypedParts, IsTypedProgram}
use Rattle.rg_tree.proofs.Widths.{values_within, typed_expressions_fit, typed_formulas_fit}
use Rattle.rg_code.specs.declared.operation.Operation.{Operation}
use Rattle.rg_code.specs.declared.operation.Operation.TheVariants.{Inverse, Binary, Shifted, Pick, Compare, Not, Connect}
use Rattle.rg_code.specs.Operations.{number_of_truth, expression_operations, formula_operations}
use Rattle.rg_code.specs.Code.{BlockTree, end_block, is_end, store_of, count_of, count_of_items, code_of, code_of_items, part_code, program_code}
use Rattle.rg_code.specs.Legal.{OperationsFit, IsBelow, LeavesBelow, AreLegalStores, IsLegalBlock, AreLegalBlocks, EndsOnce, AreLegalParts}
use Rattle.rg_code.proofs.Operations.{left_expression, left_formula}
use Rattle.rg_code.proofs.CodeOfStatements.{length-code_of}

fit_append : (n : ℕ) (xs ys : List Operation) → OperationsFit n xs → OperationsFit n ys → OperationsFit n (xs ++ ys)
fit_append n [] ys h k = k
fit_append n (x ∷ xs) ys h k = (h.0, fit_append n xs ys h.1 k)

-- two operands' operations, and one operation that fits
fit_two : (n : ℕ) (xs ys : List Operation) (o : Operation) → OperationsFit n xs → OperationsFit n ys → OperationsFit n (o ∷ []) → OperationsFit n (xs ++ (ys ++ o ∷ []))
fit_two n xs ys o h k f = fit_append n xs (ys ++ o ∷ []) h (fit_append n ys (o ∷ []) k f)

mutual
  expression_fit : (n : ℕ) (e : Expression) → ExpressionFits e n → OperationsFit n (expression_operations e)
  expression_fit n (number w k) h = (tt, tt)
  expression_fit n (word k) h = (h, tt)
  expression_fit n (next_word k) h = (h, tt)
  expression_fit n (inverse w a) h = fit_append n (expression_operations a) (Inverse w ∷ []) (expression_fit n a h.1) (h.0, tt)
  expression_fit n (binary o w a b) h =
      fit_two n (expression_operations a) (expression_operations b) (Binary o w) (expression_fit n a h.1) (expression_fit n b h.2) (h.0, tt)
  expression_fit n (shifted d w a k) h =
      fit_append n (expression_operations a) (Shifted d w k ∷ []) (expression_fit n a h.2) ((h.0, h.1), tt)
  expression_fit n (choice f a b) h =
      fit_append n (formula_operations f) (expression_operations a ++ (expression_operations b ++ Pick ∷ [])) (formula_fit n f h.0)
      (fit_two n (expression_operations a) (expression_operations b) Pick (expression_fit n a h.1) (expression_fit n b h.2) (tt, tt))

  formula_fit : (n : ℕ) (f : Proposition) → FormulaFits f n → OperationsFit n (formula_operations f)
  formula_fit n (truth b) h = (tt, tt)
  formula_fit n (negation f) h = fit_append n (formula_operations f) (Not ∷ []) (formula_fit n f h) (tt, tt)
  formula_fit n (connected c f g) h =
      fit_two n (formula_operations f) (formula_operations g) (Connect c) (formula_fit n f h.0) (formula_fit n g h.1) (tt, tt)
  formula_fit n (compared c a b) h =
      fit_two n (expression_operations a) (expression_operations b) (Compare c) (expression_fit n a h.0) (expression_fit n b h.1) (tt, tt)

number_below : (b : Bool) → number_of_truth b < 2
number_below true = omega arith
number_below false = omega arith

-- a number that is known
below_at : (bound : ℕ) (o : Option ℕ) (x : ℕ) → o ≡ Some x → x < bound → IsBelow bound o
below_at bound o x e h = subst (λ (p : Option ℕ). IsBelow bound p) (sym e) h

module _ (words : List Word) (limits : IsLayout words) where
  expression_legal : (e : Expression) (w : ℕ) → HasWidth (widths_of words) e w → LeavesBelow words (2 ^ w) (expression_operations e)
  expression_legal e w h =
      (expression_fit (length words) e (typed_expressions_fit words limits e w h), λ s st. below_at (2 ^ w) _ (value_of e s s) (left_expression e s) (values_within (widths_of words) s s e w h st st))

  predicate_legal : (f : Proposition) → IsTypedPredicate words f → LeavesBelow words 2 (formula_operations f)
  predicate_legal f h =
      (formula_fit (length words) f (typed_formulas_fit words limits f h.0), λ s st. below_at 2 _ (number_of_truth (holds_at f s)) (left_formula f s) (number_below (holds_at f s)))

  stores_legal : (act : List Assignment) → AssignmentsTyped (widths_of words) act → TargetsFree words act → AreLegalStores words (map store_of act)
  stores_legal [] typed free = tt
  stores_legal (a ∷ act) typed free =
      let size = length-map words (λ w. w.width) in
      ((omega (arith, size, typed.0), free.0, expression_legal a.value _ typed.1), stores_legal act typed.2 free.1)

  module _ (n : ℕ) where
    -- legal blocks of a part with n blocks, none of which is an end
    abbrev Inner : List BlockTree → Type 0
    Inner [] = Unit {0}
    Inner (b ∷ bs) = IsLegalBlock words n b × (is_end (Some b) ≡ false) × Inner bs

    inner_append : (xs ys : List BlockTree) → Inner xs → Inner ys → Inner (xs ++ ys)
    inner_append [] ys h k = k
    inner_append (x ∷ xs) ys h k = (h.0, h.1, inner_append xs ys h.2 k)

    mutual
      count_some : (s : Statement) → 1 ≤ count_of s
      count_some (skip row) = omega arith
      count_some (assign row a) = omega arith
      count_some (await row b act) = omega arith
      count_some (sequence row s items) = let h = count_some s in omega (arith, h)
      count_some (branch row b s t) = omega arith
      count_some (loop row b s) = omega arith

      items_some : (items : Items) → 1 ≤ count_of_items items
      items_some (one s) = count_some s
      items_some (more s items) = let h = count_some s in omega (arith, h)

    mutual
      stmt_inner : (s : Statement) (first next : ℕ) → IsTypedStatement words s → first + count_of s ≤ n → next < n → Inner (code_of s first next)
      stmt_inner (skip row) first next h room less = ((less, tt), refl, tt)
      stmt_inner (assign row a) first next h room less = ((less, stores_legal (a ∷ []) h.0 h.1), refl, tt)
      stmt_inner (await row b act) first next h room less = ((less, predicate_legal b h.0, stores_legal act h.1.0 h.1.1), refl, tt)
      stmt_inner (sequence row s items) first next h room less =
          let some = items_some items in
          inner_append (code_of s first (first + count_of s)) (code_of_items items (first + count_of s) next)
          (stmt_inner s first (first + count_of s) h.0 (omega (arith, room)) (omega (arith, room, some)))
          (items_inner items (first + count_of s) next h.1 (omega (arith, room)) less)
      stmt_inner (branch row b s t) first next h room less =
          let one_more = count_some s in
          let other = count_some t in (
            (omega (arith, room, one_more), omega (arith, room, other), predicate_legal b h.0),
            refl,
            inner_append (code_of s (suc first) next) (code_of t (suc first + count_of s) next)
                (stmt_inner s (suc first) next h.1 (omega (arith, room)) less)
                (stmt_inner t (suc first + count_of s) next h.2 (omega (arith, room)) less),
          )
      stmt_inner (loop row b s) first next h room less =
          let some = count_some s in
          ((omega (arith, room, some), less, predicate_legal b h.0), refl, stmt_inner s (suc first) first h.1 (omega (arith, room)) (omega (arith, room)))

      items_inner : (items : Items) (first next : ℕ) → AreTypedItems words items → first + count_of_items items ≤ n → next < n → Inner (code_of_items items first next)
      items_inner (one s) first next h room less = stmt_inner s first next h room less
      items_inner (more s items) first next h room less =
          let some = items_some items in
          inner_append (code_of s first (first + count_of s)) (code_of_items items (first + count_of s) next)
          (stmt_inner s first (first + count_of s) h.0 (omega (arith, room)) (omega (arith, room, some)))
          (items_inner items (first + count_of s) next h.1 (omega (arith, room)) less)

    legal_with_end : (bs : List BlockTree) → Inner bs → AreLegalBlocks words n (bs ++ end_block ∷ [])
    legal_with_end [] h = (tt, tt)
    legal_with_end (b ∷ bs) h = (h.0, legal_with_end bs h.2)

    ends_once : (bs : List BlockTree) → Inner bs → EndsOnce (bs ++ end_block ∷ [])
    ends_once [] h = refl
    ends_once (b ∷ []) h = (h.1, refl)
    ends_once (b ∷ c ∷ bs) h = (h.1, ends_once (c ∷ bs) h.2)

  part_legal : (s : Statement) → IsTypedStatement words s → AreLegalBlocks words (length (part_code s)) (part_code s) × EndsOnce (part_code s)
  part_legal s h =
      let body = code_of s 0 (count_of s) in
      let size = length-append body (end_block ∷ []) in
      let inside = length-code_of s 0 (count_of s) in
      let inner = stmt_inner (length (part_code s)) s 0 (count_of s) h (omega (arith, size, inside)) (omega (arith, size, inside)) in
      (legal_with_end (length (part_code s)) body inner, ends_once (length (part_code s)) body inner)

  parts_legal : (ps : List PartTree) → AreTypedParts words ps → AreLegalParts words (program_code ps)
  parts_legal [] h = tt
  parts_legal (p ∷ ps) h = let q = part_legal p.body h.1 in (q.0, q.1, parts_legal ps h.2)

pub program_legal : (program : ProgramTree) → IsLayout program.words → IsTypedProgram program → AreLegalParts program.words (program_code program.parts)
program_legal program limits h = parts_legal program.words limits program.parts h.parts
