-- What is typed fits.
use Rattle.std.proofs.Common.{◌≤◌, ◌<◌, ◌^◌, List, [], ◌∷◌, length, arith, length-append}
use Rattle.rg_words.specs.Layout.{Word, widths_of, IsLayout}
use Rattle.rg_tree.specs.Trees.{Assignment}
use Rattle.rg_tree.specs.ConditionTrees.{AssignmentsTyped}
use Rattle.rg_tree.specs.Statements.{Statement, skip, assign, await, sequence, branch, loop, Items, one, more, PartTree, ProgramTree}
use Rattle.rg_tree.specs.Numbering.{statements, statements_of_items, statements_of_parts}
use Rattle.rg_tree.specs.TypedPrograms.{IsTypedStatement, AreTypedItems, AreTypedParts, IsTypedProgram}
use Rattle.rg_tree.proofs.Widths.{typed_expressions_fit, typed_formulas_fit}
use Rattle.rg_code.specs.Code.{count_of, count_of_items}
use Rattle.rg_c.specs.Fitting.{AssignmentsFit, StatementFits, ItemsFit, SpecificationFits, PartsFit}

module _ (words : List Word) (layout : IsLayout words) where
  values_fit : (act : List Assignment) → AssignmentsTyped (widths_of words) act → AssignmentsFit (length words) act
  values_fit [] h = tt
  values_fit (a ∷ act) h = (typed_expressions_fit words layout a.value _ h.1, values_fit act h.2)

  mutual
    statement_fits : (s : Statement) → IsTypedStatement words s → StatementFits (length words) s
    statement_fits (skip row) h = tt
    statement_fits (assign row a) h = values_fit (a ∷ []) h.0
    statement_fits (await row f act) h = (typed_formulas_fit words layout f h.0.0, values_fit act h.1.0)
    statement_fits (sequence row s items) h = (statement_fits s h.0, items_fit items h.1)
    statement_fits (branch row f s t) h = (typed_formulas_fit words layout f h.0.0, statement_fits s h.1, statement_fits t h.2)
    statement_fits (loop row f s) h = (typed_formulas_fit words layout f h.0.0, statement_fits s h.1)

    items_fit : (items : Items) → AreTypedItems words items → ItemsFit (length words) items
    items_fit (one s) h = statement_fits s h
    items_fit (more s items) h = (statement_fits s h.0, items_fit items h.1)

mutual
  count_below : (s : Statement) → count_of s ≤ length (statements s)
  count_below (skip n) = omega arith
  count_below (assign n a) = omega arith
  count_below (await n b act) = omega arith
  count_below (sequence n s items) =
      let h = count_below s in let k = items_below items in let e = length-append (statements s) (statements_of_items items) in omega (arith, h, k, e)
  count_below (branch n b s t) =
      let h = count_below s in let k = count_below t in let e = length-append (statements s) (statements t) in omega (arith, h, k, e)
  count_below (loop n b s) = let h = count_below s in omega (arith, h)

  items_below : (items : Items) → count_of_items items ≤ length (statements_of_items items)
  items_below (one s) = count_below s
  items_below (more s items) =
      let h = count_below s in let k = items_below items in let e = length-append (statements s) (statements_of_items items) in omega (arith, h, k, e)

parts_fit : (words : List Word) (parts : List PartTree) → IsLayout words → AreTypedParts words parts → length (statements_of_parts parts) < 2 ^ 64 → PartsFit (length words) parts
parts_fit words [] layout h less = tt
parts_fit words (p ∷ parts) layout h less =
    let e = length-append (statements p.body) (statements_of_parts parts) in
    let k = count_below p.body in
    (statement_fits words layout p.body h.1, omega (arith, e, k, less), parts_fit words parts layout h.2 (omega (arith, e, less)))

pub program_fits : (p : ProgramTree) → IsLayout p.words → IsTypedProgram p → SpecificationFits (length p.words) p.spec × PartsFit (length p.words) p.parts
program_fits p layout h =
    let fit = typed_formulas_fit p.words layout in
    let few = h.most_statements in (
      (fit p.spec.pre h.spec.0.0, fit p.spec.rely h.spec.1, fit p.spec.guar h.spec.2, fit p.spec.post h.spec.3.0),
      parts_fit p.words p.parts layout h.parts (omega (arith, few)),
    )
