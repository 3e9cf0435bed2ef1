-- A statement has no more blocks than statements.
use Rattle.std.proofs.Common.{◌≡◌, ◌≤◌, ◌<◌, ℕ, zero, suc, List, [], ◌∷◌, length, map, get_or, subst, sym, arith, length-append}
use Rattle.rg_tree.specs.Statements.{Statement, skip, assign, await, sequence, branch, loop, Items, one, more}
use Rattle.rg_tree.specs.Numbering.{statements, statements_of_items, statements_of_parts}
use Rattle.rg_tree.specs.ProgramView.{statement, part}
use Rattle.rg_tree.specs.declared.part.Part.{Part}
use Rattle.rg_code.specs.Code.{count_of, count_of_items}

mutual
  count_below : (s : Statement) → count_of s ≤ length (statements s)
  count_below (skip n) = omega arith
  count_below (assign n a) = omega arith
  count_below (await n b act) = omega arith
  count_below (sequence n s items) =
      let h = count_below s in let k = items_below items in let e = length-append (statements s) (statements_of_items items) in omega (arith, h, k, e)
  count_below (branch n b s t) =
      let h = count_below s in let k = count_below t in let e = length-append (statements s) (statements t) in omega (arith, h, k, e)
  count_below (loop n b s) = let h = count_below s in omega (arith, h)

  items_below : (items : Items) → count_of_items items ≤ length (statements_of_items items)
  items_below (one s) = count_below s
  items_below (more s items) =
      let h = count_below s in let k = items_below items in let e = length-append (statements s) (statements_of_items items) in omega (arith, h, k, e)

-- along an equation of parts
count_at : (p q : Part) (n : ℕ) → p ≡ q → count_of (statement q.body) ≤ n → count_of (statement p.body) ≤ n
count_at p q n e h = subst (λ (x : Part). count_of (statement x.body) ≤ n) (sym e) h

-- each part has no more blocks than the program has statements
pub part_below : (parts : List Part) (i : ℕ) (p : Part) → i < length parts → p ≡ get_or parts i p → count_of (statement p.body) ≤ length (statements_of_parts (map part parts))
part_below [] i p less at = absurd (omega arith)
part_below (q ∷ parts) zero p less at =
    let h = count_below (statement q.body) in
    let e = length-append (statements (statement q.body)) (statements_of_parts (map part parts)) in
    count_at p q _ at (omega (arith, h, e))
part_below (q ∷ parts) (suc i) p less at =
    let h = part_below parts i p (omega arith) at in
    let e = length-append (statements (statement q.body)) (statements_of_parts (map part parts)) in
    omega (arith, h, e)
