-- Which statements have the blocks of a part's code, and what these blocks do.
use Rattle.std.proofs.Common.{◌≡◌, ◌∙◌, ℕ, zero, suc, ◌+◌, Bool, true, List, [], ◌∷◌, ◌++◌, length, map, Option, Some, None, refl, ap, sym, subst, arith, append_assoc, length-append}
use Rattle.std.specs.Prelude.{slice_get, option_map, option_and_then, if◌then◌else◌}
use Rattle.std.proofs.lemmas.List.{append-nil}
use Rattle.std.proofs.lemmas.Option.{slice_get_past}
use Rattle.rg_tree.specs.Trees.{Proposition, Assignment}
use Rattle.rg_tree.specs.ConditionTrees.{assigned}
use Rattle.rg_tree.specs.Statements.{Statement, skip, assign, await, sequence, branch, loop, Items, one, more, PartTree}
use Rattle.rg_tree.specs.Numbering.{statements, statements_of_items, statements_of_parts}
use Rattle.rg_tree.specs.Traces.{State, holds_at}
use Rattle.rg_tree.specs.Lines.{LineTree}
use Rattle.rg_tree.proofs.Stands.{Stands, stands_get, stands_front, stands_back}
use Rattle.rg_rules.specs.Faults.{IsDerived, PartsDerived}
use Rattle.rg_code.specs.Operations.{formula_operations}
use Rattle.rg_code.specs.Code.{BlockTree, do_block, await_block, test_block, end_block, stored, store_of, Makes_step, count_of, count_of_items, code_of, part_code, zeros, program_code}
use Rattle.rg_code.proofs.Operations.{reported_formula, stored_assigned}
use Rattle.rg_code.proofs.CodeOfStatements.{length-code_of}
use Rattle.rg_accept.specs.Standing.{has_block, block_numbers, numbers_of_blocks}

numbers_append : (n : ℕ) (xs ys : List Statement) → block_numbers n (xs ++ ys) ≡ block_numbers n xs ++ block_numbers (n + length xs) ys
numbers_append n [] ys = let same : n ≡ n + length {A = Statement} [] = omega arith in ap (λ m. block_numbers m ys) same
numbers_append n (x ∷ xs) ys =
    let own : List ℕ = if has_block x then n ∷ [] else [] in
    let size : n + 1 + length xs ≡ n + length (x ∷ xs) = omega arith in
    ap (λ (l : List ℕ). own ++ l) (numbers_append (n + 1) xs ys ∙ ap (λ m. block_numbers (n + 1) xs ++ block_numbers m ys) size)
    ∙ sym (append_assoc own (block_numbers (n + 1) xs) (block_numbers (n + length (x ∷ xs)) ys))

length-both : (n : ℕ) (xs ys : List Statement) (a b : ℕ) → length (block_numbers n xs) ≡ a → length (block_numbers (n + length xs) ys) ≡ b → length (block_numbers n (xs ++ ys)) ≡ a + b
length-both n xs ys a b h k =
    ap (λ (l : List ℕ). length l) (numbers_append n xs ys) ∙ length-append (block_numbers n xs) (block_numbers (n + length xs) ys) ∙ (rw (h, k) refl)

-- there is one for each block
mutual
  pub length-numbers : (n : ℕ) (s : Statement) → length (block_numbers n (statements s)) ≡ count_of s
  length-numbers n (skip row) = refl
  length-numbers n (assign row a) = refl
  length-numbers n (await row b act) = refl
  length-numbers n (sequence row s items) =
      length-both (n + 1) (statements s) (statements_of_items items) (count_of s) (count_of_items items) (length-numbers (n + 1) s) (length-items (n + 1 + length (statements s)) items)
  length-numbers n (branch row b s t) =
      ap suc (length-both (n + 1) (statements s) (statements t) (count_of s) (count_of t) (length-numbers (n + 1) s) (length-numbers (n + 1 + length (statements s)) t))
  length-numbers n (loop row b s) = ap suc (length-numbers (n + 1) s)

  length-items : (n : ℕ) (items : Items) → length (block_numbers n (statements_of_items items)) ≡ count_of_items items
  length-items n (one s) = length-numbers n s
  length-items n (more s items) =
      length-both n (statements s) (statements_of_items items) (count_of s) (count_of_items items) (length-numbers n s) (length-items (n + length (statements s)) items)

-- where those of two stand, one after the other
module _ (ns : List ℕ) (first number : ℕ) (s : Statement) (rest : List Statement) (h : Stands ns first (block_numbers number (statements s ++ rest))) where
  split : Stands ns first (block_numbers number (statements s) ++ block_numbers (number + length (statements s)) rest)
  split = subst (λ (l : List ℕ). Stands ns first l) (numbers_append number (statements s) rest) h

  pub numbers_front : Stands ns first (block_numbers number (statements s))
  numbers_front = stands_front ns first (block_numbers number (statements s)) (block_numbers (number + length (statements s)) rest) split

  pub numbers_back : Stands ns (first + count_of s) (block_numbers (number + length (statements s)) rest)
  numbers_back =
      subst (λ l. Stands ns (first + l) (block_numbers (number + length (statements s)) rest)) (length-numbers number s)
      (stands_back ns first (block_numbers number (statements s)) (block_numbers (number + length (statements s)) rest) split)

-- the number of a part's body, which has a line, and those of its blocks
pub record IsBody (all : List Statement) (lines : List LineTree) (ns : Option (List ℕ)) (p : PartTree) : Type 0 where
  pub before : ℕ
  pub derived : IsDerived lines (suc before) p.spec
  pub stands : Stands all before (statements p.body)
  pub numbers : ns ≡ Some (block_numbers (suc before) (statements p.body))

pub body_at : (all : List Statement) (lines : List LineTree) (m : ℕ) (ps : List PartTree) (k : ℕ) (p : PartTree) → Stands all m (statements_of_parts ps) → PartsDerived lines (suc m) ps → slice_get ps k ≡ Some p → IsBody all lines (slice_get (numbers_of_blocks (suc m) ps) k) p
body_at all lines m [] k p st d e = cc e
body_at all lines m (q ∷ ps) zero p st d e =
    let same : q ≡ p = cc e in
    subst (λ (x : PartTree). IsBody all lines (Some (block_numbers (suc m) (statements q.body))) x) same (record {
      before = m;
      derived = d.0;
      stands = stands_front all m (statements q.body) (statements_of_parts ps) st;
      numbers = refl;
    })
body_at all lines m (q ∷ ps) (suc k) p st d e =
    let size : suc m + length (statements q.body) ≡ suc (m + length (statements q.body)) = omega arith in
    subst (λ n. IsBody all lines (slice_get (numbers_of_blocks n ps) k) p) (sym size)
    (body_at all lines (m + length (statements q.body)) ps k p (stands_back all m (statements q.body) (statements_of_parts ps) st) (subst (λ n. PartsDerived lines n ps) size d.1) e)

-- there are numbers for parts alone
pub part_at : (m : ℕ) (ps : List PartTree) (i : ℕ) (ns : List ℕ) → slice_get (numbers_of_blocks m ps) i ≡ Some ns → (p : PartTree) × (slice_get ps i ≡ Some p)
part_at m [] i ns h = cc h
part_at m (p ∷ ps) zero ns h = (p, refl)
part_at m (p ∷ ps) (suc i) ns h = part_at (m + length (statements p.body)) ps i ns h

-- what is found through a list of lists
pub found_in : (o : Option (List ℕ)) (k n : ℕ) → option_and_then (λ ns. slice_get ns k) o ≡ Some n → (ns : List ℕ) × (o ≡ Some ns) × (slice_get ns k ≡ Some n)
found_in None k n h = cc h
found_in (Some ns) k n h = (ns, refl, h)

pub code_at : (ps : List PartTree) (i : ℕ) (p : PartTree) → slice_get ps i ≡ Some p → slice_get (program_code ps) i ≡ Some (part_code p.body)
code_at [] i p h = cc h
code_at (q ∷ ps) zero p h = let same : q ≡ p = cc h in ap (λ (x : PartTree). Some (part_code x.body)) same
code_at (q ∷ ps) (suc i) p h = code_at ps i p h

pub zero_at : (cs : List (List BlockTree)) (i : ℕ) (c : List BlockTree) → slice_get cs i ≡ Some c → slice_get (zeros cs) i ≡ Some 0
zero_at [] i c h = cc h
zero_at (d ∷ cs) zero c h = refl
zero_at (d ∷ cs) (suc i) c h = zero_at cs i c h

pub length-program_code : (ps : List PartTree) → length (program_code ps) ≡ length ps
length-program_code [] = refl
length-program_code (p ∷ ps) = ap suc (length-program_code ps)

module _ (code : List BlockTree) where
  pub code_back : (first : ℕ) (s : Statement) (next : ℕ) (rest : List BlockTree) → Stands code first (code_of s first next ++ rest) → Stands code (first + count_of s) rest
  code_back first s next rest h = subst (λ l. Stands code (first + l) rest) (length-code_of s first next) (stands_back code first (code_of s first next) rest h)

  stored_is : (act : List Assignment) (s t : State) → stored (map store_of act) s ≡ Some t → t ≡ assigned act s
  stored_is act s t h = let e = stored_assigned act s in cc (e, h)

  pub do_makes : (row first next : ℕ) (act : List Assignment) → slice_get code first ≡ Some (do_block row next (map store_of act)) → (s t : State) (to : ℕ) → Makes_step (slice_get code first) s t to → (t ≡ assigned act s) × (to ≡ next)
  do_makes row first next act at s t to m =
      let made = subst (λ (o : Option BlockTree). Makes_step o s t to) at m in
      (stored_is act s t made.0, made.1)

  pub await_makes : (row first next : ℕ) (b : Proposition) (act : List Assignment) → slice_get code first ≡ Some (await_block row next (formula_operations b) (map store_of act)) → (s t : State) (to : ℕ) → Makes_step (slice_get code first) s t to → (holds_at b s ≡ true) × (t ≡ assigned act s) × (to ≡ next)
  await_makes row first next b act at s t to m =
      let made = subst (λ (o : Option BlockTree). Makes_step o s t to) at m in
      let reports = reported_formula b s in
      (cc (reports, made.0), stored_is act s t made.1, made.2)

  pub test_makes : (row first yes_place no_place : ℕ) (b : Proposition) → slice_get code first ≡ Some (test_block row yes_place no_place (formula_operations b)) → (s t : State) (to : ℕ) → Makes_step (slice_get code first) s t to → (t ≡ s) × (to ≡ (if holds_at b s then yes_place else no_place))
  test_makes row first yes_place no_place b at s t to m =
      let made = subst (λ (o : Option BlockTree). Makes_step o s t to) at m in
      let reports = ap (λ (o : Option Bool). option_map (λ v. if v then yes_place else no_place) o) (reported_formula b s) in
      (made.0, cc (reports, made.1))

-- the end of a part's code makes no step, and is of no statement
pub end_makes : (body : Statement) (s t : State) (to : ℕ) → Makes_step (slice_get (part_code body) (count_of body)) s t to → ⊥
end_makes body s t to m =
    let ends : Stands (part_code body) (0 + count_of body) (end_block ∷ []) = code_back (part_code body) 0 body (count_of body) (end_block ∷ []) ([], sym (append-nil (part_code body))) in
    let place : 0 + count_of body ≡ count_of body = omega arith in
    let at = stands_get (part_code body) (count_of body) end_block [] (subst (λ k. Stands (part_code body) k (end_block ∷ [])) place ends) in
    subst (λ (o : Option BlockTree). Makes_step o s t to) at m

pub end_numbered : (n : ℕ) (body : Statement) → slice_get (block_numbers n (statements body)) (count_of body) ≡ None
end_numbered n body = let size = length-numbers n body in slice_get_past (block_numbers n (statements body)) (count_of body) (omega (arith, size))
