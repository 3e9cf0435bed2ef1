-- Lines and statements of typed programs are typed.
use Rattle.std.proofs.Common.{◌≡◌, ℕ, zero, suc, ◌<◌, List, [], ◌∷◌, ◌++◌, length, map, get_or, Some, subst, sym, arith}
use Rattle.std.specs.Prelude.{slice_get}
use Rattle.rg_words.specs.Layout.{Word}
use Rattle.rg_tree.specs.Statements.{Statement, skip, assign, await, sequence, branch, loop, Items, one, more, PartTree}
use Rattle.rg_tree.specs.Numbering.{statements, statements_of_items, statements_of_parts}
use Rattle.rg_tree.specs.Programs.{nth}
use Rattle.rg_tree.specs.ProgramView.{specification}
use Rattle.rg_tree.specs.TypedPrograms.{IsTypedSpecification, IsTypedStatement, AreTypedItems, AreTypedParts}
use Rattle.rg_tree.specs.declared.line.DerivationLine.{DerivationLine}
use Rattle.rg_tree.specs.Lines.{line_tree, AreTypedLines}

abbrev AllTyped : List Word → List Statement → Type 0
AllTyped words [] = Unit {0}
AllTyped words (s ∷ ss) = IsTypedStatement words s × AllTyped words ss

all_append : (words : List Word) (xs ys : List Statement) → AllTyped words xs → AllTyped words ys → AllTyped words (xs ++ ys)
all_append words [] ys p q = q
all_append words (x ∷ xs) ys p q = (p.0, all_append words xs ys p.1 q)

mutual
  all_typed : (words : List Word) (s : Statement) → IsTypedStatement words s → AllTyped words (statements s)
  all_typed words (skip n) h = (h, tt)
  all_typed words (assign n a) h = (h, tt)
  all_typed words (await n b act) h = (h, tt)
  all_typed words (sequence n s items) h = (h, all_append words (statements s) (statements_of_items items) (all_typed words s h.0) (items_typed words items h.1))
  all_typed words (branch n b s t) h = (h, all_append words (statements s) (statements t) (all_typed words s h.1) (all_typed words t h.2))
  all_typed words (loop n b s) h = (h, all_typed words s h.1)

  items_typed : (words : List Word) (items : Items) → AreTypedItems words items → AllTyped words (statements_of_items items)
  items_typed words (one s) h = all_typed words s h
  items_typed words (more s items) h = all_append words (statements s) (statements_of_items items) (all_typed words s h.0) (items_typed words items h.1)

parts_typed : (words : List Word) (parts : List PartTree) → AreTypedParts words parts → AllTyped words (statements_of_parts parts)
parts_typed words [] h = tt
parts_typed words (p ∷ ps) h = all_append words (statements p.body) (statements_of_parts ps) (all_typed words p.body h.1) (parts_typed words ps h.2)

get_typed : (words : List Word) (ss : List Statement) (n : ℕ) (s : Statement) → AllTyped words ss → slice_get ss n ≡ Some s → IsTypedStatement words s
get_typed words [] n s h e = cc e
get_typed words (x ∷ ss) zero s h e = let same : x ≡ s = cc e in subst (IsTypedStatement words) same h.0
get_typed words (x ∷ ss) (suc n) s h e = get_typed words ss n s h.1 e

-- each statement of typed parts is typed
pub statement_typed : (words : List Word) (parts : List PartTree) → AreTypedParts words parts → (n : ℕ) (s : Statement) → nth (statements_of_parts parts) n ≡ Some s → IsTypedStatement words s
statement_typed words parts h zero s e = cc e
statement_typed words parts h (suc n) s e = get_typed words (statements_of_parts parts) n s (parts_typed words parts h) e

-- each of typed lines is typed
pub line_typed : (words : List Word) (lines : List DerivationLine) (i : ℕ) (line : DerivationLine) → AreTypedLines words (map line_tree lines) → i < length lines → line ≡ get_or lines i line → IsTypedSpecification words (specification line.spec)
line_typed words [] i line h less at = absurd (omega arith)
line_typed words (x ∷ lines) zero line h less at = subst (λ (l : DerivationLine). IsTypedSpecification words (specification l.spec)) (sym at) h.0
line_typed words (x ∷ lines) (suc i) line h less at = line_typed words lines i line h.1 (omega arith) at
