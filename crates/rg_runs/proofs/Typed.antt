-- Statements that fit the words.
use Rattle.std.proofs.Common.{◌≡◌, ℕ, zero, suc, ◌<◌, List, [], ◌∷◌, ◌++◌, length, map, get_or, subst, sym, arith}
use Rattle.rg_words.specs.Layout.{Word}
use Rattle.rg_tree.specs.Statements.{Statement, Items, one, more}
use Rattle.rg_tree.specs.ProgramView.{statement, part}
use Rattle.rg_tree.specs.declared.part.Part.{Part}
use Rattle.rg_tree.specs.TypedPrograms.{AreTypedItems, IsTypedStatement, AreTypedParts}
use Rattle.rg_tree.specs.Following.{list_of}
use Rattle.rg_runs.specs.Inner.Todo.{AreTyped}

-- the items of a sequence, before others
pub items_typed : (words : List Word) (items : Items) (rest : List Statement) → AreTypedItems words items → AreTyped words rest → AreTyped words (list_of items ++ rest)
items_typed words (one s) rest h k = (h, k)
items_typed words (more s items) rest h k = (h.0, items_typed words items rest h.1 k)

-- the body of each part of a typed program
pub body_typed : (words : List Word) (parts : List Part) (i : ℕ) (p : Part) → AreTypedParts words (map part parts) → i < length parts → p ≡ get_or parts i p → IsTypedStatement words (statement p.body)
body_typed words [] i p h less at = absurd (omega arith)
body_typed words (q ∷ parts) zero p h less at = subst (λ (x : Part). IsTypedStatement words (statement x.body)) (sym at) h.1
body_typed words (q ∷ parts) (suc i) p h less at = body_typed words parts i p h.2 (omega arith) at
