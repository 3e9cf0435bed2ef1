-- The trees that statements, specifications, parts and programs without faults stand for.
use Rattle.std.specs.Prelude.{List, [], ◌∷◌, map}
use Rattle.rg_words.specs.Layout.{Word}
use Rattle.rg_tree.specs.Trees.{Assignment}
use Rattle.rg_tree.specs.Statements as tree
use Rattle.rg_tree.specs.Numbering.{line_of_statement}
use Rattle.rg_syntax.specs.Written.{AssignedTree, StatementTree, skip, assign, await, branch, loop, StatementTrees, no_more, also, SpecTree, WrittenPart}
use Rattle.rg_resolve.specs.Faults.{width_at}
use Rattle.rg_resolve.specs.Inner.FormulaTrees.{place_of, typed_term, typed_claim}

-- an assignment, whose value has its target's width
abbrev pub assignment_tree : List Word → AssignedTree → Assignment
assignment_tree words a = record { target = place_of words a.target.text; value = typed_term words (width_at words (place_of words a.target.text)) a.value }

-- the items of a sequence after its first: this one, and those after it
abbrev pub items_of : tree.Statement → List tree.Statement → tree.Items
items_of s [] = tree.one s
items_of s (t ∷ ts) = tree.more s (items_of t ts)

-- a block of one item is the item; of several, a sequence at the line of its first token
abbrev pub block_of : List tree.Statement → tree.Statement
block_of [] = tree.skip 0
block_of (s ∷ []) = s
block_of (s ∷ t ∷ ts) = tree.sequence (line_of_statement s) s (items_of t ts)

-- a statement, and the statements of a list
abbrev mutual
  pub statement_tree : List Word → StatementTree → tree.Statement
  statement_tree words (skip t) = tree.skip t.line
  statement_tree words (assign a) = tree.assign a.target.line (assignment_tree words a)
  statement_tree words (await t f act) = tree.await t.line (typed_claim words f) (map (assignment_tree words) act)
  statement_tree words (branch t f first second) = tree.branch t.line (typed_claim words f) (block_of (statement_trees words first)) (block_of (statement_trees words second))
  statement_tree words (loop t f body) = tree.loop t.line (typed_claim words f) (block_of (statement_trees words body))

  pub statement_trees : List Word → StatementTrees → List tree.Statement
  statement_trees words no_more = []
  statement_trees words (also s ss) = statement_tree words s ∷ statement_trees words ss

abbrev pub block_tree : List Word → StatementTrees → tree.Statement
block_tree words ss = block_of (statement_trees words ss)

abbrev pub spec_tree : List Word → SpecTree → tree.Specification
spec_tree words s = record { pre = typed_claim words s.pre; rely = typed_claim words s.rely; guar = typed_claim words s.guar; post = typed_claim words s.post }

abbrev pub part_tree : List Word → WrittenPart → tree.PartTree
part_tree words p = record { name = p.name.text; spec = spec_tree words p.spec; body = block_tree words p.body }
