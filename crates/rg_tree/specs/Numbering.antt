-- The statements of a program, in the order of their numbers.
use Rattle.std.specs.Prelude.{ℕ, ◌+◌, List, [], ◌∷◌, ◌++◌, length}
use Rattle.rg_tree.specs.Statements.{Statement, skip, assign, await, sequence, branch, loop, Items, one, more, PartTree}
use Rattle.rg_tree.specs.declared.numbered.StatementKind.{StatementKind}
use Rattle.rg_tree.specs.declared.numbered.StatementKind.TheVariants.{Skip, Assign, Await, If, While, Seq}
use Rattle.rg_tree.specs.declared.numbered.Numbered.{Numbered}

-- a statement, and those inside it, in the order of their numbers
abbrev mutual
  pub statements : Statement → List Statement
  statements (skip n) = skip n ∷ []
  statements (assign n a) = assign n a ∷ []
  statements (await n b act) = await n b act ∷ []
  statements (sequence n s items) = sequence n s items ∷ (statements s ++ statements_of_items items)
  statements (branch n b s t) = branch n b s t ∷ (statements s ++ statements t)
  statements (loop n b s) = loop n b s ∷ statements s

  pub statements_of_items : Items → List Statement
  statements_of_items (one s) = statements s
  statements_of_items (more s items) = statements s ++ statements_of_items items

-- the statements of all parts, in the order of their numbers
abbrev pub statements_of_parts : List PartTree → List Statement
statements_of_parts [] = []
statements_of_parts (p ∷ ps) = statements p.body ++ statements_of_parts ps

-- the line of a statement's first token
abbrev pub line_of_statement : Statement → ℕ
line_of_statement (skip n) = n
line_of_statement (assign n a) = n
line_of_statement (await n b act) = n
line_of_statement (sequence n s items) = n
line_of_statement (branch n b s t) = n
line_of_statement (loop n b s) = n

-- the kind of a statement
abbrev pub kind_of : Statement → StatementKind
kind_of (skip n) = Skip
kind_of (assign n a) = Assign
kind_of (await n b act) = Await
kind_of (sequence n s items) = Seq
kind_of (branch n b s t) = If
kind_of (loop n b s) = While

-- these statements of a part, numbered from n
abbrev pub numbered_from : ℕ → ℕ → List Statement → List Numbered
numbered_from part n [] = []
numbered_from part n (s ∷ ss) = record { number = n; part = part; line = line_of_statement s; kind = kind_of s } ∷ numbered_from part (n + 1) ss

-- the statements of all parts, parts and statements numbered from these
abbrev pub numbered_parts : ℕ → ℕ → List PartTree → List Numbered
numbered_parts part n [] = []
numbered_parts part n (p ∷ ps) = numbered_from part n (statements p.body) ++ numbered_parts (part + 1) (n + length (statements p.body)) ps
