-- The statements that are begun in what is read of a program, in the order of their numbers, each as the line of its first token.
-- No public contract cites it: Begun defines them over the grammar.
use Rattle.std.specs.Prelude.{ℕ, cond, List, [], ◌∷◌, ◌++◌, reverse}
use Rattle.std.specs.List.{flat_map}
use Rattle.rg_syntax.specs.Written.{StatementTree, skip, assign, await, branch, loop, StatementTrees, no_more, also, listed, WrittenPart}
use Rattle.rg_build.specs.Inner.Drafts.{BodyOf, a_part, a_then, an_else, a_loop, BlockSoFar, ReadFor, a_program_clause, a_part_clause, an_assignment, a_guard, an_act, a_branch_test, a_loop_test, PlaceSoFar, between_acts, reading, Drafted}

-- the line of a statement's first token
abbrev pub first_line : StatementTree → ℕ
first_line (skip t) = t.line
first_line (assign a) = a.target.line
first_line (await t f act) = t.line
first_line (branch t f first second) = t.line
first_line (loop t f body) = t.line

-- a block of several items is a statement of its own, which begins with its first
abbrev pub own_lines : StatementTrees → List ℕ
own_lines (also s (also t ts)) = first_line s ∷ []
own_lines _ = []

-- the lines of a statement and of those inside it
abbrev mutual
  pub statement_lines : StatementTree → List ℕ
  statement_lines (skip t) = t.line ∷ []
  statement_lines (assign a) = a.target.line ∷ []
  statement_lines (await t f act) = t.line ∷ []
  statement_lines (branch t f first second) = t.line ∷ ((own_lines first ++ item_lines first) ++ (own_lines second ++ item_lines second))
  statement_lines (loop t f body) = t.line ∷ (own_lines body ++ item_lines body)

  pub item_lines : StatementTrees → List ℕ
  item_lines no_more = []
  item_lines (also s ss) = statement_lines s ++ item_lines ss

abbrev pub block_lines : StatementTrees → List ℕ
block_lines ss = own_lines ss ++ item_lines ss

abbrev pub part_lines : List WrittenPart → List ℕ
part_lines ps = flat_map (λ p. block_lines p.body) ps

-- a block that isn't ended is several where a `;` was met in it
abbrev pub joined_line : List StatementTree → List ℕ
joined_line [] = []
joined_line (s ∷ ss) = first_line s ∷ []

abbrev pub around_lines : BodyOf → List ℕ
around_lines a_part = []
around_lines (a_then t f) = t.line ∷ []
around_lines (an_else t f first) = t.line ∷ block_lines (listed first)
around_lines (a_loop t f) = t.line ∷ []

abbrev pub open_lines : BlockSoFar → List ℕ
open_lines b = around_lines b.around ++ (cond b.joined (joined_line b.statements) [] ++ item_lines (listed b.statements))

-- with what is being read
abbrev pub reading_lines : ReadFor → List ℕ
reading_lines a_program_clause = []
reading_lines (a_part_clause n) = []
reading_lines (an_assignment n x) = x.line ∷ []
reading_lines (a_guard n t) = t.line ∷ []
reading_lines (an_act n t x) = t.line ∷ []
reading_lines (a_branch_test n t) = t.line ∷ []
reading_lines (a_loop_test n t) = t.line ∷ []

abbrev pub place_lines : PlaceSoFar → List ℕ
place_lines (between_acts n t) = t.line ∷ []
place_lines (reading w) = reading_lines w
place_lines _ = []

-- the open lists of statements stand innermost first
abbrev pub begun_lines : Drafted → List ℕ
begun_lines d = part_lines d.parts ++ (flat_map open_lines (reverse d.blocks) ++ place_lines d.place)
