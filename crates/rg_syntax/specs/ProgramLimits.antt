-- The limits of a program as written, which its shape keeps.
use Rattle.std.specs.Prelude.{ℕ, ◌+◌, ◌≤◌, List, [], ◌∷◌, length}
use Rattle.rg_words.specs.declared.limits.TheConstants.{MOST_ASSIGNMENTS, MOST_PARTS, MOST_STATEMENTS}
use Rattle.rg_syntax.specs.Written.{StatementTree, skip, assign, await, branch, loop, StatementTrees, no_more, also, WrittenPart, WrittenProgram}

-- an await has 1 to 16 assignments, and a block has a statement
abbrev mutual
  pub IsFullStatement : StatementTree → Type 0
  IsFullStatement (skip t) = Unit {0}
  IsFullStatement (assign a) = Unit {0}
  IsFullStatement (await t f act) = (1 ≤ length act) × (length act ≤ MOST_ASSIGNMENTS)
  IsFullStatement (branch t f first second) = IsFullBlock first × IsFullBlock second
  IsFullStatement (loop t f body) = IsFullBlock body

  pub IsFullBlock : StatementTrees → Type 0
  IsFullBlock no_more = ⊥
  IsFullBlock (also s ss) = IsFullStatement s × AreFull ss

  pub AreFull : StatementTrees → Type 0
  AreFull no_more = Unit {0}
  AreFull (also s ss) = IsFullStatement s × AreFull ss

-- a block of several items is a statement of its own
abbrev pub own_count : StatementTrees → ℕ
own_count (also s (also t ts)) = 1
own_count _ = 0

-- how many statements there are, with those inside them
abbrev mutual
  pub statement_count : StatementTree → ℕ
  statement_count (skip t) = 1
  statement_count (assign a) = 1
  statement_count (await t f act) = 1
  statement_count (branch t f first second) = 1 + ((own_count first + item_count first) + (own_count second + item_count second))
  statement_count (loop t f body) = 1 + (own_count body + item_count body)

  pub item_count : StatementTrees → ℕ
  item_count no_more = 0
  item_count (also s ss) = statement_count s + item_count ss

-- how many statements the parts have
abbrev pub count_in_parts : List WrittenPart → ℕ
count_in_parts [] = 0
count_in_parts (p ∷ ps) = (own_count p.body + item_count p.body) + count_in_parts ps

-- the body of each part is full: each block in it has a statement, and each await 1 to 16 assignments
abbrev pub AreFullParts : List WrittenPart → Type 0
AreFullParts [] = Unit {0}
AreFullParts (p ∷ ps) = IsFullBlock p.body × AreFullParts ps

-- 1 to 32 parts, each block and each await within its limits, and at most 4,000 statements
pub record IsWithinLimits (p : WrittenProgram) : Type 0 where
  pub full : AreFullParts p.parts
  pub some_part : 1 ≤ length p.parts
  pub most_parts : length p.parts ≤ MOST_PARTS
  pub most_statements : count_in_parts p.parts ≤ MOST_STATEMENTS
