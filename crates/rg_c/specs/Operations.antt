-- The statements of one use of named statements, as a function of their own.
use Rattle.std.specs.Prelude.{ℕ, ◌+◌, Bool, ◌&&◌, nat_eq, nat_le, List, [], ◌∷◌, ◌++◌, if◌then◌else◌}
use Rattle.rg_tree.specs.Statements.{Statement, skip, assign, await, sequence, branch, loop, Items, one, more}
use Rattle.rg_code.specs.Code.{count_of}
use Rattle.rg_c.specs.CStatements.{CStatement, nothing, ◌⨾◌}
use Rattle.rg_c.specs.Printed.{function_text}
use Rattle.rg_c.specs.Bodies.{PageTree, in_c}
use Rattle.rg_c.specs.Heads.{operation_open}

-- one use of named statements: the place of its part, from 0, what the name of its function ends in, and the first and the last line of its statements
pub record OperationTree : Type 0 where
  pub part : ℕ
  pub name : List ℕ
  pub first : ℕ
  pub last : ℕ

-- a line is the first of these, or the last, or between them
abbrev pub is_within : ℕ → ℕ → ℕ → Bool
is_within first last row = nat_le first row && nat_le row last

abbrev mutual
  -- of a statement, whose first step stands at this place in the listing of the code, the statements on these lines, each with all that stands in it; a sequence
  -- has no line of its own, and where a test isn't on these lines, what stands below it is asked
  pub within : PageTree → ℕ → ℕ → ℕ → Statement → CStatement
  within p first last place (skip row) = if is_within first last row then in_c p place (skip row) else nothing
  within p first last place (assign row a) = if is_within first last row then in_c p place (assign row a) else nothing
  within p first last place (await row f act) = if is_within first last row then in_c p place (await row f act) else nothing
  within p first last place (sequence row s items) = within p first last place s ⨾ items_within p first last (place + count_of s) items
  within p first last place (branch row f s t) =
      if is_within first last row then in_c p place (branch row f s t)
      else within p first last (place + 1) s ⨾ within p first last (place + 1 + count_of s) t
  within p first last place (loop row f s) = if is_within first last row then in_c p place (loop row f s) else within p first last (place + 1) s

  -- of the items of a sequence
  pub items_within : PageTree → ℕ → ℕ → ℕ → Items → CStatement
  items_within p first last place (one s) = within p first last place s
  items_within p first last place (more s items) = within p first last place s ⨾ items_within p first last (place + count_of s) items

-- a use in a part with this body
unfoldable pub operation_text : List ℕ → List ℕ → PageTree → OperationTree → Statement → List ℕ
operation_text name part p o body = function_text p.words (operation_open name part o.name) (within p o.first o.last 0 body)

-- the uses in this part, in their order
abbrev pub operations_text : List ℕ → List ℕ → PageTree → List OperationTree → Statement → List ℕ
operations_text name part p [] body = []
operations_text name part p (o ∷ operations) body =
    (if nat_eq o.part p.part then operation_text name part p o body else []) ++ operations_text name part p operations body
