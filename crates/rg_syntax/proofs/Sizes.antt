-- The sizes of written statements, and that what is inside one is smaller.
use Rattle.std.proofs.Common.{◌≡◌, ℕ, suc, Vec, Global, ◌+◌, ◌<◌, List, [], ◌∷◌, length, map, get_or, arith}
use Rattle.rg_text.specs.Text.{leaf_of}
use Rattle.rg_text.specs.declared.token.Token.{Token}
use Rattle.rg_syntax.specs.declared.written.FormulaText.{FormulaText}
use Rattle.rg_syntax.specs.declared.written.StatementText.{StatementText, If, While}
use Rattle.rg_syntax.specs.Written as written
use Rattle.rg_syntax.specs.Written.{claim, StatementTree, skip, assign, await, branch, loop, StatementTrees, no_more, also, listed}
use Rattle.rg_syntax.proofs.Rows.{statement-If, statement-While}

-- how much a statement has in it
abbrev mutual
  pub statement_size : StatementTree → ℕ
  statement_size (skip t) = 0
  statement_size (assign a) = 0
  statement_size (await t f act) = 0
  statement_size (branch t f first second) = block_size first + block_size second + 1
  statement_size (loop t f body) = block_size body + 1

  pub block_size : StatementTrees → ℕ
  block_size no_more = 0
  block_size (also s ss) = statement_size s + block_size ss + 1

pub size_within : {I : Type 0} (view : I → StatementTree) (items : List I) (i : ℕ) (d : I) → i < length items → statement_size (view (get_or items i d)) < block_size (listed (map view items))
size_within view [] i d inside = absurd (omega arith)
size_within view (x ∷ xs) Prim.Native.Nat.zero d inside = omega arith
size_within view (x ∷ xs) (suc i) d inside =
    let rest = size_within view xs i d (omega arith) in omega (arith, rest)

-- the blocks of a conditional, which are these lists, are smaller
module _ (src : List ℕ) (s : StatementText) (t : Token) (f : FormulaText) (first second : Vec StatementText Global) (is : s ≡ If t f first second) (xs ys : List StatementText) (left : xs ≡ first.items) (right : ys ≡ second.items) where
  if_view : written.statement src s ≡ branch (leaf_of src t) (claim src f) (listed (map (written.statement src) xs)) (listed (map (written.statement src) ys))
  if_view = rw (is, left, right) (statement-If src t f first second)

  pub first_smaller : block_size (listed (map (written.statement src) xs)) < statement_size (written.statement src s)
  first_smaller = rw if_view (omega arith)

  pub second_smaller : block_size (listed (map (written.statement src) ys)) < statement_size (written.statement src s)
  second_smaller = rw if_view (omega arith)

-- the body of a loop, which is this list, is smaller
module _ (src : List ℕ) (s : StatementText) (t : Token) (f : FormulaText) (body : Vec StatementText Global) (is : s ≡ While t f body) (xs : List StatementText) (same : xs ≡ body.items) where
  while_view : written.statement src s ≡ loop (leaf_of src t) (claim src f) (listed (map (written.statement src) xs))
  while_view = rw (is, same) (statement-While src t f body)

  pub body_smaller : block_size (listed (map (written.statement src) xs)) < statement_size (written.statement src s)
  body_smaller = rw while_view (omega arith)
