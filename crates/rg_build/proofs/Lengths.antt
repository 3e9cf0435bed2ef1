-- How many tokens a piece of a program has, whatever follows it.
use Rattle.std.proofs.Common.{◌≡◌, ◌+◌, List, ◌∷◌, length, arith}
use Rattle.rg_text.specs.declared.kind.Terminal.TheVariants.{Semicolon, Close, Compare, Operate, ShiftBy, Join, Imply, Section, Then, Else}
use Rattle.rg_text.specs.declared.kind.Keyword.TheVariants.{Rely, Guar, Post, Do, Begin, End}
use Rattle.rg_text.specs.declared.kind.Junction.{Junction}
use Rattle.rg_syntax.specs.Grammar as grammar
use Rattle.rg_syntax.specs.Grammar.{Lexeme, fixed, FormulaSpelling, ChainSpelling, ExpressionSpelling, truth, negation, junction, conditional, comparison, pair, longer, numeral, word, next_word, inverse, operation, shift, choice, formula, chain, expression, AssignmentsSpelling, one_assignment, and_assignment, an_assignment, assignments, StatementSpelling, BlockSpelling, skipping, assigning, awaiting, branching, looping, one_statement, and_statement, statement, block, SpecSpelling, specification, PartSpelling, PartsSpelling, one_part, and_part, a_part, parts}

-- before r and before s it has as many
mutual
  pub formula_length : (f : FormulaSpelling) (r s : List Lexeme) → length (formula f r) + length s ≡ length (formula f s) + length r
  formula_length (truth b) r s = omega arith
  formula_length (negation f) r s = let a = formula_length f r s in omega (arith, a)
  formula_length (junction j c) r s = let a = chain_length c j (fixed Close ∷ r) (fixed Close ∷ s) in omega (arith, a)
  formula_length (conditional d f g) r s =
      let a = formula_length f (fixed (Imply d) ∷ formula g (fixed Close ∷ r)) (fixed (Imply d) ∷ formula g (fixed Close ∷ s)) in
      let b = formula_length g (fixed Close ∷ r) (fixed Close ∷ s) in
      omega (arith, a, b)
  formula_length (comparison c x y) r s =
      let a = expression_length x (fixed (Compare c) ∷ expression y (fixed Close ∷ r)) (fixed (Compare c) ∷ expression y (fixed Close ∷ s)) in
      let b = expression_length y (fixed Close ∷ r) (fixed Close ∷ s) in
      omega (arith, a, b)

  chain_length : (c : ChainSpelling) (j : Junction) (r s : List Lexeme) → length (chain j c r) + length s ≡ length (chain j c s) + length r
  chain_length (pair f g) j r s =
      let a = formula_length f (fixed (Join j) ∷ formula g r) (fixed (Join j) ∷ formula g s) in
      let b = formula_length g r s in
      omega (arith, a, b)
  chain_length (longer c f) j r s =
      let a = chain_length c j (fixed (Join j) ∷ formula f r) (fixed (Join j) ∷ formula f s) in
      let b = formula_length f r s in
      omega (arith, a, b)

  pub expression_length : (x : ExpressionSpelling) (r s : List Lexeme) → length (expression x r) + length s ≡ length (expression x s) + length r
  expression_length (numeral leaf) r s = omega arith
  expression_length (word leaf) r s = omega arith
  expression_length (next_word leaf) r s = omega arith
  expression_length (inverse x) r s = let a = expression_length x r s in omega (arith, a)
  expression_length (operation o x y) r s =
      let a = expression_length x (fixed (Operate o) ∷ expression y (fixed Close ∷ r)) (fixed (Operate o) ∷ expression y (fixed Close ∷ s)) in
      let b = expression_length y (fixed Close ∷ r) (fixed Close ∷ s) in
      omega (arith, a, b)
  expression_length (shift h x leaf) r s =
      let a = expression_length x (fixed (ShiftBy h) ∷ grammar.number leaf ∷ fixed Close ∷ r) (fixed (ShiftBy h) ∷ grammar.number leaf ∷ fixed Close ∷ s) in
      omega (arith, a)
  expression_length (choice i f x y) r s =
      let a = formula_length f (fixed Then ∷ expression x (fixed Else ∷ expression y (fixed Close ∷ r))) (fixed Then ∷ expression x (fixed Else ∷ expression y (fixed Close ∷ s))) in
      let b = expression_length x (fixed Else ∷ expression y (fixed Close ∷ r)) (fixed Else ∷ expression y (fixed Close ∷ s)) in
      let c = expression_length y (fixed Close ∷ r) (fixed Close ∷ s) in
      omega (arith, a, b, c)

pub assignments_length : (as_ : AssignmentsSpelling) (r s : List Lexeme) → length (assignments as_ r) + length s ≡ length (assignments as_ s) + length r
assignments_length (one_assignment a) r s = let e = expression_length a.value r s in omega (arith, e)
assignments_length (and_assignment as_ a) r s =
    let d = assignments_length as_ (fixed Semicolon ∷ an_assignment a r) (fixed Semicolon ∷ an_assignment a s) in
    let e = expression_length a.value r s in
    omega (arith, d, e)

mutual
  pub statement_length : (t : StatementSpelling) (r s : List Lexeme) → length (statement t r) + length s ≡ length (statement t s) + length r
  statement_length (skipping i) r s = omega arith
  statement_length (assigning a) r s = let e = expression_length a.value r s in omega (arith, e)
  statement_length (awaiting i f as_) r s =
      let a = formula_length f (fixed (Section Do) ∷ assignments as_ (fixed (Section End) ∷ r)) (fixed (Section Do) ∷ assignments as_ (fixed (Section End) ∷ s)) in
      let b = assignments_length as_ (fixed (Section End) ∷ r) (fixed (Section End) ∷ s) in
      omega (arith, a, b)
  statement_length (branching i f b c) r s =
      let x = formula_length f (fixed Then ∷ block b (fixed Else ∷ block c (fixed (Section End) ∷ r))) (fixed Then ∷ block b (fixed Else ∷ block c (fixed (Section End) ∷ s))) in
      let y = block_length b (fixed Else ∷ block c (fixed (Section End) ∷ r)) (fixed Else ∷ block c (fixed (Section End) ∷ s)) in
      let z = block_length c (fixed (Section End) ∷ r) (fixed (Section End) ∷ s) in
      omega (arith, x, y, z)
  statement_length (looping i f b) r s =
      let x = formula_length f (fixed (Section Do) ∷ block b (fixed (Section End) ∷ r)) (fixed (Section Do) ∷ block b (fixed (Section End) ∷ s)) in
      let y = block_length b (fixed (Section End) ∷ r) (fixed (Section End) ∷ s) in
      omega (arith, x, y)

  pub block_length : (b : BlockSpelling) (r s : List Lexeme) → length (block b r) + length s ≡ length (block b s) + length r
  block_length (one_statement t) r s = statement_length t r s
  block_length (and_statement b t) r s =
      let x = block_length b (fixed Semicolon ∷ statement t r) (fixed Semicolon ∷ statement t s) in
      let y = statement_length t r s in
      omega (arith, x, y)

pub specification_length : (x : SpecSpelling) (r s : List Lexeme) → length (specification x r) + length s ≡ length (specification x s) + length r
specification_length x r s =
    let a = formula_length x.pre (fixed (Section Rely) ∷ formula x.rely (fixed (Section Guar) ∷ formula x.guar (fixed (Section Post) ∷ formula x.post r))) (fixed (Section Rely) ∷ formula x.rely (fixed (Section Guar) ∷ formula x.guar (fixed (Section Post) ∷ formula x.post s))) in
    let b = formula_length x.rely (fixed (Section Guar) ∷ formula x.guar (fixed (Section Post) ∷ formula x.post r)) (fixed (Section Guar) ∷ formula x.guar (fixed (Section Post) ∷ formula x.post s)) in
    let c = formula_length x.guar (fixed (Section Post) ∷ formula x.post r) (fixed (Section Post) ∷ formula x.post s) in
    let d = formula_length x.post r s in
    omega (arith, a, b, c, d)

pub part_length : (p : PartSpelling) (r s : List Lexeme) → length (a_part p r) + length s ≡ length (a_part p s) + length r
part_length p r s =
    let a = specification_length p.spec (fixed (Section Begin) ∷ block p.body (fixed (Section End) ∷ r)) (fixed (Section Begin) ∷ block p.body (fixed (Section End) ∷ s)) in
    let b = block_length p.body (fixed (Section End) ∷ r) (fixed (Section End) ∷ s) in
    omega (arith, a, b)

pub parts_length : (ps : PartsSpelling) (r s : List Lexeme) → length (parts ps r) + length s ≡ length (parts ps s) + length r
parts_length (one_part p) r s = part_length p r s
parts_length (and_part ps p) r s =
    let a = parts_length ps (a_part p r) (a_part p s) in
    let b = part_length p r s in
    omega (arith, a, b)
