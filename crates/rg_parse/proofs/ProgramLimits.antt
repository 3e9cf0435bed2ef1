-- What the shape of a program keeps: its limits, and the names of its parts.
use Rattle.std.proofs.Common.{◌≡◌, ℕ, suc, ◌+◌, ◌≤◌, Bool, true, false, ◌||◌, nat_lt, List, [], ◌∷◌, ◌++◌, length, map, refl, sym, ap, ◌∙◌, arith, subst}
use Rattle.std.specs.List.{All}
use Rattle.std.proofs.lemmas.List.{length-append}
use Rattle.std.proofs.lemmas.List.Elements.{All-head, All-tail, All-cons, All-append}
use Rattle.std.proofs.lemmas.Bool.{ltb-true}
use Rattle.rg_words.specs.Names.{IsName}
use Rattle.rg_words.specs.declared.limits.TheConstants.{MOST_ASSIGNMENTS, MOST_PARTS, MOST_STATEMENTS, MOST_OPENERS}
use Rattle.rg_text.specs.Text.{text_of}
use Rattle.rg_text.specs.declared.kind.Terminal.TheVariants.{Semicolon, Close, Compare, Operate, ShiftBy, Join, Imply, Section, Then, Else}
use Rattle.rg_text.specs.declared.kind.Keyword.TheVariants.{Rely, Guar, Post, Do, Begin, End}
use Rattle.rg_text.specs.declared.kind.Junction.{Junction}
use Rattle.rg_syntax.specs.declared.written.PartText.{PartText}
use Rattle.rg_syntax.specs.Grammar as grammar
use Rattle.rg_syntax.specs.Grammar.{Lexeme, fixed, FormulaSpelling, ChainSpelling, ExpressionSpelling, truth, negation, junction, conditional, comparison, pair, longer, numeral, word, next_word, inverse, operation, shift, choice, formula, chain, expression, AssignmentsSpelling, one_assignment, and_assignment, an_assignment, assignments, StatementSpelling, BlockSpelling, skipping, assigning, awaiting, branching, looping, one_statement, and_statement, statement, block, SpecSpelling, specification, PartSpelling, PartsSpelling, one_part, and_part, a_part, parts, ProgramSpelling}
use Rattle.rg_syntax.specs.Limits as limits
use Rattle.rg_syntax.specs.Limits.{assignment_count, assignments_fit, statement_fits, block_fits, formula_fits, expression_fits, specification_fits, part_fits, parts_fit}
use Rattle.rg_syntax.specs.Written.{StatementTree, listed, WrittenPart, part_text}
use Rattle.rg_syntax.specs.ProgramLimits.{IsFullStatement, IsFullBlock, AreFull, AreFullParts, count_in_parts, IsWithinLimits}
use Rattle.rg_parse.proofs.Shown.{NamesOk}
use Rattle.rg_syntax.specs.Texts.{assignments_of, statement_of, block_of, part_of, parts_of, program_of}
use Rattle.rg_syntax.proofs.Clauses.{and_both}

-- what follows a piece of a text has names where all has
mutual
  formula_ok : (f : FormulaSpelling) (r : List Lexeme) → NamesOk (formula f r) → NamesOk r
  formula_ok (truth b) r h = h.1
  formula_ok (negation f) r h = formula_ok f r h.1
  formula_ok (junction j c) r h = (chain_ok c j (fixed Close ∷ r) h.1).1
  formula_ok (conditional d f g) r h = (formula_ok g (fixed Close ∷ r) (formula_ok f (fixed (Imply d) ∷ formula g (fixed Close ∷ r)) h.1).1).1
  formula_ok (comparison c a b) r h = (expression_ok b (fixed Close ∷ r) (expression_ok a (fixed (Compare c) ∷ expression b (fixed Close ∷ r)) h.1).1).1

  chain_ok : (c : ChainSpelling) (j : Junction) (r : List Lexeme) → NamesOk (chain j c r) → NamesOk r
  chain_ok (pair f g) j r h = formula_ok g r (formula_ok f (fixed (Join j) ∷ formula g r) h).1
  chain_ok (longer c f) j r h = formula_ok f r (chain_ok c j (fixed (Join j) ∷ formula f r) h).1

  expression_ok : (a : ExpressionSpelling) (r : List Lexeme) → NamesOk (expression a r) → NamesOk r
  expression_ok (numeral leaf) r h = h.1
  expression_ok (word leaf) r h = h.1
  expression_ok (next_word leaf) r h = h.1
  expression_ok (inverse a) r h = expression_ok a r h.1
  expression_ok (operation o a b) r h = (expression_ok b (fixed Close ∷ r) (expression_ok a (fixed (Operate o) ∷ expression b (fixed Close ∷ r)) h.1).1).1
  expression_ok (shift s a leaf) r h = (expression_ok a (fixed (ShiftBy s) ∷ grammar.number leaf ∷ fixed Close ∷ r) h.1).1.1.1
  expression_ok (choice i f a b) r h =
      (expression_ok b (fixed Close ∷ r) (expression_ok a (fixed Else ∷ expression b (fixed Close ∷ r)) (formula_ok f (fixed Then ∷ expression a (fixed Else ∷ expression b (fixed Close ∷ r))) h.1.1).1).1).1

assignments_ok : (as_ : AssignmentsSpelling) (r : List Lexeme) → NamesOk (assignments as_ r) → NamesOk r
assignments_ok (one_assignment a) r h = expression_ok a.value r h.1.1
assignments_ok (and_assignment as_ a) r h = expression_ok a.value r (assignments_ok as_ (fixed Semicolon ∷ an_assignment a r) h).1.1.1

mutual
  statement_ok : (s : StatementSpelling) (r : List Lexeme) → NamesOk (statement s r) → NamesOk r
  statement_ok (skipping i) r h = h.1
  statement_ok (assigning a) r h = expression_ok a.value r h.1.1
  statement_ok (awaiting i f as_) r h =
      (assignments_ok as_ (fixed (Section End) ∷ r) (formula_ok f (fixed (Section Do) ∷ assignments as_ (fixed (Section End) ∷ r)) h.1).1).1
  statement_ok (branching i f b c) r h =
      (block_ok c (fixed (Section End) ∷ r) (block_ok b (fixed Else ∷ block c (fixed (Section End) ∷ r)) (formula_ok f (fixed Then ∷ block b (fixed Else ∷ block c (fixed (Section End) ∷ r))) h.1).1).1).1
  statement_ok (looping i f b) r h =
      (block_ok b (fixed (Section End) ∷ r) (formula_ok f (fixed (Section Do) ∷ block b (fixed (Section End) ∷ r)) h.1).1).1

  block_ok : (b : BlockSpelling) (r : List Lexeme) → NamesOk (block b r) → NamesOk r
  block_ok (one_statement s) r h = statement_ok s r h
  block_ok (and_statement b s) r h = statement_ok s r (block_ok b (fixed Semicolon ∷ statement s r) h).1

pub specification_ok : (s : SpecSpelling) (r : List Lexeme) → NamesOk (specification s r) → NamesOk r
specification_ok s r h =
    formula_ok s.post r (formula_ok s.guar (fixed (Section Post) ∷ formula s.post r)
    (formula_ok s.rely (fixed (Section Guar) ∷ formula s.guar (fixed (Section Post) ∷ formula s.post r))
    (formula_ok s.pre (fixed (Section Rely) ∷ formula s.rely (fixed (Section Guar) ∷ formula s.guar (fixed (Section Post) ∷ formula s.post r))) h.1).1).1).1

part_ok : (q : PartSpelling) (r : List Lexeme) → NamesOk (a_part q r) → IsName q.name.text × NamesOk r
part_ok q r h =
    (h.1.0, (block_ok q.body (fixed (Section End) ∷ r) (specification_ok q.spec (fixed (Section Begin) ∷ block q.body (fixed (Section End) ∷ r)) h.1.1).1).1)

abbrev IsNamed : WrittenPart → Type 0
IsNamed p = IsName p.name.text

one_named : (q : PartSpelling) → IsName q.name.text → All IsNamed (part_of q ∷ [])
one_named q h = All-cons IsNamed (part_of q) [] h (λ k d less. absurd (omega arith))

pub parts_ok : (ps : PartsSpelling) (r : List Lexeme) → NamesOk (parts ps r) → All IsNamed (parts_of ps) × NamesOk r
parts_ok (one_part q) r h =
    let here = part_ok q r h in (one_named q here.0, here.1)
parts_ok (and_part ps q) r h =
    let front = parts_ok ps (a_part q r) h in
    let here = part_ok q r front.1 in
    (All-append IsNamed (parts_of ps) (part_of q ∷ []) front.0 (one_named q here.0), here.1)

-- so the tokens of parts that say these have names
pub parts_named : (src : List ℕ) (ps : List PartText) → All IsNamed (map (part_text src) ps) → All (λ p. IsName (text_of src p.name)) ps
parts_named src [] h = λ k d less. absurd (omega arith)
parts_named src (p ∷ ps) h =
    All-cons (λ q. IsName (text_of src q.name)) p ps (All-head IsNamed (part_text src p) (map (part_text src) ps) h)
    (parts_named src ps (All-tail IsNamed (part_text src p) (map (part_text src) ps) h))

-- a limit that is asked for
asked : (b : Bool) → (b || false) ≡ true → b ≡ true
asked true h = refl
asked false h = h

acts_length : (as_ : AssignmentsSpelling) → length (assignments_of as_) ≡ assignment_count as_
acts_length (one_assignment a) = refl
acts_length (and_assignment as_ a) = length-append (assignments_of as_) _ ∙ ap (λ n. n + 1) (acts_length as_)

acts_some : (as_ : AssignmentsSpelling) → 1 ≤ assignment_count as_
acts_some (one_assignment a) = omega arith
acts_some (and_assignment as_ a) = omega arith

acts_most : (as_ : AssignmentsSpelling) (n : ℕ) → assignments_fit true n as_ ≡ true → assignment_count as_ ≤ MOST_ASSIGNMENTS
acts_most (one_assignment a) n h = omega arith
acts_most (and_assignment as_ a) n h =
    let rest = (and_both (assignments_fit true n as_) _ h).1 in
    let less = ltb-true (assignment_count as_) MOST_ASSIGNMENTS (asked (nat_lt (assignment_count as_) MOST_ASSIGNMENTS) (and_both _ (expression_fits n a.value) rest).0) in
    omega (arith, less)

-- statements one by one
append_full : (ss : List StatementTree) (s : StatementTree) → AreFull (listed ss) → IsFullStatement s → AreFull (listed (ss ++ s ∷ []))
append_full [] s h f = (f, tt)
append_full (x ∷ xs) s h f = (h.0, append_full xs s h.1 f)

full_list : (ss : List StatementTree) → 1 ≤ length ss → AreFull (listed ss) → IsFullBlock (listed ss)
full_list [] less h = absurd (omega (arith, less))
full_list (s ∷ ss) less h = h

block_some : (b : BlockSpelling) → 1 ≤ length (block_of b)
block_some (one_statement s) = omega arith
block_some (and_statement b s) =
    let all = length-append (block_of b) (statement_of s ∷ []) in omega (arith, all)

mutual
  full_statement : (s : StatementSpelling) (n : ℕ) → statement_fits true n s ≡ true → IsFullStatement (statement_of s)
  full_statement (skipping i) n h = tt
  full_statement (assigning a) n h = tt
  full_statement (awaiting i f as_) n h =
      (subst (λ k. 1 ≤ k) (sym (acts_length as_)) (acts_some as_), subst (λ k. k ≤ MOST_ASSIGNMENTS) (sym (acts_length as_)) (acts_most as_ n (and_both (formula_fits n f) _ h).1))
  full_statement (branching i f b c) n h =
      let inner = (and_both (formula_fits (suc n) f) _ (and_both (nat_lt n MOST_OPENERS) _ h).1).1 in
      let blocks = and_both (block_fits true (suc n) b) (block_fits true (suc n) c) inner in
      (full_list (block_of b) (block_some b) (full_items b (suc n) blocks.0), full_list (block_of c) (block_some c) (full_items c (suc n) blocks.1))
  full_statement (looping i f b) n h =
      full_list (block_of b) (block_some b) (full_items b (suc n) (and_both (formula_fits (suc n) f) _ (and_both (nat_lt n MOST_OPENERS) _ h).1).1)

  full_items : (b : BlockSpelling) (n : ℕ) → block_fits true n b ≡ true → AreFull (listed (block_of b))
  full_items (one_statement s) n h = (full_statement s n h, tt)
  full_items (and_statement b s) n h =
      let both = and_both (block_fits true n b) (statement_fits true n s) h in
      append_full (block_of b) (statement_of s) (full_items b n both.0) (full_statement s n both.1)

full_block : (b : BlockSpelling) (n : ℕ) → block_fits true n b ≡ true → IsFullBlock (listed (block_of b))
full_block b n h = full_list (block_of b) (block_some b) (full_items b n h)

append_parts : (ps : List WrittenPart) (q : WrittenPart) → AreFullParts ps → IsFullBlock q.body → AreFullParts (ps ++ q ∷ [])
append_parts [] q h f = (f, tt)
append_parts (p ∷ ps) q h f = (h.0, append_parts ps q h.1 f)

full_part : (q : PartSpelling) → part_fits true q ≡ true → IsFullBlock (part_of q).body
full_part q h = full_block q.body 0 (and_both (specification_fits q.spec) (block_fits true 0 q.body) h).1

full_parts : (ps : PartsSpelling) → parts_fit true ps ≡ true → AreFullParts (parts_of ps)
full_parts (one_part q) h = (full_part q h, tt)
full_parts (and_part ps q) h =
    let both = and_both (parts_fit true ps) _ h in
    append_parts (parts_of ps) (part_of q) (full_parts ps both.0) (full_part q (and_both _ (part_fits true q) both.1).1)

parts_length : (ps : PartsSpelling) → length (parts_of ps) ≡ limits.part_count ps
parts_length (one_part q) = refl
parts_length (and_part ps q) = length-append (parts_of ps) _ ∙ ap (λ n. n + 1) (parts_length ps)

parts_some : (ps : PartsSpelling) → 1 ≤ limits.part_count ps
parts_some (one_part q) = omega arith
parts_some (and_part ps q) = omega arith

parts_most : (ps : PartsSpelling) → parts_fit true ps ≡ true → limits.part_count ps ≤ MOST_PARTS
parts_most (one_part q) h = omega arith
parts_most (and_part ps q) h =
    let rest = (and_both (parts_fit true ps) _ h).1 in
    let less = ltb-true (limits.part_count ps) MOST_PARTS (asked (nat_lt (limits.part_count ps) MOST_PARTS) (and_both _ (part_fits true q) rest).0) in
    omega (arith, less)

pub within_limits : (p : ProgramSpelling) → parts_fit true p.parts ≡ true → count_in_parts (program_of p).parts ≤ MOST_STATEMENTS → IsWithinLimits (program_of p)
within_limits p h most = record {
  full = full_parts p.parts h;
  some_part = subst (λ k. 1 ≤ k) (sym (parts_length p.parts)) (parts_some p.parts);
  most_parts = subst (λ k. k ≤ MOST_PARTS) (sym (parts_length p.parts)) (parts_most p.parts h);
  most_statements = most;
}
