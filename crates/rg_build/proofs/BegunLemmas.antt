-- The statements that the first tokens of a piece begin: none before its first token, and all where all its tokens are met.
use Rattle.std.proofs.Common.{◌≡◌, ℕ, zero, suc, ◌+◌, ◌-◌, ◌<◌, ◌≤◌, false, List, [], ◌∷◌, ◌++◌, length, refl, sym, ap, ◌∙◌, arith, append_assoc}
use Rattle.std.proofs.lemmas.List.{append-nil}
use Rattle.std.proofs.lemmas.Bool.{lt-ltb, le-ltb}
use Rattle.std.proofs.lemmas.Grind.{flat_map-append}
use Rattle.rg_text.specs.declared.kind.Terminal.TheVariants.{Semicolon, Section, Then, Else}
use Rattle.rg_text.specs.declared.kind.Keyword.TheVariants.{Begin, Do, End}
use Rattle.rg_text.specs.Text.{Leaf}
use Rattle.rg_syntax.specs.Grammar.{Lexeme, fixed, FormulaSpelling, StatementSpelling, BlockSpelling, skipping, assigning, awaiting, branching, looping, one_statement, and_statement, statement, block, PartSpelling, PartsSpelling, one_part, and_part, a_part, parts}
use Rattle.rg_syntax.specs.Written.{StatementTree, listed, WrittenPart}
use Rattle.rg_syntax.specs.Texts.{statement_of, block_of, part_of, parts_of}
use Rattle.rg_syntax.specs.Begun.{first_line, block_line, where_met, is_joined, own_begun, before_first, before_second, before_loop, before_body, statement_begun, items_begun, block_begun, part_begun, parts_begun}
use Rattle.rg_build.specs.Inner.DraftLines as draft
use Rattle.rg_build.specs.Inner.DraftLines.{own_lines, joined_line, statement_lines, item_lines, block_lines, part_lines}
use Rattle.rg_build.proofs.Lengths.{formula_length, block_length, specification_length, parts_length}

pub both : {a b c d : List ℕ} → a ≡ c → b ≡ d → a ++ b ≡ c ++ d
both p q = cc

-- no token
met_none : (n line : ℕ) → n ≡ 0 → where_met n line ≡ []
met_none n line e = rw e refl

joined_none : (b : BlockSpelling) (n : ℕ) → n ≡ 0 → is_joined b n ≡ false
joined_none (one_statement s) n e = refl
joined_none (and_statement b s) n e = rw (le-ltb (length (block b [])) n (omega (arith, e)), joined_none b n e) refl

own_none : (b : BlockSpelling) (n : ℕ) → n ≡ 0 → own_begun b n ≡ []
own_none b n e = rw (joined_none b n e) refl

mutual
  pub statement_none : (s : StatementSpelling) (n : ℕ) → n ≡ 0 → statement_begun s n ≡ []
  statement_none (skipping i) n e = met_none n i.line e
  statement_none (assigning a) n e = met_none n a.target.line e
  statement_none (awaiting i f as_) n e = met_none n i.line e
  statement_none (branching i f b c) n e =
      let p = n - length (before_first i f) in
      let q = n - length (before_second i f b) in
      both (met_none n i.line e) (both (both (own_none b p (omega (arith, e))) (items_none b p (omega (arith, e)))) (both (own_none c q (omega (arith, e))) (items_none c q (omega (arith, e)))))
  statement_none (looping i f b) n e =
      let p = n - length (before_loop i f) in
      both (met_none n i.line e) (both (own_none b p (omega (arith, e))) (items_none b p (omega (arith, e))))

  items_none : (b : BlockSpelling) (n : ℕ) → n ≡ 0 → items_begun b n ≡ []
  items_none (one_statement s) n e = statement_none s n e
  items_none (and_statement b s) n e = both (items_none b n e) (statement_none s (n - length (block b (fixed Semicolon ∷ []))) (omega (arith, e)))

pub block_none : (b : BlockSpelling) (n : ℕ) → n ≡ 0 → block_begun b n ≡ []
block_none b n e = both (own_none b n e) (items_none b n e)

pub part_none : (p : PartSpelling) (n : ℕ) → n ≡ 0 → part_begun p n ≡ []
part_none p n e = block_none p.body (n - length (before_body p)) (omega (arith, e))

pub parts_none : (ps : PartsSpelling) (n : ℕ) → n ≡ 0 → parts_begun ps n ≡ []
parts_none (one_part p) n e = part_none p n e
parts_none (and_part ps p) n e = both (parts_none ps n e) (part_none p (n - length (parts ps [])) (omega (arith, e)))

-- all tokens
pub met_all : (n line : ℕ) → 1 ≤ n → where_met n line ≡ line ∷ []
met_all zero line h = absurd (omega (arith, h))
met_all (suc n) line h = refl

line_is : (s : StatementSpelling) → draft.first_line (statement_of s) ≡ first_line s
line_is (skipping i) = refl
line_is (assigning a) = refl
line_is (awaiting i f as_) = refl
line_is (branching i f b c) = refl
line_is (looping i f b) = refl

more_joined : (ss : List StatementTree) (s : StatementTree) (line : ℕ) → joined_line ss ≡ line ∷ [] → joined_line (ss ++ s ∷ []) ≡ line ∷ []
more_joined [] s line e = cc
more_joined (t ∷ ts) s line e = e

pub block_head : (b : BlockSpelling) → joined_line (block_of b) ≡ block_line b ∷ []
block_head (one_statement s) = ap (λ n. n ∷ []) (line_is s)
block_head (and_statement b s) = more_joined (block_of b) (statement_of s) (block_line b) (block_head b)

pub more_own : (ss : List StatementTree) (s : StatementTree) (line : ℕ) → joined_line ss ≡ line ∷ [] → own_lines (listed (ss ++ s ∷ [])) ≡ line ∷ []
more_own [] s line e = cc
more_own (t ∷ []) s line e = e
more_own (t ∷ u ∷ us) s line e = e

pub more_items : (ss : List StatementTree) (s : StatementTree) → item_lines (listed (ss ++ s ∷ [])) ≡ item_lines (listed ss) ++ statement_lines s
more_items [] s = append-nil (statement_lines s)
more_items (t ∷ ts) s = ap (λ ls. statement_lines t ++ ls) (more_items ts s) ∙ sym (append_assoc (statement_lines t) (item_lines (listed ts)) (statement_lines s))

pub joined_after : (b : BlockSpelling) (s : StatementSpelling) (n : ℕ) → length (block b []) < n → own_begun (and_statement b s) n ≡ block_line b ∷ []
joined_after b s n h = rw (lt-ltb (length (block b [])) n h) refl

pub statement_some : (s : StatementSpelling) → 1 ≤ length (statement s [])
statement_some (skipping i) = omega arith
statement_some (assigning a) = omega arith
statement_some (awaiting i f as_) = omega arith
statement_some (branching i f b c) = omega arith
statement_some (looping i f b) = omega arith

-- the tokens of a block, a `;`, and those of a statement
pub block_more : (b : BlockSpelling) (s : StatementSpelling) → length (block (and_statement b s) []) ≡ length (block b []) + suc (length (statement s []))
block_more b s = let a = block_length b (fixed Semicolon ∷ statement s []) [] in omega (arith, a)

pub block_then : (b : BlockSpelling) (l : Lexeme) → length (block b (l ∷ [])) ≡ suc (length (block b []))
block_then b l = let a = block_length b (l ∷ []) [] in omega (arith, a)

-- the tokens of a branch, and of a loop
pub second_size : (i : Leaf) (f : FormulaSpelling) (b : BlockSpelling) → length (before_second i f b) ≡ length (before_first i f) + suc (length (block b []))
second_size i f b =
    let x = formula_length f (fixed Then ∷ block b (fixed Else ∷ [])) (fixed Then ∷ []) in
    let y = block_then b (fixed Else) in
    omega (arith, x, y)

pub branch_size : (i : Leaf) (f : FormulaSpelling) (b c : BlockSpelling) → length (statement (branching i f b c) []) ≡ length (before_second i f b) + suc (length (block c []))
branch_size i f b c =
    let x = formula_length f (fixed Then ∷ block b (fixed Else ∷ block c (fixed (Section End) ∷ []))) (fixed Then ∷ block b (fixed Else ∷ [])) in
    let y = block_length b (fixed Else ∷ block c (fixed (Section End) ∷ [])) (fixed Else ∷ []) in
    let z = block_then c (fixed (Section End)) in
    omega (arith, x, y, z)

pub loop_size : (i : Leaf) (f : FormulaSpelling) (b : BlockSpelling) → length (statement (looping i f b) []) ≡ length (before_loop i f) + suc (length (block b []))
loop_size i f b =
    let x = formula_length f (fixed (Section Do) ∷ block b (fixed (Section End) ∷ [])) (fixed (Section Do) ∷ []) in
    let y = block_then b (fixed (Section End)) in
    omega (arith, x, y)

own_all : (b : BlockSpelling) (n : ℕ) → length (block b []) ≤ n → own_begun b n ≡ own_lines (listed (block_of b))
own_all (one_statement s) n h = refl
own_all (and_statement b s) n h =
    let size = block_more b s in
    joined_after b s n (omega (arith, h, size)) ∙ sym (more_own (block_of b) (statement_of s) (block_line b) (block_head b))

mutual
  pub statement_all : (s : StatementSpelling) (n : ℕ) → length (statement s []) ≤ n → statement_begun s n ≡ statement_lines (statement_of s)
  statement_all (skipping i) n h = met_all n i.line h
  statement_all (assigning a) n h = met_all n a.target.line (omega (arith, h))
  statement_all (awaiting i f as_) n h = met_all n i.line (omega (arith, h))
  statement_all (branching i f b c) n h =
      let p = n - length (before_first i f) in
      let q = n - length (before_second i f b) in
      let x = branch_size i f b c in
      let y = second_size i f b in
      let first : length (block b []) ≤ p = omega (arith, h, x, y) in
      let second : length (block c []) ≤ q = omega (arith, h, x, y) in
      both (met_all n i.line (omega (arith, h))) (both (both (own_all b p first) (items_all b p first)) (both (own_all c q second) (items_all c q second)))
  statement_all (looping i f b) n h =
      let p = n - length (before_loop i f) in
      let x = loop_size i f b in
      let body : length (block b []) ≤ p = omega (arith, h, x) in
      both (met_all n i.line (omega (arith, h))) (both (own_all b p body) (items_all b p body))

  pub items_all : (b : BlockSpelling) (n : ℕ) → length (block b []) ≤ n → items_begun b n ≡ item_lines (listed (block_of b))
  items_all (one_statement s) n h = statement_all s n h ∙ sym (append-nil (statement_lines (statement_of s)))
  items_all (and_statement b s) n h =
      let size = block_more b s in
      let after = block_then b (fixed Semicolon) in
      both (items_all b n (omega (arith, h, size))) (statement_all s (n - length (block b (fixed Semicolon ∷ []))) (omega (arith, h, size, after)))
      ∙ sym (more_items (block_of b) (statement_of s))

pub block_all : (b : BlockSpelling) (n : ℕ) → length (block b []) ≤ n → block_begun b n ≡ block_lines (listed (block_of b))
block_all b n h = both (own_all b n h) (items_all b n h)

-- the tokens of a part
pub part_size : (p : PartSpelling) → length (a_part p []) ≡ length (before_body p) + suc (length (block p.body []))
part_size p =
    let a = specification_length p.spec (fixed (Section Begin) ∷ block p.body (fixed (Section End) ∷ [])) (fixed (Section Begin) ∷ []) in
    let b = block_then p.body (fixed (Section End)) in
    omega (arith, a, b)

pub part_all : (p : PartSpelling) (n : ℕ) → length (a_part p []) ≤ n → part_begun p n ≡ block_lines (part_of p).body
part_all p n h = let size = part_size p in block_all p.body (n - length (before_body p)) (omega (arith, h, size))

pub more_parts : (ps : List WrittenPart) (q : WrittenPart) → part_lines (ps ++ q ∷ []) ≡ part_lines ps ++ block_lines q.body
more_parts ps q =
    flat_map-append (λ (p : WrittenPart). block_lines p.body) ps (q ∷ []) ∙ ap (λ ls. part_lines ps ++ ls) (append-nil (block_lines q.body))

-- the tokens of parts, and of one more
pub parts_more : (ps : PartsSpelling) (q : PartSpelling) → length (parts (and_part ps q) []) ≡ length (parts ps []) + length (a_part q [])
parts_more ps q = let a = parts_length ps (a_part q []) [] in omega (arith, a)

pub parts_all : (ps : PartsSpelling) (n : ℕ) → length (parts ps []) ≤ n → parts_begun ps n ≡ part_lines (parts_of ps)
parts_all (one_part q) n h = part_all q n h ∙ sym (append-nil (block_lines (part_of q).body))
parts_all (and_part ps q) n h =
    let size = parts_more ps q in
    both (parts_all ps n (omega (arith, h, size))) (part_all q (n - length (parts ps [])) (omega (arith, h, size)))
    ∙ sym (more_parts (parts_of ps) (part_of q))

-- a block before the `;` after it
pub block_early : (b : BlockSpelling) (s : StatementSpelling) (n : ℕ) → n ≤ length (block b []) → block_begun (and_statement b s) n ≡ block_begun b n
block_early b s n h =
    let after = block_then b (fixed Semicolon) in
    rw (le-ltb (length (block b [])) n h)
    (ap (λ ls. own_begun b n ++ ls) (ap (λ ls. items_begun b n ++ ls) (statement_none s (n - length (block b (fixed Semicolon ∷ []))) (omega (arith, h, after))) ∙ append-nil (items_begun b n)))
