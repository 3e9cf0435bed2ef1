-- What is read of the first tokens of a program is what they begin.
use Rattle.std.proofs.Common.{◌≡◌, ℕ, zero, suc, ◌+◌, ◌-◌, ◌<◌, ◌≤◌, Bool, true, false, cond, List, [], ◌∷◌, ◌++◌, length, take, reverse, refl, sym, ap, ◌∙◌, arith, append_assoc, subst}
use Rattle.std.specs.List.{flat_map}
use Rattle.std.proofs.Math.Seq.{take-append_seam}
use Rattle.std.proofs.lemmas.List.{append-nil}
use Rattle.std.proofs.lemmas.Grind.{flat_map-append, reverse_onto}
use Rattle.rg_text.specs.Text.{Leaf}
use Rattle.rg_text.specs.declared.kind.Terminal.TheVariants.{Semicolon, Close, Compare, Operate, ShiftBy, Join, Imply, Section, Then, Else, Assign, Colon, Words}
use Rattle.rg_text.specs.declared.kind.Keyword.TheVariants.{Rely, Guar, Post, Part, Do, Begin, End, Pre, Fixed}
use Rattle.rg_text.specs.declared.kind.Junction.{Junction}
use Rattle.rg_syntax.specs.Grammar as grammar
use Rattle.rg_syntax.specs.Grammar.{Lexeme, fixed, WordsSpelling, one, more, marked, declaration, words, FormulaSpelling, ChainSpelling, ExpressionSpelling, truth, negation, junction, conditional, comparison, pair, longer, numeral, word, next_word, inverse, operation, shift, choice, formula, chain, expression, AssignmentsSpelling, one_assignment, and_assignment, an_assignment, assignments, StatementSpelling, BlockSpelling, skipping, assigning, awaiting, branching, looping, one_statement, and_statement, statement, block, SpecSpelling, specification, PartSpelling, PartsSpelling, one_part, and_part, a_part, parts, ProgramSpelling, program}
use Rattle.rg_syntax.specs.Written as syntax
use Rattle.rg_syntax.specs.Written.{Claim, AssignedTree, StatementTree, WrittenPart, listed}
use Rattle.rg_build.specs.Frames as frames
use Rattle.rg_build.specs.Frames.{whole, whole_value, negated, inverted, first, another, second, comparing, operating, chosen, condition, consequent, alternative, after_next}
use Rattle.rg_build.specs.Steps as steps
use Rattle.rg_build.specs.Steps.{is_apart, with_name, with_number}
use Rattle.rg_syntax.specs.Texts.{claim_of, chain_of, term_of, declared_words, assignments_of, statement_of, block_of, part_of, parts_of, program_of}
use Rattle.rg_build.specs.Inner.Drafts as draft
use Rattle.rg_build.specs.Inner.Drafts.{ReadFor, a_program_clause, a_part_clause, a_guard, an_act, a_branch_test, a_loop_test, BodyOf, a_then, an_else, a_loop, BlockSoFar, between_acts, between_statements, reading, Drafted, opened, with_claim, with_term, settled, rest_of, program_step, program_steps, no_token}
use Rattle.rg_build.specs.Inner.DraftLines.{own_lines, joined_line, item_lines, block_lines, part_lines, around_lines, open_lines, begun_lines}
use Rattle.rg_syntax.specs.Begun.{block_line, before_first, before_second, before_loop, before_body, statement_begun, items_begun, block_begun, part_begun, parts_begun, program_begun, OneBeginning, AllBegun}
use Rattle.rg_build.proofs.BegunLemmas.{statement_none, block_none, part_none, parts_none, met_all, block_head, joined_after, items_all, block_all, block_more, block_then, block_early, part_size, parts_more, parts_all, both, more_own, statement_some, second_size, branch_size, loop_size}
use Rattle.rg_build.proofs.BuildsPrograms.{at, within, with_words, clauses_of, with_clauses, in_part, settled_part, acting, is_several, inside, builds_program}
use Rattle.rg_build.proofs.Counts.{part_length}

-- after the first k of these tokens, F k is begun
record Goes (d : Drafted) (r : List Lexeme) (F : ℕ → List ℕ) : Type 0 where
  is : (k : ℕ) → begun_lines (program_steps d (take k r)) ≡ F k

goes_on : (d : Drafted) (l : Lexeme) (r : List Lexeme) (F : ℕ → List ℕ) → begun_lines d ≡ F 0 → Goes (program_step d l) r (λ k. F (suc k)) → Goes d (l ∷ r) F
goes_on d l r F e g = record { is = by }
  where
    by : (k : ℕ) → begun_lines (program_steps d (take k (l ∷ r))) ≡ F k
    by zero = e
    by (suc k) = g.is k

goes_as : (d : Drafted) (r : List Lexeme) (F G : ℕ → List ℕ) → ((k : ℕ) → F k ≡ G k) → Goes d r F → Goes d r G
goes_as d r F G e g = record { is = λ k. g.is k ∙ e k }

-- x before each of these tokens, and then G
abbrev wait : List ℕ → List Lexeme → (ℕ → List ℕ) → ℕ → List ℕ
wait x [] G k = G k
wait x (l ∷ ls) G zero = x
wait x (l ∷ ls) G (suc k) = wait x ls G k

-- F, from after these tokens
abbrev past : List Lexeme → (ℕ → List ℕ) → ℕ → List ℕ
past [] F k = F k
past (l ∷ ls) F k = past ls (λ n. F (suc n)) k

past_is : (ls : List Lexeme) (F : ℕ → List ℕ) (k : ℕ) → past ls F k ≡ F (length ls + k)
past_is [] F k = ap F (omega arith)
past_is (l ∷ ls) F k = past_is ls (λ n. F (suc n)) k ∙ ap F (omega arith)

wait_is : (x : List ℕ) (ls : List Lexeme) (F : ℕ → List ℕ) → ((k : ℕ) → k < length ls → F k ≡ x) → (k : ℕ) → wait x ls (past ls F) k ≡ F k
wait_is x [] F h k = refl
wait_is x (l ∷ ls) F h zero = sym (h zero (omega arith))
wait_is x (l ∷ ls) F h (suc k) = wait_is x ls (λ n. F (suc n)) (λ n lt. h (suc n) (omega (arith, lt))) k

waits : (d : Drafted) (l m : Lexeme) (r q : List Lexeme) (x : List ℕ) (G : ℕ → List ℕ) → begun_lines d ≡ x → Goes (program_step d l) r (wait x q G) → Goes d (l ∷ r) (wait x (m ∷ q) G)
waits d l m r q x G e g = goes_on d l r (wait x (m ∷ q) G) e g

-- inside a formula or a value nothing more is begun
module _ (d : Drafted) (w : ReadFor) (x : List ℕ) (e : begun_lines (within d w []) ≡ x) (G : ℕ → List ℕ) where
  keep : (os : List frames.Open) (l : Lexeme) (r q : List Lexeme) → Goes (program_step (within d w os) l) r (wait x q G) → Goes (within d w os) (l ∷ r) (wait x (l ∷ q) G)
  keep os l r q g = waits (within d w os) l l r q x G e g

  mutual
    claim_keeps : (f : FormulaSpelling) (os : List frames.Open) (r q : List Lexeme) → Goes (settled (rest_of d) w (steps.with_claim os (claim_of f))) r (wait x q G) → Goes (within d w os) (formula f r) (wait x (formula f q) G)
    claim_keeps (truth b) os r q g = keep os _ r q g
    claim_keeps (negation f) os r q g = keep os _ _ _ (claim_keeps f (negated ∷ os) r q g)
    claim_keeps (junction j c) os r q g = keep os _ _ _ (chain_keeps c j os (fixed Close ∷ r) (fixed Close ∷ q) (keep _ _ r q g))
    claim_keeps (conditional c f h) os r q g =
        keep os _ _ _ (claim_keeps f (first ∷ os) (fixed (Imply c) ∷ formula h (fixed Close ∷ r)) (fixed (Imply c) ∷ formula h (fixed Close ∷ q))
        (keep _ _ _ _ (claim_keeps h (second c (claim_of f) ∷ os) (fixed Close ∷ r) (fixed Close ∷ q) (keep _ _ r q g))))
    claim_keeps (comparison c a b) os r q g =
        keep os _ _ _ (term_keeps a (first ∷ os) (fixed (Compare c) ∷ expression b (fixed Close ∷ r)) (fixed (Compare c) ∷ expression b (fixed Close ∷ q)) refl
        (keep _ _ _ _ (term_keeps b (comparing c (term_of a) ∷ os) (fixed Close ∷ r) (fixed Close ∷ q) refl (keep _ _ r q g))))

    chain_keeps : (c : ChainSpelling) (j : Junction) (os : List frames.Open) (r q : List Lexeme) → Goes (within d w (after_next j (chain_of c j) ∷ os)) r (wait x q G) → Goes (within d w (first ∷ os)) (chain j c r) (wait x (chain j c q) G)
    chain_keeps (pair f h) j os r q g =
        claim_keeps f (first ∷ os) (fixed (Join j) ∷ formula h r) (fixed (Join j) ∷ formula h q) (keep _ _ _ _ (claim_keeps h (another j (claim_of f) ∷ os) r q g))
    chain_keeps (longer c f) j os r q g =
        chain_keeps c j os (fixed (Join j) ∷ formula f r) (fixed (Join j) ∷ formula f q) (keep _ _ _ _ (claim_keeps f (another j (chain_of c j) ∷ os) r q g))

    term_keeps : (a : ExpressionSpelling) (os : List frames.Open) (r q : List Lexeme) → is_apart os ≡ false → Goes (settled (rest_of d) w (steps.with_term os (term_of a))) r (wait x q G) → Goes (within d w os) (expression a r) (wait x (expression a q) G)
    term_keeps (numeral text) os r q h g =
        keep os (grammar.number text) r q (subst (λ b. Goes (settled (rest_of d) w (cond b (with_number os text) (steps.with_term os (syntax.number text)))) r (wait x q G)) (sym h) g)
    term_keeps (word text) os r q h g =
        keep os (grammar.name text) r q (subst (λ b. Goes (settled (rest_of d) w (cond b (with_name os text) (steps.with_term os (syntax.word text)))) r (wait x q G)) (sym h) g)
    term_keeps (next_word text) os r q h g = keep os _ r q g
    term_keeps (inverse a) os r q h g = keep os _ _ _ (term_keeps a (inverted ∷ os) r q refl g)
    term_keeps (operation o a b) os r q h g =
        keep os _ _ _ (term_keeps a (first ∷ os) (fixed (Operate o) ∷ expression b (fixed Close ∷ r)) (fixed (Operate o) ∷ expression b (fixed Close ∷ q)) refl
        (keep _ _ _ _ (term_keeps b (operating o (term_of a) ∷ os) (fixed Close ∷ r) (fixed Close ∷ q) refl (keep _ _ r q g))))
    term_keeps (shift s a text) os r q h g =
        keep os _ _ _ (term_keeps a (first ∷ os) (fixed (ShiftBy s) ∷ grammar.number text ∷ fixed Close ∷ r) (fixed (ShiftBy s) ∷ grammar.number text ∷ fixed Close ∷ q) refl
        (keep _ _ (grammar.number text ∷ fixed Close ∷ r) (grammar.number text ∷ fixed Close ∷ q) (keep _ _ (fixed Close ∷ r) (fixed Close ∷ q) (keep _ _ r q g))))
    term_keeps (choice i f a b) os r q h g =
        let all = λ (t : List Lexeme). formula f (fixed Then ∷ expression a (fixed Else ∷ expression b (fixed Close ∷ t))) in
        keep os _ (grammar.opening grammar.an_if i ∷ all r) (grammar.opening grammar.an_if i ∷ all q) (keep _ _ (all r) (all q)
        (claim_keeps f (condition ∷ chosen ∷ os) (fixed Then ∷ expression a (fixed Else ∷ expression b (fixed Close ∷ r))) (fixed Then ∷ expression a (fixed Else ∷ expression b (fixed Close ∷ q)))
        (keep _ _ _ _ (term_keeps a (consequent (claim_of f) ∷ chosen ∷ os) (fixed Else ∷ expression b (fixed Close ∷ r)) (fixed Else ∷ expression b (fixed Close ∷ q)) refl
        (keep _ _ _ _ (term_keeps b (alternative (claim_of f) (term_of a) ∷ chosen ∷ os) (fixed Close ∷ r) (fixed Close ∷ q) refl (keep _ _ r q g)))))))

  whole_keeps : (f : FormulaSpelling) (r q : List Lexeme) → Goes (with_claim (rest_of d) w (claim_of f)) r (wait x q G) → Goes (within d w (whole ∷ [])) (formula f r) (wait x (formula f q) G)
  whole_keeps f r q g = claim_keeps f (whole ∷ []) r q g

  value_keeps : (a : ExpressionSpelling) (r q : List Lexeme) → Goes (with_term (rest_of d) w (term_of a)) r (wait x q G) → Goes (within d w (whole_value ∷ [])) (expression a r) (wait x (expression a q) G)
  value_keeps a r q g = term_keeps a (whole_value ∷ []) r q refl g

stretch : (d : Drafted) (r : List Lexeme) (x : List ℕ) (ls : List Lexeme) (F : ℕ → List ℕ) → ((k : ℕ) → k < length ls → F k ≡ x) → Goes d r (wait x ls (past ls F)) → Goes d r F
stretch d r x ls F h g = goes_as d r (wait x ls (past ls F)) F (wait_is x ls F h) g

-- from after the first tokens
after : (d : Drafted) (r ls : List Lexeme) (F : ℕ → List ℕ) → Goes d r (λ k. F (length ls + k)) → Goes d r (past ls F)
after d r ls F g = goes_as d r (λ k. F (length ls + k)) (past ls F) (λ k. sym (past_is ls F k)) g

-- from another place
elsewhere : (d : Drafted) (r : List Lexeme) (F : ℕ → List ℕ) (a b : ℕ → ℕ) → ((k : ℕ) → a k ≡ b k) → Goes d r (λ k. F (a k)) → Goes d r (λ k. F (b k))
elsewhere d r F a b e g = goes_as d r (λ k. F (a k)) (λ k. F (b k)) (λ k. ap F (e k)) g

-- what is begun before the innermost statements
abbrev before : Drafted → List BlockSoFar → List ℕ
before d bs = part_lines d.parts ++ flat_map open_lines (reverse bs)

before_place : (d : Drafted) (bs : List BlockSoFar) (ls : List ℕ) → part_lines d.parts ++ (flat_map open_lines (reverse bs) ++ ls) ≡ before d bs ++ ls
before_place d bs ls = sym (append_assoc (part_lines d.parts) (flat_map open_lines (reverse bs)) ls)

settled_is : (d : Drafted) (bs : List BlockSoFar) (n : Leaf) → begun_lines (settled_part d bs n) ≡ before d bs
settled_is d bs n = before_place d bs [] ∙ append-nil (before d bs)

open_is : (d : Drafted) (b : BlockSoFar) (bs : List BlockSoFar) → before d (b ∷ bs) ≡ before d bs ++ open_lines b
open_is d b bs =
    let all = flat_map open_lines (reverse bs) in
    ap (λ ls. part_lines d.parts ++ flat_map open_lines ls) (reverse_onto bs b [])
    ∙ ap (λ ls. part_lines d.parts ++ ls) (flat_map-append open_lines (reverse bs) (b ∷ []) ∙ ap (λ ls. all ++ ls) (append-nil (open_lines b)))
    ∙ sym (append_assoc (part_lines d.parts) all (open_lines b))

opened_is : (d : Drafted) (a : BodyOf) (bs : List BlockSoFar) → before d (opened a bs) ≡ before d bs ++ around_lines a
opened_is d a bs = open_is d (record { around = a; statements = []; joined = false }) bs ∙ ap (λ ls. before d bs ++ ls) (append-nil (around_lines a))

several_own : (b : BlockSpelling) → cond (is_several b) (joined_line (block_of b)) [] ≡ own_lines (listed (block_of b))
several_own (one_statement s) = refl
several_own (and_statement b s) = block_head (and_statement b s) ∙ sym (more_own (block_of b) (statement_of s) (block_line b) (block_head b))

-- with a whole block, and with what is before its next statement
inside_is : (d : Drafted) (a : BodyOf) (bs : List BlockSoFar) (b : BlockSpelling) → before d (inside a (block_of b) (is_several b) bs) ≡ (before d bs ++ around_lines a) ++ block_lines (listed (block_of b))
inside_is d a bs b =
    open_is d (record { around = a; statements = block_of b; joined = is_several b }) bs
    ∙ ap (λ ls. before d bs ++ (around_lines a ++ (ls ++ item_lines (listed (block_of b))))) (several_own b)
    ∙ sym (append_assoc (before d bs) (around_lines a) (block_lines (listed (block_of b))))

joined_is : (d : Drafted) (a : BodyOf) (bs : List BlockSoFar) (b : BlockSpelling) → before d (inside a (block_of b) true bs) ≡ (before d bs ++ around_lines a) ++ (block_line b ∷ item_lines (listed (block_of b)))
joined_is d a bs b =
    open_is d (record { around = a; statements = block_of b; joined = true }) bs
    ∙ ap (λ ls. before d bs ++ (around_lines a ++ (ls ++ item_lines (listed (block_of b))))) (block_head b)
    ∙ sym (append_assoc (before d bs) (around_lines a) (block_line b ∷ item_lines (listed (block_of b))))

-- the assignments of an await
acts_keep : (as_ : AssignmentsSpelling) (d : Drafted) (bs : List BlockSoFar) (n i : Leaf) (f : Claim) (x : List ℕ) (e : part_lines d.parts ++ (flat_map open_lines (reverse bs) ++ i.line ∷ []) ≡ x) (G : ℕ → List ℕ) (r q : List Lexeme) → Goes (acting d bs n i f (assignments_of as_)) r (wait x q G) → Goes (acting d bs n i f []) (assignments as_ r) (wait x (assignments as_ q) G)
acts_keep (one_assignment a) d bs n i f x e G r q g =
    waits (acting d bs n i f []) (grammar.name a.target) (grammar.name a.target) (fixed Assign ∷ expression a.value r) (fixed Assign ∷ expression a.value q) x G e
    (waits (within (acting d bs n i f []) (an_act n i a.target) (whole_value ∷ [])) (fixed Assign) (fixed Assign) (expression a.value r) (expression a.value q) x G e
    (value_keeps (acting d bs n i f []) (an_act n i a.target) x e G a.value r q g))
acts_keep (and_assignment as_ a) d bs n i f x e G r q g =
    acts_keep as_ d bs n i f x e G (fixed Semicolon ∷ an_assignment a r) (fixed Semicolon ∷ an_assignment a q)
    (waits (acting d bs n i f (assignments_of as_)) (fixed Semicolon) (fixed Semicolon) (an_assignment a r) (an_assignment a q) x G e
    (waits (acting d bs n i f (assignments_of as_)) (grammar.name a.target) (grammar.name a.target) (fixed Assign ∷ expression a.value r) (fixed Assign ∷ expression a.value q) x G e
    (waits (within (acting d bs n i f (assignments_of as_)) (an_act n i a.target) (whole_value ∷ [])) (fixed Assign) (fixed Assign) (expression a.value r) (expression a.value q) x G e
    (value_keeps (acting d bs n i f (assignments_of as_)) (an_act n i a.target) x e G a.value r q g))))

-- F is what the first tokens of this statement begin, after these
abbrev Begins : (s : StatementSpelling) → List ℕ → (ℕ → List ℕ) → Type 0
Begins s P F = (k : ℕ) → k < length (statement s []) → F k ≡ P ++ statement_begun s k

starts : (s : StatementSpelling) (d : Drafted) (bs : List BlockSoFar) (n : Leaf) (F : ℕ → List ℕ) → Begins s (before d bs) F → begun_lines (settled_part d bs n) ≡ F 0
starts s d bs n F h =
    settled_is d bs n ∙ sym (append-nil (before d bs)) ∙ ap (λ ls. before d bs ++ ls) (sym (statement_none s 0 refl)) ∙ sym (h 0 (statement_some s))

first_only : (P : List ℕ) (line : ℕ) (X Y Z : List ℕ) → X ≡ Z → Y ≡ [] → P ++ (line ∷ (X ++ Y)) ≡ (P ++ line ∷ []) ++ Z
first_only P line X Y Z e f =
    ap (λ ls. P ++ (line ∷ ls)) (both e f ∙ append-nil Z) ∙ sym (append_assoc P (line ∷ []) Z)

second_too : (P : List ℕ) (line : ℕ) (X Y Z U : List ℕ) → X ≡ Z → Y ≡ U → P ++ (line ∷ (X ++ Y)) ≡ (P ++ line ∷ Z) ++ U
second_too P line X Y Z U e f =
    ap (λ ls. P ++ (line ∷ ls)) (both e f) ∙ sym (append_assoc P (line ∷ Z) U)

-- what is begun in a branch, in its first block and in its second, and in a loop
in_first : (i : Leaf) (f : FormulaSpelling) (b c : BlockSpelling) (P : List ℕ) (F : ℕ → List ℕ) → Begins (branching i f b c) P F → (k : ℕ) → k ≤ length (block b []) → F (length (before_first i f) + k) ≡ (P ++ i.line ∷ []) ++ block_begun b k
in_first i f b c P F h k le =
    let n = length (before_first i f) + k in
    let x = second_size i f b in
    let y = branch_size i f b c in
    h n (omega (arith, le, x, y))
    ∙ ap (λ ls. P ++ (ls ++ (block_begun b (n - length (before_first i f)) ++ block_begun c (n - length (before_second i f b))))) (met_all n i.line (omega arith))
    ∙ first_only P i.line (block_begun b (n - length (before_first i f))) (block_begun c (n - length (before_second i f b))) (block_begun b k) (ap (block_begun b) (omega arith)) (block_none c (n - length (before_second i f b)) (omega (arith, le, x)))

in_second : (i : Leaf) (f : FormulaSpelling) (b c : BlockSpelling) (P : List ℕ) (F : ℕ → List ℕ) → Begins (branching i f b c) P F → (k : ℕ) → k ≤ length (block c []) → F (length (before_second i f b) + k) ≡ (P ++ i.line ∷ block_lines (listed (block_of b))) ++ block_begun c k
in_second i f b c P F h k le =
    let n = length (before_second i f b) + k in
    let x = second_size i f b in
    let y = branch_size i f b c in
    h n (omega (arith, le, y))
    ∙ ap (λ ls. P ++ (ls ++ (block_begun b (n - length (before_first i f)) ++ block_begun c (n - length (before_second i f b))))) (met_all n i.line (omega (arith, x)))
    ∙ second_too P i.line (block_begun b (n - length (before_first i f))) (block_begun c (n - length (before_second i f b))) (block_lines (listed (block_of b))) (block_begun c k) (block_all b (n - length (before_first i f)) (omega (arith, x))) (ap (block_begun c) (omega arith))

in_loop : (i : Leaf) (f : FormulaSpelling) (b : BlockSpelling) (P : List ℕ) (F : ℕ → List ℕ) → Begins (looping i f b) P F → (k : ℕ) → k ≤ length (block b []) → F (length (before_loop i f) + k) ≡ (P ++ i.line ∷ []) ++ block_begun b k
in_loop i f b P F h k le =
    let n = length (before_loop i f) + k in
    let y = loop_size i f b in
    h n (omega (arith, le, y))
    ∙ ap (λ ls. P ++ (ls ++ block_begun b (n - length (before_loop i f)))) (met_all n i.line (omega arith))
    ∙ ap (λ j. P ++ (i.line ∷ block_begun b j)) (omega arith)
    ∙ sym (append_assoc P (i.line ∷ []) (block_begun b k))

-- before a block all its lines are those of its first token
early_first : (i : Leaf) (f : FormulaSpelling) (b c : BlockSpelling) (P : List ℕ) (F : ℕ → List ℕ) → Begins (branching i f b c) P F → (k : ℕ) → k < length (formula f (fixed Then ∷ [])) → F (suc k) ≡ P ++ i.line ∷ []
early_first i f b c P F h k lt =
    let x = second_size i f b in
    let y = branch_size i f b c in
    h (suc k) (omega (arith, lt, x, y))
    ∙ ap (λ ls. P ++ (i.line ∷ ls)) (both (block_none b (suc k - length (before_first i f)) (omega (arith, lt))) (block_none c (suc k - length (before_second i f b)) (omega (arith, lt, x))))

early_loop : (i : Leaf) (f : FormulaSpelling) (b : BlockSpelling) (P : List ℕ) (F : ℕ → List ℕ) → Begins (looping i f b) P F → (k : ℕ) → k < length (formula f (fixed (Section Do) ∷ [])) → F (suc k) ≡ P ++ i.line ∷ []
early_loop i f b P F h k lt =
    let y = loop_size i f b in
    h (suc k) (omega (arith, lt, y)) ∙ ap (λ ls. P ++ (i.line ∷ ls)) (block_none b (suc k - length (before_loop i f)) (omega (arith, lt)))

-- one more statement of a block
in_more : (b : BlockSpelling) (s : StatementSpelling) (Q : List ℕ) (F : ℕ → List ℕ) → ((k : ℕ) → k ≤ length (block (and_statement b s) []) → F k ≡ Q ++ block_begun (and_statement b s) k) → (k : ℕ) → k < length (statement s []) → F (length (block b []) + suc k) ≡ (Q ++ (block_line b ∷ item_lines (listed (block_of b)))) ++ statement_begun s k
in_more b s Q F h k lt =
    let n = length (block b []) + suc k in
    let x = block_more b s in
    let y = block_then b (fixed Semicolon) in
    h n (omega (arith, lt, x))
    ∙ ap (λ ls. Q ++ (ls ++ (items_begun b n ++ statement_begun s (n - length (block b (fixed Semicolon ∷ [])))))) (joined_after b s n (omega arith))
    ∙ second_too Q (block_line b) (items_begun b n) (statement_begun s (n - length (block b (fixed Semicolon ∷ [])))) (item_lines (listed (block_of b))) (statement_begun s k) (items_all b n (omega arith)) (ap (statement_begun s) (omega (arith, y)))

-- with all tokens of a block
ends : (b : BlockSpelling) (d : Drafted) (a : BodyOf) (bs : List BlockSoFar) (n : Leaf) (F : ℕ → List ℕ) → ((k : ℕ) → k ≤ length (block b []) → F k ≡ (before d bs ++ around_lines a) ++ block_begun b k) → begun_lines (settled_part d (inside a (block_of b) (is_several b) bs) n) ≡ F (length (block b []) + 0)
ends b d a bs n F h =
    let all = length (block b []) in
    settled_is d (inside a (block_of b) (is_several b) bs) n
    ∙ inside_is d a bs b
    ∙ ap (λ ls. (before d bs ++ around_lines a) ++ ls) (sym (block_all b (all + 0) (omega arith)))
    ∙ sym (h (all + 0) (omega arith))

mutual
  statement_goes : (s : StatementSpelling) (d : Drafted) (bs : List BlockSoFar) (n : Leaf) (r : List Lexeme) (F : ℕ → List ℕ) → Begins s (before d bs) F → Goes (settled_part d (draft.and_statement (statement_of s) bs) n) r (λ k. F (length (statement s []) + k)) → Goes (settled_part d bs n) (statement s r) F
  statement_goes (skipping i) d bs n r F h g =
      goes_on (settled_part d bs n) (grammar.opening grammar.a_skip i) r F (starts (skipping i) d bs n F h) (elsewhere _ r F (λ k. 1 + k) suc (λ k. omega arith) g)
  statement_goes (assigning a) d bs n r F h g =
      let x = before d bs ++ a.target.line ∷ [] in
      let e = before_place d bs (a.target.line ∷ []) in
      let ls = fixed Assign ∷ expression a.value [] in
      let w = draft.an_assignment n a.target in
      let G = past ls (λ k. F (suc k)) in
      goes_on (settled_part d bs n) (grammar.name a.target) (fixed Assign ∷ expression a.value r) F (starts (assigning a) d bs n F h)
      (stretch (within (settled_part d bs n) w (whole_value ∷ [])) (fixed Assign ∷ expression a.value r) x ls (λ k. F (suc k)) (λ k lt. h (suc k) (omega (arith, lt)))
      (waits (within (settled_part d bs n) w (whole_value ∷ [])) (fixed Assign) (fixed Assign) (expression a.value r) (expression a.value []) x G e
      (value_keeps (settled_part d bs n) w x e G a.value r []
      (after _ r ls (λ k. F (suc k)) (elsewhere _ r F (λ k. suc (length ls) + k) (λ k. suc (length ls + k)) (λ k. omega arith) g)))))
  statement_goes (awaiting i f as_) d bs n r F h g =
      let x = before d bs ++ i.line ∷ [] in
      let e = before_place d bs (i.line ∷ []) in
      let ls = formula f (fixed (Section Do) ∷ assignments as_ (fixed (Section End) ∷ [])) in
      let G = past ls (λ k. F (suc k)) in
      goes_on (settled_part d bs n) (grammar.opening grammar.an_await i) (formula f (fixed (Section Do) ∷ assignments as_ (fixed (Section End) ∷ r))) F (starts (awaiting i f as_) d bs n F h)
      (stretch (within (settled_part d bs n) (a_guard n i) (whole ∷ [])) (formula f (fixed (Section Do) ∷ assignments as_ (fixed (Section End) ∷ r))) x ls (λ k. F (suc k)) (λ k lt. h (suc k) (omega (arith, lt)))
      (whole_keeps (settled_part d bs n) (a_guard n i) x e G f (fixed (Section Do) ∷ assignments as_ (fixed (Section End) ∷ r)) (fixed (Section Do) ∷ assignments as_ (fixed (Section End) ∷ []))
      (waits (acting d bs n i (claim_of f) []) (fixed (Section Do)) (fixed (Section Do)) (assignments as_ (fixed (Section End) ∷ r)) (assignments as_ (fixed (Section End) ∷ [])) x G e
      (acts_keep as_ d bs n i (claim_of f) x e G (fixed (Section End) ∷ r) (fixed (Section End) ∷ [])
      (waits (acting d bs n i (claim_of f) (assignments_of as_)) (fixed (Section End)) (fixed (Section End)) r [] x G e
      (after _ r ls (λ k. F (suc k)) (elsewhere _ r F (λ k. suc (length ls) + k) (λ k. suc (length ls + k)) (λ k. omega arith) g)))))))
  statement_goes (branching i f b c) d bs n r F h g =
      let x = before d bs ++ i.line ∷ [] in
      let e = before_place d bs (i.line ∷ []) in
      let ls = formula f (fixed Then ∷ []) in
      let t = claim_of f in
      let G = past ls (λ k. F (suc k)) in
      let tail = block b (fixed Else ∷ block c (fixed (Section End) ∷ r)) in
      let A = length (before_first i f) in
      let B = length (before_second i f b) in
      let sb = second_size i f b in
      let sc = branch_size i f b c in
      goes_on (settled_part d bs n) (grammar.opening grammar.an_if i) (formula f (fixed Then ∷ tail)) F (starts (branching i f b c) d bs n F h)
      (stretch (within (settled_part d bs n) (a_branch_test n i) (whole ∷ [])) (formula f (fixed Then ∷ tail)) x ls (λ k. F (suc k)) (early_first i f b c (before d bs) F h)
      (whole_keeps (settled_part d bs n) (a_branch_test n i) x e G f (fixed Then ∷ tail) (fixed Then ∷ [])
      (waits (settled_part d (opened (a_then i t) bs) n) (fixed Then) (fixed Then) tail [] x G (settled_is d (opened (a_then i t) bs) n ∙ opened_is d (a_then i t) bs)
      (after (settled_part d (opened (a_then i t) bs) n) tail ls (λ k. F (suc k)) (elsewhere (settled_part d (opened (a_then i t) bs) n) tail F (λ k. A + k) (λ k. suc (length ls + k)) (λ k. omega arith)
      (block_goes b d (a_then i t) bs n (fixed Else) (block c (fixed (Section End) ∷ r)) (λ k. F (A + k)) (in_first i f b c (before d bs) F h)
      (elsewhere (settled_part d (opened (an_else i t (block_of b)) bs) n) (block c (fixed (Section End) ∷ r)) F (λ k. B + k) (λ k. A + (length (block b []) + suc k)) (λ k. omega (arith, sb))
      (block_goes c d (an_else i t (block_of b)) bs n (fixed (Section End)) r (λ k. F (B + k)) (in_second i f b c (before d bs) F h)
      (elsewhere (settled_part d (draft.and_statement (statement_of (branching i f b c)) bs) n) r F (λ k. length (statement (branching i f b c) []) + k) (λ k. B + (length (block c []) + suc k)) (λ k. omega (arith, sc)) g)))))))))
  statement_goes (looping i f b) d bs n r F h g =
      let x = before d bs ++ i.line ∷ [] in
      let e = before_place d bs (i.line ∷ []) in
      let ls = formula f (fixed (Section Do) ∷ []) in
      let t = claim_of f in
      let G = past ls (λ k. F (suc k)) in
      let tail = block b (fixed (Section End) ∷ r) in
      let A = length (before_loop i f) in
      let sb = loop_size i f b in
      goes_on (settled_part d bs n) (grammar.opening grammar.a_while i) (formula f (fixed (Section Do) ∷ tail)) F (starts (looping i f b) d bs n F h)
      (stretch (within (settled_part d bs n) (a_loop_test n i) (whole ∷ [])) (formula f (fixed (Section Do) ∷ tail)) x ls (λ k. F (suc k)) (early_loop i f b (before d bs) F h)
      (whole_keeps (settled_part d bs n) (a_loop_test n i) x e G f (fixed (Section Do) ∷ tail) (fixed (Section Do) ∷ [])
      (waits (settled_part d (opened (a_loop i t) bs) n) (fixed (Section Do)) (fixed (Section Do)) tail [] x G (settled_is d (opened (a_loop i t) bs) n ∙ opened_is d (a_loop i t) bs)
      (after (settled_part d (opened (a_loop i t) bs) n) tail ls (λ k. F (suc k)) (elsewhere (settled_part d (opened (a_loop i t) bs) n) tail F (λ k. A + k) (λ k. suc (length ls + k)) (λ k. omega arith)
      (block_goes b d (a_loop i t) bs n (fixed (Section End)) r (λ k. F (A + k)) (in_loop i f b (before d bs) F h)
      (elsewhere (settled_part d (draft.and_statement (statement_of (looping i f b)) bs) n) r F (λ k. length (statement (looping i f b) []) + k) (λ k. A + (length (block b []) + suc k)) (λ k. omega (arith, sb)) g)))))))

  block_goes : (b : BlockSpelling) (d : Drafted) (a : BodyOf) (bs : List BlockSoFar) (n : Leaf) (l : Lexeme) (r : List Lexeme) (F : ℕ → List ℕ) → ((k : ℕ) → k ≤ length (block b []) → F k ≡ (before d bs ++ around_lines a) ++ block_begun b k) → Goes (program_step (settled_part d (inside a (block_of b) (is_several b) bs) n) l) r (λ k. F (length (block b []) + suc k)) → Goes (settled_part d (opened a bs) n) (block b (l ∷ r)) F
  block_goes (one_statement s) d a bs n l r F h g =
      let size = length (statement s []) in
      statement_goes s d (opened a bs) n (l ∷ r) F (λ k lt. h k (omega (arith, lt)) ∙ ap (λ ls. ls ++ statement_begun s k) (sym (opened_is d a bs)))
      (goes_on (settled_part d (inside a (block_of (one_statement s)) false bs) n) l r (λ k. F (size + k)) (ends (one_statement s) d a bs n F h) g)
  block_goes (and_statement b s) d a bs n l r F h g =
      let size = length (statement s []) in
      let all = length (block b []) in
      let x = block_more b s in
      block_goes b d a bs n (fixed Semicolon) (statement s (l ∷ r)) F (λ k le. h k (omega (arith, le, x)) ∙ ap (λ ls. (before d bs ++ around_lines a) ++ ls) (block_early b s k le))
      (statement_goes s d (inside a (block_of b) true bs) n (l ∷ r) (λ k. F (all + suc k)) (λ k lt. in_more b s (before d bs ++ around_lines a) F h k lt ∙ ap (λ ls. ls ++ statement_begun s k) (sym (joined_is d a bs b)))
      (goes_on (settled_part d (inside a (block_of (and_statement b s)) true bs) n) l r (λ k. F (all + suc (size + k))) (ends (and_statement b s) d a bs n F h ∙ ap F (omega (arith, x)))
      (elsewhere (program_step (settled_part d (inside a (block_of (and_statement b s)) true bs) n) l) r F (λ k. length (block (and_statement b s) []) + suc k) (λ k. all + suc (size + suc k)) (λ k. omega (arith, x)) g)))

-- a part: nothing is begun before its body
part_goes : (q : PartSpelling) (ws : List syntax.DeclaredWord) (cs : List Claim) (ps : List WrittenPart) (r : List Lexeme) (F : ℕ → List ℕ) → ((k : ℕ) → k < length (a_part q []) → F k ≡ part_lines ps ++ part_begun q k) → Goes (with_clauses ws cs (ps ++ part_of q ∷ [])) r (λ k. F (length (a_part q []) + k)) → Goes (with_clauses ws cs ps) (a_part q r) F
part_goes q ws cs ps r F h g =
    let d = with_clauses ws cs ps in
    let w = a_part_clause q.name in
    let s = q.spec in
    let x = part_lines ps ++ [] in
    let ls = before_body q in
    let G = past ls F in
    let body = λ (t : List Lexeme). fixed (Section Begin) ∷ block q.body (fixed (Section End) ∷ t) in
    let post = λ (t : List Lexeme). fixed (Section Post) ∷ formula s.post t in
    let guar = λ (t : List Lexeme). fixed (Section Guar) ∷ formula s.guar (post t) in
    let rely = λ (t : List Lexeme). fixed (Section Rely) ∷ formula s.rely (guar t) in
    let none = fixed (Section Begin) ∷ [] in
    let c1 = in_part d (claim_of s.pre ∷ []) [] in
    let c2 = in_part d (claim_of s.pre ∷ claim_of s.rely ∷ []) [] in
    let c3 = in_part d (claim_of s.pre ∷ claim_of s.rely ∷ claim_of s.guar ∷ []) [] in
    let c4 = in_part d (clauses_of s) [] in
    let A = length (before_body q) in
    let size = part_size q in
    stretch d (a_part q r) x ls F (λ k lt. h k (omega (arith, lt, size)) ∙ ap (λ ys. part_lines ps ++ ys) (block_none q.body (k - A) (omega (arith, lt))))
    (waits d (fixed (Section Part)) (fixed (Section Part)) (grammar.name q.name ∷ specification s (body r)) (grammar.name q.name ∷ specification s none) x G refl
    (waits d (grammar.name q.name) (grammar.name q.name) (specification s (body r)) (specification s none) x G refl
    (waits (within d w (whole ∷ [])) (fixed (Section Pre)) (fixed (Section Pre)) (formula s.pre (rely (body r))) (formula s.pre (rely none)) x G refl
    (whole_keeps d w x refl G s.pre (rely (body r)) (rely none)
    (waits (within c1 w (whole ∷ [])) (fixed (Section Rely)) (fixed (Section Rely)) (formula s.rely (guar (body r))) (formula s.rely (guar none)) x G refl
    (whole_keeps c1 w x refl G s.rely (guar (body r)) (guar none)
    (waits (within c2 w (whole ∷ [])) (fixed (Section Guar)) (fixed (Section Guar)) (formula s.guar (post (body r))) (formula s.guar (post none)) x G refl
    (whole_keeps c2 w x refl G s.guar (post (body r)) (post none)
    (waits (within c3 w (whole ∷ [])) (fixed (Section Post)) (fixed (Section Post)) (formula s.post (body r)) (formula s.post none) x G refl
    (whole_keeps c3 w x refl G s.post (body r) none
    (waits (settled_part c4 (opened draft.a_part []) q.name) (fixed (Section Begin)) (fixed (Section Begin)) (block q.body (fixed (Section End) ∷ r)) [] x G refl
    (after (settled_part c4 (opened draft.a_part []) q.name) (block q.body (fixed (Section End) ∷ r)) ls F
    (block_goes q.body c4 draft.a_part [] q.name (fixed (Section End)) r (λ k. F (A + k))
    (λ k le. h (A + k) (omega (arith, le, size)) ∙ both (sym (append-nil (part_lines ps)) ∙ sym (append-nil (part_lines ps ++ []))) (ap (block_begun q.body) (omega arith)))
    (elsewhere (with_clauses ws cs (ps ++ part_of q ∷ [])) r F (λ k. length (a_part q []) + k) (λ k. A + (length (block q.body []) + suc k)) (λ k. omega (arith, size)) g))))))))))))))

parts_goes : (ps : PartsSpelling) (ws : List syntax.DeclaredWord) (cs : List Claim) (r : List Lexeme) (F : ℕ → List ℕ) → ((k : ℕ) → k < length (parts ps []) → F k ≡ parts_begun ps k) → Goes (with_clauses ws cs (parts_of ps)) r (λ k. F (length (parts ps []) + k)) → Goes (with_clauses ws cs []) (parts ps r) F
parts_goes (one_part q) ws cs r F h g = part_goes q ws cs [] r F h g
parts_goes (and_part ps q) ws cs r F h g =
    let n = length (parts ps []) in
    let size = parts_more ps q in
    parts_goes ps ws cs (a_part q r) F (λ k lt. h k (omega (arith, lt, size)) ∙ ap (λ ys. parts_begun ps k ++ ys) (part_none q (k - n) (omega (arith, lt))) ∙ append-nil (parts_begun ps k))
    (part_goes q ws cs (parts_of ps) r (λ k. F (n + k))
    (λ k lt. h (n + k) (omega (arith, lt, size)) ∙ both (parts_all ps (n + k) (omega arith)) (ap (part_begun q) (omega arith)))
    (elsewhere (with_clauses ws cs (parts_of ps ++ part_of q ∷ [])) r F (λ k. length (parts (and_part ps q) []) + k) (λ k. n + (length (a_part q []) + k)) (λ k. omega (arith, size)) g))

-- the declared words
declaration_keeps : (b : Bool) (n w : Leaf) (ws : List syntax.DeclaredWord) (G : ℕ → List ℕ) (r q : List Lexeme) → Goes (with_words (ws ++ record { fixed = b; name = n; width = w } ∷ [])) r (wait [] q G) → Goes (with_words ws) (marked b (grammar.name n ∷ fixed Colon ∷ grammar.number w ∷ r)) (wait [] (marked b (grammar.name n ∷ fixed Colon ∷ grammar.number w ∷ q)) G)
declaration_keeps true n w ws G r q g =
    let tail = λ (t : List Lexeme). fixed Colon ∷ grammar.number w ∷ t in
    waits (with_words ws) (fixed (Section Fixed)) (fixed (Section Fixed)) (grammar.name n ∷ tail r) (grammar.name n ∷ tail q) [] G refl
    (waits (at (with_words ws) (draft.in_words true)) (grammar.name n) (grammar.name n) (tail r) (tail q) [] G refl
    (waits (at (with_words ws) (draft.in_word true n)) (fixed Colon) (fixed Colon) (grammar.number w ∷ r) (grammar.number w ∷ q) [] G refl
    (waits (at (with_words ws) (draft.in_word true n)) (grammar.number w) (grammar.number w) r q [] G refl g)))
declaration_keeps false n w ws G r q g =
    let tail = λ (t : List Lexeme). fixed Colon ∷ grammar.number w ∷ t in
    waits (with_words ws) (grammar.name n) (grammar.name n) (tail r) (tail q) [] G refl
    (waits (at (with_words ws) (draft.in_word false n)) (fixed Colon) (fixed Colon) (grammar.number w ∷ r) (grammar.number w ∷ q) [] G refl
    (waits (at (with_words ws) (draft.in_word false n)) (grammar.number w) (grammar.number w) r q [] G refl g))

words_keep : (ws : WordsSpelling) (G : ℕ → List ℕ) (r q : List Lexeme) → Goes (with_words (declared_words ws)) r (wait [] q G) → Goes no_token (words ws r) (wait [] (words ws q) G)
words_keep (one w) G r q g =
    waits no_token (fixed Words) (fixed Words) (declaration w r) (declaration w q) [] G refl (declaration_keeps w.fixed w.name w.width [] G r q g)
words_keep (more ws w) G r q g = words_keep ws G (declaration w r) (declaration w q) (declaration_keeps w.fixed w.name w.width (declared_words ws) G r q g)

-- its specification
spec_keeps : (s : SpecSpelling) (ws : List syntax.DeclaredWord) (G : ℕ → List ℕ) (r q : List Lexeme) → Goes (with_clauses ws (clauses_of s) []) r (wait [] q G) → Goes (with_words ws) (specification s r) (wait [] (specification s q) G)
spec_keeps s ws G r q g =
    let w = a_program_clause in
    let post = λ (t : List Lexeme). fixed (Section Post) ∷ formula s.post t in
    let guar = λ (t : List Lexeme). fixed (Section Guar) ∷ formula s.guar (post t) in
    let rely = λ (t : List Lexeme). fixed (Section Rely) ∷ formula s.rely (guar t) in
    let c0 = with_clauses ws [] [] in
    let c1 = with_clauses ws (claim_of s.pre ∷ []) [] in
    let c2 = with_clauses ws (claim_of s.pre ∷ claim_of s.rely ∷ []) [] in
    let c3 = with_clauses ws (claim_of s.pre ∷ claim_of s.rely ∷ claim_of s.guar ∷ []) [] in
    waits (with_words ws) (fixed (Section Pre)) (fixed (Section Pre)) (formula s.pre (rely r)) (formula s.pre (rely q)) [] G refl
    (whole_keeps c0 w [] refl G s.pre (rely r) (rely q)
    (waits (within c1 w (whole ∷ [])) (fixed (Section Rely)) (fixed (Section Rely)) (formula s.rely (guar r)) (formula s.rely (guar q)) [] G refl
    (whole_keeps c1 w [] refl G s.rely (guar r) (guar q)
    (waits (within c2 w (whole ∷ [])) (fixed (Section Guar)) (fixed (Section Guar)) (formula s.guar (post r)) (formula s.guar (post q)) [] G refl
    (whole_keeps c2 w [] refl G s.guar (post r) (post q)
    (waits (within c3 w (whole ∷ [])) (fixed (Section Post)) (fixed (Section Post)) (formula s.post r) (formula s.post q) [] G refl
    (whole_keeps c3 w [] refl G s.post r q g)))))))

at_end : (d : Drafted) (F : ℕ → List ℕ) → ((k : ℕ) → begun_lines d ≡ F k) → Goes d [] F
at_end d F e = record { is = by }
  where
    by : (k : ℕ) → begun_lines (program_steps d (take k [])) ≡ F k
    by zero = e zero
    by (suc k) = e (suc k)

-- a program
program_goes : (p : ProgramSpelling) → Goes no_token (program p []) (program_begun p)
program_goes p =
    let ws = declared_words p.words in
    let cs = clauses_of p.spec in
    let ls = words p.words (specification p.spec []) in
    let n = length ls in
    let F = program_begun p in
    let G = past ls F in
    stretch no_token (program p []) [] ls F (λ k lt. parts_none p.parts (k - n) (omega (arith, lt)))
    (words_keep p.words G (specification p.spec (parts p.parts [])) (specification p.spec [])
    (spec_keeps p.spec ws G (parts p.parts []) []
    (after (with_clauses ws cs []) (parts p.parts []) ls F
    (parts_goes p.parts ws cs [] (λ k. F (n + k)) (λ k lt. ap (parts_begun p.parts) (omega arith))
    (at_end (with_clauses ws cs (parts_of p.parts)) (λ k. F (n + (length (parts p.parts []) + k)))
    (λ k. append-nil (part_lines (parts_of p.parts)) ∙ sym (parts_all p.parts (n + (length (parts p.parts []) + k) - n) (omega arith))))))))

-- the statements that are begun in what is read of these tokens
abbrev pub lines_begun : List Lexeme → List ℕ
lines_begun tokens = begun_lines (program_steps no_token tokens)

-- the tokens that a program goes on from
pub begun_is : (p : ProgramSpelling) (tokens rest : List Lexeme) → program p [] ≡ tokens ++ rest → lines_begun tokens ≡ program_begun p (length tokens)
begun_is p tokens rest e =
    ap lines_begun (sym (ap (take (length tokens)) e ∙ take-append_seam tokens rest)) ∙ (program_goes p).is (length tokens)

pub one_beginning : OneBeginning
one_beginning tokens a b p q =
    p.are ∙ sym (begun_is p.spelling tokens p.rest p.goes_on) ∙ begun_is q.spelling tokens q.rest q.goes_on ∙ sym q.are

-- a whole program begins as many statements as it has
pub all_begun : AllBegun
all_begun p =
    ap length (sym (begun_is p (program p []) [] (sym (append-nil (program p [])))))
    ∙ ap (λ d. length (begun_lines d)) (builds_program p)
    ∙ ap length (append-nil (part_lines (program_of p).parts))
    ∙ part_length (program_of p).parts
