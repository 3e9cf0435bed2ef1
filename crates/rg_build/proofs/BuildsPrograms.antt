-- What the tokens of a program build.
use Rattle.std.proofs.Common.{◌≡◌, ℕ, ◌+◌, ◌<◌, Bool, true, false, cond, List, [], ◌∷◌, ◌++◌, map, length, take, get_or, Some, refl, sym, ap, ◌∙◌}
use Rattle.std.proofs.lemmas.List.{take_more, map-append}
use Rattle.rg_text.specs.Text.{Leaf}
use Rattle.rg_text.specs.declared.token.Token.{Token}
use Rattle.rg_text.specs.declared.kind.Terminal.TheVariants.{Colon, Semicolon, Close, Compare, Operate, ShiftBy, Join, Imply, Section, Then, Else}
use Rattle.rg_text.specs.declared.kind.Keyword.TheVariants.{Rely, Guar, Post, Part, Do, Begin, End}
use Rattle.rg_text.specs.declared.kind.Junction.{Junction}
use Rattle.rg_syntax.specs.Grammar as grammar
use Rattle.rg_syntax.specs.Grammar.{Lexeme, fixed, lexeme_of, WordsSpelling, one, more, marked, declaration, words, FormulaSpelling, ChainSpelling, ExpressionSpelling, truth, negation, junction, conditional, comparison, pair, longer, numeral, word, next_word, inverse, operation, shift, choice, formula, chain, expression, AssignmentsSpelling, one_assignment, and_assignment, an_assignment, assignments, StatementSpelling, BlockSpelling, skipping, assigning, awaiting, branching, looping, one_statement, and_statement, statement, block, SpecSpelling, specification, PartSpelling, PartsSpelling, one_part, and_part, a_part, parts, ProgramSpelling, program}
use Rattle.rg_syntax.specs.Written as syntax
use Rattle.rg_syntax.specs.Written.{Claim, AssignedTree, StatementTree, WrittenPart, SpecTree, number}
use Rattle.rg_build.specs.Frames as frames
use Rattle.rg_build.specs.Frames.{whole, whole_value, negated, inverted, first, another, second, comparing, operating, chosen, condition, consequent, alternative, after_next}
use Rattle.rg_build.specs.Steps as steps
use Rattle.rg_build.specs.Steps.{is_apart, with_name, with_number}
use Rattle.rg_syntax.specs.Texts.{claim_of, chain_of, term_of, declared_words, spec_of, assignments_of, statement_of, block_of, part_of, parts_of, program_of}
use Rattle.rg_build.specs.Inner.Drafts as draft
use Rattle.rg_build.specs.Inner.Drafts.{ReadFor, a_program_clause, a_part_clause, a_guard, an_act, a_branch_test, a_loop_test, BodyOf, a_then, an_else, a_loop, BlockSoFar, PlaceSoFar, in_words, between_parts, between_statements, between_acts, reading, Drafted, opened, with_statement, with_claim, with_term, settled, rest_of, program_step, program_steps, no_token, whole_program}
use Rattle.rg_syntax.specs.OneReading.{OneProgram}

-- what is read, at another place
abbrev pub at : Drafted → PlaceSoFar → Drafted
at d p = record d { place = p }

-- in a formula or a value
abbrev pub within : Drafted → ReadFor → List frames.Open → Drafted
within d w os = record d { within = os; place = reading w }

-- a formula or a value that is read, whatever for
mutual
  reads_claim : (d : Drafted) (w : ReadFor) (f : FormulaSpelling) (os : List frames.Open) (r : List Lexeme) → program_steps (within d w os) (formula f r) ≡ program_steps (settled (rest_of d) w (steps.with_claim os (claim_of f))) r
  reads_claim d w (truth b) os r = refl
  reads_claim d w (negation f) os r = reads_claim d w f (negated ∷ os) r
  reads_claim d w (junction j c) os r = reads_chain d w c j os (fixed Close ∷ r)
  reads_claim d w (conditional c f g) os r =
      reads_claim d w f (first ∷ os) (fixed (Imply c) ∷ formula g (fixed Close ∷ r)) ∙ reads_claim d w g (second c (claim_of f) ∷ os) (fixed Close ∷ r)
  reads_claim d w (comparison c a b) os r =
      reads_term d w a (first ∷ os) (fixed (Compare c) ∷ expression b (fixed Close ∷ r)) refl ∙ reads_term d w b (comparing c (term_of a) ∷ os) (fixed Close ∷ r) refl

  reads_chain : (d : Drafted) (w : ReadFor) (c : ChainSpelling) (j : Junction) (os : List frames.Open) (r : List Lexeme) → program_steps (within d w (first ∷ os)) (chain j c r) ≡ program_steps (within d w (after_next j (chain_of c j) ∷ os)) r
  reads_chain d w (pair f g) j os r =
      reads_claim d w f (first ∷ os) (fixed (Join j) ∷ formula g r) ∙ reads_claim d w g (another j (claim_of f) ∷ os) r
  reads_chain d w (longer c f) j os r =
      reads_chain d w c j os (fixed (Join j) ∷ formula f r) ∙ reads_claim d w f (another j (chain_of c j) ∷ os) r

  reads_term : (d : Drafted) (w : ReadFor) (a : ExpressionSpelling) (os : List frames.Open) (r : List Lexeme) → is_apart os ≡ false → program_steps (within d w os) (expression a r) ≡ program_steps (settled (rest_of d) w (steps.with_term os (term_of a))) r
  reads_term d w (numeral text) os r h = ap (λ b. program_steps (settled (rest_of d) w (cond b (with_number os text) (steps.with_term os (number text)))) r) h
  reads_term d w (word text) os r h = ap (λ b. program_steps (settled (rest_of d) w (cond b (with_name os text) (steps.with_term os (syntax.word text)))) r) h
  reads_term d w (next_word text) os r h = refl
  reads_term d w (inverse a) os r h = reads_term d w a (inverted ∷ os) r refl
  reads_term d w (operation o a b) os r h =
      reads_term d w a (first ∷ os) (fixed (Operate o) ∷ expression b (fixed Close ∷ r)) refl ∙ reads_term d w b (operating o (term_of a) ∷ os) (fixed Close ∷ r) refl
  reads_term d w (shift s a text) os r h = reads_term d w a (first ∷ os) (fixed (ShiftBy s) ∷ grammar.number text ∷ fixed Close ∷ r) refl
  reads_term d w (choice i f a b) os r h =
      reads_claim d w f (condition ∷ chosen ∷ os) (fixed Then ∷ expression a (fixed Else ∷ expression b (fixed Close ∷ r)))
      ∙ reads_term d w a (consequent (claim_of f) ∷ chosen ∷ os) (fixed Else ∷ expression b (fixed Close ∷ r)) refl
      ∙ reads_term d w b (alternative (claim_of f) (term_of a) ∷ chosen ∷ os) (fixed Close ∷ r) refl

reads_whole : (d : Drafted) (w : ReadFor) (f : FormulaSpelling) (r : List Lexeme) → program_steps (within d w (whole ∷ [])) (formula f r) ≡ program_steps (with_claim (rest_of d) w (claim_of f)) r
reads_whole d w f r = reads_claim d w f (whole ∷ []) r

reads_value : (d : Drafted) (w : ReadFor) (a : ExpressionSpelling) (r : List Lexeme) → program_steps (within d w (whole_value ∷ [])) (expression a r) ≡ program_steps (with_term (rest_of d) w (term_of a)) r
reads_value d w a r = reads_term d w a (whole_value ∷ []) r refl

-- the declared words
abbrev pub with_words : List syntax.DeclaredWord → Drafted
with_words ws = record no_token { words = ws }

reads_declaration : (b : Bool) (n w : Leaf) (ws : List syntax.DeclaredWord) (r : List Lexeme) → program_steps (with_words ws) (marked b (grammar.name n ∷ fixed Colon ∷ grammar.number w ∷ r)) ≡ program_steps (with_words (ws ++ record { fixed = b; name = n; width = w } ∷ [])) r
reads_declaration true n w ws r = refl
reads_declaration false n w ws r = refl

reads_words : (ws : WordsSpelling) (r : List Lexeme) → program_steps no_token (words ws r) ≡ program_steps (with_words (declared_words ws)) r
reads_words (one w) r = reads_declaration w.fixed w.name w.width [] r
reads_words (more ws w) r = reads_words ws (declaration w r) ∙ reads_declaration w.fixed w.name w.width (declared_words ws) r

-- the clauses of a specification
abbrev pub clauses_of : SpecSpelling → List Claim
clauses_of s = claim_of s.pre ∷ claim_of s.rely ∷ claim_of s.guar ∷ claim_of s.post ∷ []

-- after the clauses of the program
abbrev pub with_clauses : List syntax.DeclaredWord → List Claim → List WrittenPart → Drafted
with_clauses ws cs ps = record { words = ws; clauses = cs; parts = ps; part_clauses = []; blocks = []; guards = []; acts = []; within = []; place = between_parts }

reads_spec : (s : SpecSpelling) (ws : List syntax.DeclaredWord) (r : List Lexeme) → program_steps (with_words ws) (specification s r) ≡ program_steps (with_clauses ws (clauses_of s) []) r
reads_spec s ws r =
    reads_whole (with_clauses ws [] []) a_program_clause s.pre (fixed (Section Rely) ∷ formula s.rely (fixed (Section Guar) ∷ formula s.guar (fixed (Section Post) ∷ formula s.post r)))
    ∙ reads_whole (with_clauses ws (claim_of s.pre ∷ []) []) a_program_clause s.rely (fixed (Section Guar) ∷ formula s.guar (fixed (Section Post) ∷ formula s.post r))
    ∙ reads_whole (with_clauses ws (claim_of s.pre ∷ claim_of s.rely ∷ []) []) a_program_clause s.guar (fixed (Section Post) ∷ formula s.post r)
    ∙ reads_whole (with_clauses ws (claim_of s.pre ∷ claim_of s.rely ∷ claim_of s.guar ∷ []) []) a_program_clause s.post r

-- in a part with these clauses and these lists of statements
abbrev pub in_part : Drafted → List Claim → List BlockSoFar → Drafted
in_part d cs bs = record d { part_clauses = cs; blocks = bs }

reads_part_spec : (s : SpecSpelling) (ws : List syntax.DeclaredWord) (cs : List Claim) (ps : List WrittenPart) (n : Leaf) (r : List Lexeme) → program_steps (with_clauses ws cs ps) (fixed (Section Part) ∷ grammar.name n ∷ specification s r) ≡ program_steps (at (in_part (with_clauses ws cs ps) (clauses_of s) (opened draft.a_part [])) (between_statements n)) r
reads_part_spec s ws cs ps n r =
    let d = with_clauses ws cs ps in
    reads_whole d (a_part_clause n) s.pre (fixed (Section Rely) ∷ formula s.rely (fixed (Section Guar) ∷ formula s.guar (fixed (Section Post) ∷ formula s.post r)))
    ∙ reads_whole (in_part d (claim_of s.pre ∷ []) []) (a_part_clause n) s.rely (fixed (Section Guar) ∷ formula s.guar (fixed (Section Post) ∷ formula s.post r))
    ∙ reads_whole (in_part d (claim_of s.pre ∷ claim_of s.rely ∷ []) []) (a_part_clause n) s.guar (fixed (Section Post) ∷ formula s.post r)
    ∙ reads_whole (in_part d (claim_of s.pre ∷ claim_of s.rely ∷ claim_of s.guar ∷ []) []) (a_part_clause n) s.post r

-- a part in which no formula, no value and no await is open
abbrev pub settled_part : Drafted → List BlockSoFar → Leaf → Drafted
settled_part d bs n = record d { blocks = bs; guards = []; acts = []; within = []; place = between_statements n }

-- the assignments of an await
abbrev pub acting : Drafted → List BlockSoFar → Leaf → Leaf → Claim → List AssignedTree → Drafted
acting d bs n i f as_ = record d { blocks = bs; guards = f ∷ []; acts = as_; within = []; place = between_acts n i }

reads_acts : (as_ : AssignmentsSpelling) (d : Drafted) (bs : List BlockSoFar) (n i : Leaf) (f : Claim) (r : List Lexeme) → program_steps (acting d bs n i f []) (assignments as_ r) ≡ program_steps (acting d bs n i f (assignments_of as_)) r
reads_acts (one_assignment a) d bs n i f r = reads_value (acting d bs n i f []) (an_act n i a.target) a.value r
reads_acts (and_assignment as_ a) d bs n i f r =
    reads_acts as_ d bs n i f (fixed Semicolon ∷ an_assignment a r) ∙ reads_value (acting d bs n i f (assignments_of as_)) (an_act n i a.target) a.value r

-- whether a `;` stands between the statements of a block
abbrev pub is_several : BlockSpelling → Bool
is_several (one_statement s) = false
is_several (and_statement b s) = true

-- a list of statements inside others
abbrev pub inside : BodyOf → List StatementTree → Bool → List BlockSoFar → List BlockSoFar
inside a ss b bs = record { around = a; statements = ss; joined = b } ∷ bs

mutual
  reads_statement : (s : StatementSpelling) (d : Drafted) (bs : List BlockSoFar) (n : Leaf) (r : List Lexeme) → program_steps (settled_part d bs n) (statement s r) ≡ program_steps (settled_part d (draft.and_statement (statement_of s) bs) n) r
  reads_statement (skipping i) d bs n r = refl
  reads_statement (assigning a) d bs n r = reads_value (settled_part d bs n) (draft.an_assignment n a.target) a.value r
  reads_statement (awaiting i f as_) d bs n r =
      reads_whole (settled_part d bs n) (a_guard n i) f (fixed (Section Do) ∷ assignments as_ (fixed (Section End) ∷ r))
      ∙ reads_acts as_ d bs n i (claim_of f) (fixed (Section End) ∷ r)
  reads_statement (branching i f b c) d bs n r =
      reads_whole (settled_part d bs n) (a_branch_test n i) f (fixed Then ∷ block b (fixed Else ∷ block c (fixed (Section End) ∷ r)))
      ∙ reads_block b d (a_then i (claim_of f)) bs n (fixed Else ∷ block c (fixed (Section End) ∷ r))
      ∙ reads_block c d (an_else i (claim_of f) (block_of b)) bs n (fixed (Section End) ∷ r)
  reads_statement (looping i f b) d bs n r =
      reads_whole (settled_part d bs n) (a_loop_test n i) f (fixed (Section Do) ∷ block b (fixed (Section End) ∷ r))
      ∙ reads_block b d (a_loop i (claim_of f)) bs n (fixed (Section End) ∷ r)

  reads_block : (b : BlockSpelling) (d : Drafted) (a : BodyOf) (bs : List BlockSoFar) (n : Leaf) (r : List Lexeme) → program_steps (settled_part d (opened a bs) n) (block b r) ≡ program_steps (settled_part d (inside a (block_of b) (is_several b) bs) n) r
  reads_block (one_statement s) d a bs n r = reads_statement s d (opened a bs) n r
  reads_block (and_statement b s) d a bs n r =
      reads_block b d a bs n (fixed Semicolon ∷ statement s r) ∙ reads_statement s d (inside a (block_of b) true bs) n r

-- the parts
reads_part : (q : PartSpelling) (ws : List syntax.DeclaredWord) (cs : List Claim) (ps : List WrittenPart) (r : List Lexeme) → program_steps (with_clauses ws cs ps) (a_part q r) ≡ program_steps (with_clauses ws cs (ps ++ part_of q ∷ [])) r
reads_part q ws cs ps r =
    reads_part_spec q.spec ws cs ps q.name (fixed (Section Begin) ∷ block q.body (fixed (Section End) ∷ r))
    ∙ reads_block q.body (in_part (with_clauses ws cs ps) (clauses_of q.spec) []) draft.a_part [] q.name (fixed (Section End) ∷ r)

reads_parts : (ps : PartsSpelling) (ws : List syntax.DeclaredWord) (cs : List Claim) (r : List Lexeme) → program_steps (with_clauses ws cs []) (parts ps r) ≡ program_steps (with_clauses ws cs (parts_of ps)) r
reads_parts (one_part q) ws cs r = reads_part q ws cs [] r
reads_parts (and_part ps q) ws cs r = reads_parts ps ws cs (a_part q r) ∙ reads_part q ws cs (parts_of ps) r

-- after all tokens of a program its parts are whole
abbrev pub all_read : ProgramSpelling → Drafted
all_read p = with_clauses (declared_words p.words) (clauses_of p.spec) (parts_of p.parts)

pub builds_program : (p : ProgramSpelling) → program_steps no_token (program p []) ≡ all_read p
builds_program p =
    reads_words p.words (specification p.spec (parts p.parts []))
    ∙ reads_spec p.spec (declared_words p.words) (parts p.parts [])
    ∙ reads_parts p.parts (declared_words p.words) (clauses_of p.spec) []

-- the same tokens say one thing
same_some : {A : Type 0} (x y : A) → Some x ≡ Some y → x ≡ y
same_some x y h = cc

pub one_program : OneProgram
one_program p q e =
    same_some (program_of p) (program_of q) (ap whole_program (sym (builds_program p) ∙ ap (program_steps no_token) e ∙ builds_program q))

steps-append : (d : Drafted) (xs ys : List Lexeme) → program_steps d (xs ++ ys) ≡ program_steps (program_steps d xs) ys
steps-append d [] ys = refl
steps-append d (x ∷ xs) ys = steps-append (program_step d x) xs ys

-- one token more
pub program_more : (src : List ℕ) (start : Drafted) (ts : List Token) (i : ℕ) (t : Token) (d e : Drafted) → i < length ts → program_steps start (map (lexeme_of src) (take i ts)) ≡ d → e ≡ program_step d (lexeme_of src (get_or ts i t)) → program_steps start (map (lexeme_of src) (take (i + 1) ts)) ≡ e
program_more src start ts i t d e lt ran is =
    ap (λ xs. program_steps start (map (lexeme_of src) xs)) (take_more ts i t lt)
    ∙ ap (program_steps start) (map-append (lexeme_of src) (take i ts) (get_or ts i t ∷ []))
    ∙ steps-append start (map (lexeme_of src) (take i ts)) (lexeme_of src (get_or ts i t) ∷ [])
    ∙ ap (λ x. program_step x (lexeme_of src (get_or ts i t))) ran
    ∙ sym is
