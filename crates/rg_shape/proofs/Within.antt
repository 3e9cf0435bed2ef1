-- The machine with limits reads each way to write a text that is within them, and stops in each other.
use Rattle.std.proofs.Common.{◌≡◌, ℕ, suc, ◌+◌, ◌≤◌, min, Bool, true, false, ◌&&◌, ◌||◌, not, ltb, cond, length, arith, List, [], ◌∷◌, Option, Some, None, refl, sym, ap, ◌∙◌}
use Rattle.rg_words.specs.declared.limits.TheConstants.{MOST_OPENERS, MOST_OPERANDS, MOST_WORDS, MOST_PARTS, MOST_ASSIGNMENTS, MOST_DERIVATION_LINES}
use Rattle.rg_text.specs.Text.{Leaf}
use Rattle.rg_text.specs.declared.kind.Kind.{Kind}
use Rattle.rg_text.specs.declared.kind.Kind.TheVariants.{Name, Primed, Number, Fixed}
use Rattle.rg_text.specs.declared.kind.Terminal.TheVariants.{Open, Close, Colon, Semicolon, Assign, Show, Section, Compare, Operate, ShiftBy, Join, Imply, Truth, Not, Inv, If, Then, Else}
use Rattle.rg_text.specs.declared.kind.Junction.{Junction}
use Rattle.rg_text.specs.declared.kind.Keyword.TheVariants.{At, Pre, Rely, Guar, Post, Part, Begin, End as EndWord, Do}
use Rattle.rg_tree.specs.declared.line.Rule.{Rule}
use Rattle.rg_tree.specs.declared.line.Rule.TheVariants as rules
use Rattle.rg_syntax.specs.declared.text_kind.TextKind.{TextKind}
use Rattle.rg_syntax.specs.declared.text_kind.TextKind.TheVariants as texts
use Rattle.rg_shape.specs.declared.point.Sort.TheVariants.{Formula, Expression}
use Rattle.rg_shape.specs.declared.point.Sorts.{Sorts}
use Rattle.rg_shape.specs.declared.point.Point.{Point}
use Rattle.rg_shape.specs.declared.point.Point.TheVariants.{Negated, Inverted, First, Next, Second, Right, Chosen, Condition, Consequent, Alternative, AfterExpression, AfterNext, Count, Whole, WordsStart, FirstWord, AfterWord, Settings, BeforeMoves, Claim, AfterClaim, AfterPart, Item, AfterItem, Value, AwaitGuard, AwaitTarget, AwaitValue, AfterAssignment, BranchGuard, LoopGuard, BeforeLines, LineRule, LineStatement, AfterStatement, AfterPremise}
use Rattle.rg_shape.specs.declared.point.Owner.{Owner}
use Rattle.rg_shape.specs.declared.point.Owner.TheVariants as owners
use Rattle.rg_shape.specs.declared.point.Clause.TheVariants as clauses
use Rattle.rg_shape.specs.declared.point.BlockKind.{BlockKind}
use Rattle.rg_shape.specs.declared.point.BlockKind.TheVariants as blocks
use Rattle.rg_syntax.specs.Grammar.{Lexeme, fixed, opening, a_line, name, number, lexeme_as, PremisesSpelling, one_premise, and_premise, DerivationSpelling, no_line, and_line, rule_terminal, some_premises, premises, a_derived_line, derivation, WordsSpelling, one, more, SettingsSpelling, no_setting, and_setting, MovesSpelling, no_move, and_move, settings, moves, a_setting, AssignmentsSpelling, one_assignment, and_assignment, StatementSpelling, BlockSpelling, skipping, assigning, awaiting, branching, looping, one_statement, and_statement, SpecSpelling, PartSpelling, PartsSpelling, one_part, and_part, an_assignment, assignments, statement, block, a_part, parts, specification, Spelling, marked, declaration, words, spelled, FormulaSpelling, ChainSpelling, ExpressionSpelling, truth, negation, junction, conditional, comparison, pair, longer, numeral, word, next_word, inverse, operation, shift, choice, formula, chain, expression}
use Rattle.rg_shape.specs.Inner.Machine.{start, takes, complete, one_more, one_more_line, has_room_at}
use Rattle.rg_words.specs.declared.operators.Comparison.{Comparison}
use Rattle.rg_words.specs.declared.operators.Operator.{Operator}
use Rattle.rg_words.specs.declared.operators.Shift.{Shift}
use Rattle.std.proofs.lemmas.Bool.Decides.{nat_tests}
use Rattle.rg_syntax.specs.Limits.{operand_count, formula_fits, chain_fits, expression_fits, word_count, assignment_count, part_count, assignments_fit, statement_fits, block_fits, specification_fits, part_fits, parts_fit, lines_fit, line_count, IsShallow, IsShort}
use Rattle.rg_shape.proofs.Spellings.{count_of, count_of_words, same_self, open_or, count_of_assignments, count_of_parts, moves_end, count_of_lines, lines_end, last_point}
use Rattle.rg_shape.proofs.Steps.{kinds, limited}
use Rattle.rg_syntax.proofs.Clauses.{clauses_of, and_both}

-- the same, if the test holds
abbrev pub also : {A : Type 0} → Bool → Option A → Option A
also b x = cond b x None

also_and : {A : Type 0} (b c : Bool) (x : Option A) → also b (also c x) ≡ also (b && c) x
also_and true c x = refl
also_and false c x = refl

-- a test, and then another
both : {A : Type 0} (b c : Bool) (x y : Option A) → y ≡ also c x → also b y ≡ also (b && c) x
both b c x y e = ap (also b) e ∙ also_and b c x

and_true : (b : Bool) → (b && true) ≡ b
and_true true = refl
and_true false = refl

or_true : (b : Bool) → (b || true) ≡ true
or_true true = refl
or_true false = refl

or_false : (b : Bool) → (b || false) ≡ true → b ≡ true
or_false true h = refl
or_false false h = h

min_more : (n : ℕ) → one_more (min n 255) ≡ min (n + 1) 255
min_more n = omega arith

-- the count of a chain's operands stops at 255
capped : (c : ChainSpelling) → count_of c ≡ min (operand_count c) 255
capped (pair f g) = refl
capped (longer c f) = ap one_more (capped c) ∙ min_more (operand_count c)

room : (c : ChainSpelling) → ltb (count_of c) MOST_OPERANDS ≡ ltb (operand_count c) MOST_OPERANDS
room c = ap (λ n. ltb n MOST_OPERANDS) (capped c) ∙ below (operand_count c)
  where
    below : (n : ℕ) → ltb (min n 255) MOST_OPERANDS ≡ ltb n MOST_OPERANDS
    below n = grind (arith, nat_tests)

-- a token after a first operand, and the `if` of an expression
module _ (lists : Bool) (sorts : Sorts) (ps : List Point) (ks : List Kind) where
  on_compare : (c : Comparison) → sorts.formula ≡ true → limited lists (AfterExpression sorts ∷ ps) (Fixed (Compare c) ∷ ks) ≡ limited lists (Right Formula ∷ ps) ks
  on_compare c h = rw h refl

  on_operate : (o : Operator) → sorts.expression ≡ true → limited lists (AfterExpression sorts ∷ ps) (Fixed (Operate o) ∷ ks) ≡ limited lists (Right Expression ∷ ps) ks
  on_operate o h = rw h refl

  on_shift : (s : Shift) → sorts.expression ≡ true → limited lists (AfterExpression sorts ∷ ps) (Fixed (ShiftBy s) ∷ ks) ≡ limited lists (Count ∷ ps) ks
  on_shift s h = rw h refl

  on_if : sorts.expression ≡ true → limited lists (First sorts ∷ ps) (Fixed If ∷ ks) ≡ also (ltb (length ps) MOST_OPENERS) (limited lists (Condition ∷ Chosen ∷ ps) ks)
  on_if h = rw h refl

on_join : (lists : Bool) (j : Junction) (c : ChainSpelling) (ps : List Point) (ks : List Kind) → limited lists (AfterNext j (count_of c) ∷ ps) (Fixed (Join j) ∷ ks) ≡ also (ltb (operand_count c) MOST_OPERANDS) (limited lists (Next j (count_of c) ∷ ps) ks)
on_join lists j c ps ks = rw (same_self j) (ap (λ b. also b (limited lists (Next j (count_of c) ∷ ps) ks)) (room c))

-- where an item is wanted no list goes on
room_formula : (p : Point) (k : Kind) → (takes p).formula ≡ true → has_room_at p k ≡ true
room_formula (AfterWord b n) k h = cc
room_formula (AfterPart n) k h = cc
room_formula (AfterAssignment b n) k h = cc
room_formula (AfterClaim c o) k h = cc
room_formula _ k h = refl

room_expression : (p : Point) (k : Kind) → (takes p).expression ≡ true → has_room_at p k ≡ true
room_expression (AfterWord b n) k h = cc
room_expression (AfterPart n) k h = cc
room_expression (AfterAssignment b n) k h = cc
room_expression (AfterClaim c o) k h = cc
room_expression _ k h = refl

mutual
  pub fits_formula : (lists : Bool) (f : FormulaSpelling) (p : Point) (ps : List Point) (r : List Lexeme) → (takes p).formula ≡ true → limited lists (p ∷ ps) (kinds (formula f r)) ≡ also (formula_fits (length ps) f) (limited lists (complete Formula (p ∷ ps)) (kinds r))
  fits_formula lists (truth b) p ps r h = rw (room_formula p (Fixed (Truth b)) h) (rw h refl)
  fits_formula lists (negation f) p ps r h = rw (room_formula p (Fixed Not) h) (rw h (both _ _ _ _ (fits_formula lists f Negated (p ∷ ps) r refl)))
  fits_formula lists (junction j c) p ps r h = rw (room_formula p (Fixed Open) h) (rw h (both _ _ _ _ (fits_chain lists c j (takes p) (p ∷ ps) (fixed Close ∷ r) h)))
  fits_formula lists (conditional d f g) p ps r h =
      rw (room_formula p (Fixed Open) h) (rw h (both _ _ _ _ (fits_formula lists f (First (takes p)) (p ∷ ps) (fixed (Imply d) ∷ formula g (fixed Close ∷ r)) h ∙ both _ _ _ _ (fits_formula lists g Second (p ∷ ps) (fixed Close ∷ r) refl))))
  fits_formula lists (comparison c a b) p ps r h =
      rw (room_formula p (Fixed Open) h) (rw h (both _ _ _ _ (fits_expression lists a (First (takes p)) (p ∷ ps) (fixed (Compare c) ∷ expression b (fixed Close ∷ r)) refl ∙ both _ _ _ _ (on_compare lists (takes p) (p ∷ ps) _ c h ∙ fits_expression lists b (Right Formula) (p ∷ ps) (fixed Close ∷ r) refl))))

  pub fits_chain : (lists : Bool) (c : ChainSpelling) (j : Junction) (sorts : Sorts) (ps : List Point) (r : List Lexeme) → sorts.formula ≡ true → limited lists (First sorts ∷ ps) (kinds (chain j c r)) ≡ also (chain_fits (length ps) c) (limited lists (AfterNext j (count_of c) ∷ ps) (kinds r))
  fits_chain lists (pair f g) j sorts ps r h =
      fits_formula lists f (First sorts) ps (fixed (Join j) ∷ formula g r) h ∙ both _ _ _ _ (fits_formula lists g (Next j 1) ps r refl)
  fits_chain lists (longer c f) j sorts ps r h =
      fits_chain lists c j sorts ps (fixed (Join j) ∷ formula f r) h ∙ both _ _ _ _ (on_join lists j c ps _ ∙ both _ _ _ _ (fits_formula lists f (Next j (count_of c)) ps r refl))

  pub fits_expression : (lists : Bool) (a : ExpressionSpelling) (p : Point) (ps : List Point) (r : List Lexeme) → (takes p).expression ≡ true → limited lists (p ∷ ps) (kinds (expression a r)) ≡ also (expression_fits (length ps) a) (limited lists (complete Expression (p ∷ ps)) (kinds r))
  fits_expression lists (numeral text) p ps r h = rw (room_expression p Number h) (rw h refl)
  fits_expression lists (word text) p ps r h = rw (room_expression p Name h) (rw h refl)
  fits_expression lists (next_word text) p ps r h = rw (room_expression p Primed h) (rw h refl)
  fits_expression lists (inverse a) p ps r h = rw (room_expression p (Fixed Inv) h) (rw h (both _ _ _ _ (fits_expression lists a Inverted (p ∷ ps) r refl)))
  fits_expression lists (operation o a b) p ps r h =
      rw (room_expression p (Fixed Open) h) (rw (open_or (takes p).formula (takes p).expression h) (both _ _ _ _ (fits_expression lists a (First (takes p)) (p ∷ ps) _ refl ∙ both _ _ _ _ (on_operate lists (takes p) (p ∷ ps) _ o h ∙ fits_expression lists b (Right Expression) (p ∷ ps) (fixed Close ∷ r) refl))))
  fits_expression lists (shift s a text) p ps r h =
      rw (room_expression p (Fixed Open) h) (rw (open_or (takes p).formula (takes p).expression h) (both _ _ _ _ (fits_expression lists a (First (takes p)) (p ∷ ps) _ refl ∙ ap (also _) (on_shift lists (takes p) (p ∷ ps) (Number ∷ Fixed Close ∷ kinds r) s h))))
  fits_expression lists (choice i f a b) p ps r h =
      rw (room_expression p (Fixed Open) h) (rw (open_or (takes p).formula (takes p).expression h) (both _ _ _ _ (on_if lists (takes p) (p ∷ ps) _ h ∙ both _ _ _ _ (fits_formula lists f Condition (Chosen ∷ p ∷ ps) _ refl ∙ both _ _ _ _ (fits_expression lists a Consequent (Chosen ∷ p ∷ ps) _ refl ∙ both _ _ _ _ (fits_expression lists b Alternative (Chosen ∷ p ∷ ps) (fixed Close ∷ r) refl))))))

-- the words are counted up to 255
capped_words : (ws : WordsSpelling) → count_of_words ws ≡ min (word_count ws) 255
capped_words (one w) = refl
capped_words (more ws w) = ap one_more (capped_words ws) ∙ min_more (word_count ws)

-- each word has room, where lists are asked about
abbrev words_short : Bool → WordsSpelling → Bool
words_short lists (one w) = true
words_short lists (more ws w) = words_short lists ws && (ltb (count_of_words ws) MOST_WORDS || not lists)

fits_first : (lists q b : Bool) (n w : Leaf) (r : List Lexeme) → limited lists (FirstWord q ∷ []) (kinds (marked b (name n ∷ fixed Colon ∷ number w ∷ r))) ≡ limited lists (AfterWord q 1 ∷ []) (kinds r)
fits_first lists q true n w r = refl
fits_first lists q false n w r = refl

fits_further : (lists q b : Bool) (k : ℕ) (n w : Leaf) (r : List Lexeme) → limited lists (AfterWord q k ∷ []) (kinds (marked b (name n ∷ fixed Colon ∷ number w ∷ r))) ≡ also (ltb k MOST_WORDS || not lists) (limited lists (AfterWord q (one_more k) ∷ []) (kinds r))
fits_further lists q true k n w r = ap (λ c. cond c (limited lists (AfterWord q (one_more k) ∷ []) (kinds r)) None) (and_true (ltb k MOST_WORDS || not lists))
fits_further lists q false k n w r = ap (λ c. cond c (limited lists (AfterWord q (one_more k) ∷ []) (kinds r)) None) (and_true (ltb k MOST_WORDS || not lists))

fits_words : (lists q : Bool) (ws : WordsSpelling) (r : List Lexeme) → limited lists (WordsStart q ∷ []) (kinds (words ws r)) ≡ also (words_short lists ws) (limited lists (AfterWord q (count_of_words ws) ∷ []) (kinds r))
fits_words lists q (one w) r = fits_first lists q w.fixed w.name w.width r
fits_words lists q (more ws w) r = fits_words lists q ws (declaration w r) ∙ both _ _ _ _ (fits_further lists q w.fixed (count_of_words ws) w.name w.width r)

fits_settings : (lists m : Bool) (ss : SettingsSpelling) (r : List Lexeme) → limited lists (Settings m ∷ []) (kinds (settings ss r)) ≡ limited lists (Settings m ∷ []) (kinds r)
fits_settings lists m no_setting r = refl
fits_settings lists m (and_setting ss s) r = fits_settings lists m ss (a_setting s r)

fits_at : (lists : Bool) (ms : MovesSpelling) (n : Leaf) (r : List Lexeme) → limited lists (moves_end ms ∷ []) (kinds (fixed (Section At) ∷ number n ∷ r)) ≡ limited lists (Settings true ∷ []) (kinds r)
fits_at lists no_move n r = refl
fits_at lists (and_move ms k ss) n r = refl

fits_moves : (lists : Bool) (ms : MovesSpelling) (r : List Lexeme) → limited lists (BeforeMoves ∷ []) (kinds (moves ms r)) ≡ limited lists (moves_end ms ∷ []) (kinds r)
fits_moves lists no_move r = refl
fits_moves lists (and_move ms n ss) r = fits_moves lists ms (fixed (Section At) ∷ number n ∷ settings ss r) ∙ fits_at lists ms n (settings ss r) ∙ fits_settings lists true ss r

-- the assignments of an await and the parts are counted up to 255
capped_assignments : (as_ : AssignmentsSpelling) → count_of_assignments as_ ≡ min (assignment_count as_) 255
capped_assignments (one_assignment a) = refl
capped_assignments (and_assignment as_ a) = ap one_more (capped_assignments as_) ∙ min_more (assignment_count as_)

capped_parts : (ps : PartsSpelling) → count_of_parts ps ≡ min (part_count ps) 255
capped_parts (one_part p) = refl
capped_parts (and_part ps p) = ap one_more (capped_parts ps) ∙ min_more (part_count ps)

few_assignments : (n : ℕ) → ltb (min n 255) MOST_ASSIGNMENTS ≡ ltb n MOST_ASSIGNMENTS
few_assignments n = grind (arith, nat_tests)

few_parts : (n : ℕ) → ltb (min n 255) MOST_PARTS ≡ ltb n MOST_PARTS
few_parts n = grind (arith, nat_tests)

with_test : (lists a b : Bool) (x : Option (List Point)) → a ≡ b → cond ((a || not lists) && true) x None ≡ also (b || not lists) x
with_test lists a b x e = ap (λ c. cond c x None) (and_true (a || not lists) ∙ ap (λ c. c || not lists) e)

on_semicolon : (lists : Bool) (as_ : AssignmentsSpelling) (b : BlockKind) (ps : List Point) (ks : List Kind) → limited lists (AfterAssignment b (count_of_assignments as_) ∷ ps) (Fixed Semicolon ∷ Name ∷ Fixed Assign ∷ ks) ≡ also (ltb (assignment_count as_) MOST_ASSIGNMENTS || not lists) (limited lists (AwaitValue b (one_more (count_of_assignments as_)) ∷ ps) ks)
on_semicolon lists as_ b ps ks =
    with_test lists _ _ _ (ap (λ n. ltb n MOST_ASSIGNMENTS) (capped_assignments as_) ∙ few_assignments (assignment_count as_))

on_part : (lists : Bool) (qs : PartsSpelling) (ks : List Kind) → limited lists (AfterPart (count_of_parts qs) ∷ []) (Fixed (Section Part) ∷ Name ∷ Fixed (Section Pre) ∷ ks) ≡ also (ltb (part_count qs) MOST_PARTS || not lists) (limited lists (Claim clauses.Pre (owners.Part (one_more (count_of_parts qs))) ∷ []) ks)
on_part lists qs ks = with_test lists _ _ _ (ap (λ n. ltb n MOST_PARTS) (capped_parts qs) ∙ few_parts (part_count qs))

fits_assignments : (lists : Bool) (as_ : AssignmentsSpelling) (b : BlockKind) (ps : List Point) (r : List Lexeme) → limited lists (AwaitTarget b 0 ∷ ps) (kinds (assignments as_ r)) ≡ also (assignments_fit lists (length ps) as_) (limited lists (AfterAssignment b (count_of_assignments as_) ∷ ps) (kinds r))
fits_assignments lists (one_assignment a) b ps r = fits_expression lists a.value (AwaitValue b 1) ps r refl
fits_assignments lists (and_assignment as_ a) b ps r =
    fits_assignments lists as_ b ps (fixed Semicolon ∷ an_assignment a r)
    ∙ both _ _ _ _ (on_semicolon lists as_ b ps (kinds (expression a.value r)) ∙ both _ _ _ _ (fits_expression lists a.value (AwaitValue b (one_more (count_of_assignments as_))) ps r refl))

mutual
  pub fits_statement : (lists : Bool) (s : StatementSpelling) (b : BlockKind) (ps : List Point) (r : List Lexeme) → limited lists (Item b ∷ ps) (kinds (statement s r)) ≡ also (statement_fits lists (length ps) s) (limited lists (AfterItem b ∷ ps) (kinds r))
  fits_statement lists (skipping i) b ps r = refl
  fits_statement lists (assigning a) b ps r = fits_expression lists a.value (Value b) ps r refl
  fits_statement lists (awaiting i f as_) b ps r =
      fits_formula lists f (AwaitGuard b) ps (fixed (Section Do) ∷ assignments as_ (fixed (Section EndWord) ∷ r)) refl
      ∙ both _ _ _ _ (fits_assignments lists as_ b ps (fixed (Section EndWord) ∷ r))
  fits_statement lists (branching i f x y) b ps r =
      both _ _ _ _ (fits_formula lists f BranchGuard (Item b ∷ ps) (fixed Then ∷ block x (fixed Else ∷ block y (fixed (Section EndWord) ∷ r))) refl
      ∙ both _ _ _ _ (fits_block lists x blocks.Then (Item b ∷ ps) (fixed Else ∷ block y (fixed (Section EndWord) ∷ r))
      ∙ both _ _ _ _ (fits_block lists y blocks.Else (Item b ∷ ps) (fixed (Section EndWord) ∷ r))))
  fits_statement lists (looping i f x) b ps r =
      both _ _ _ _ (fits_formula lists f LoopGuard (Item b ∷ ps) (fixed (Section Do) ∷ block x (fixed (Section EndWord) ∷ r)) refl
      ∙ both _ _ _ _ (fits_block lists x blocks.Loop (Item b ∷ ps) (fixed (Section EndWord) ∷ r)))

  pub fits_block : (lists : Bool) (x : BlockSpelling) (b : BlockKind) (ps : List Point) (r : List Lexeme) → limited lists (Item b ∷ ps) (kinds (block x r)) ≡ also (block_fits lists (length ps) x) (limited lists (AfterItem b ∷ ps) (kinds r))
  fits_block lists (one_statement s) b ps r = fits_statement lists s b ps r
  fits_block lists (and_statement x s) b ps r = fits_block lists x b ps (fixed Semicolon ∷ statement s r) ∙ both _ _ _ _ (fits_statement lists s b ps r)

fits_clauses : (lists : Bool) (s : SpecSpelling) (o : Owner) (r : List Lexeme) → limited lists (Claim clauses.Pre o ∷ []) (kinds (clauses_of s r)) ≡ also (specification_fits s) (limited lists (AfterClaim clauses.Post o ∷ []) (kinds r))
fits_clauses lists s o r =
    fits_formula lists s.pre (Claim clauses.Pre o) [] (fixed (Section Rely) ∷ formula s.rely (fixed (Section Guar) ∷ formula s.guar (fixed (Section Post) ∷ formula s.post r))) refl
    ∙ both _ _ _ _ (fits_formula lists s.rely (Claim clauses.Rely o) [] (fixed (Section Guar) ∷ formula s.guar (fixed (Section Post) ∷ formula s.post r)) refl
    ∙ both _ _ _ _ (fits_formula lists s.guar (Claim clauses.Guar o) [] (fixed (Section Post) ∷ formula s.post r) refl
    ∙ both _ _ _ _ (fits_formula lists s.post (Claim clauses.Post o) [] r refl)))

fits_part : (lists : Bool) (n : ℕ) (p : PartSpelling) (r : List Lexeme) → limited lists (Claim clauses.Pre (owners.Part n) ∷ []) (kinds (clauses_of p.spec (fixed (Section Begin) ∷ block p.body (fixed (Section EndWord) ∷ r)))) ≡ also (part_fits lists p) (limited lists (AfterPart n ∷ []) (kinds r))
fits_part lists n p r =
    fits_clauses lists p.spec (owners.Part n) (fixed (Section Begin) ∷ block p.body (fixed (Section EndWord) ∷ r))
    ∙ both _ _ _ _ (fits_block lists p.body (blocks.Body n) [] (fixed (Section EndWord) ∷ r))

fits_parts : (lists : Bool) (qs : PartsSpelling) (r : List Lexeme) → limited lists (AfterClaim clauses.Post owners.Program ∷ []) (kinds (parts qs r)) ≡ also (parts_fit lists qs) (limited lists (AfterPart (count_of_parts qs) ∷ []) (kinds r))
fits_parts lists (one_part p) r = fits_part lists 1 p r
fits_parts lists (and_part qs p) r =
    fits_parts lists qs (a_part p r)
    ∙ both _ _ _ _ (on_part lists qs (kinds (clauses_of p.spec (fixed (Section Begin) ∷ block p.body (fixed (Section EndWord) ∷ r)))) ∙ both _ _ _ _ (fits_part lists (one_more (count_of_parts qs)) p r))

-- the lines are counted up to 65,535
min_more_line : (n : ℕ) → one_more_line (min n 65535) ≡ min (n + 1) 65535
min_more_line n = omega arith

capped_lines : (d : DerivationSpelling) → count_of_lines d ≡ min (line_count d) 65535
capped_lines no_line = refl
capped_lines (and_line d l) = ap one_more_line (capped_lines d) ∙ min_more_line (line_count d)

few_lines : (n : ℕ) → ltb (min n 65535) MOST_DERIVATION_LINES ≡ ltb n MOST_DERIVATION_LINES
few_lines n = grind (arith, nat_tests)

on_line : (lists : Bool) (d : DerivationSpelling) (b n : Leaf) (r : List Lexeme) → limited lists (lines_end d ∷ []) (kinds (opening a_line b ∷ number n ∷ r)) ≡ also (ltb (line_count d) MOST_DERIVATION_LINES || not lists) (limited lists (LineRule (one_more_line (count_of_lines d)) ∷ []) (kinds r))
on_line lists no_line b n r = refl
on_line lists (and_line d l) b n r =
    with_test lists _ _ _ (ap (λ n. ltb n MOST_DERIVATION_LINES) (capped_lines (and_line d l)) ∙ few_lines (line_count d + 1))

fits_rule : (lists : Bool) (x : Rule) (w : Leaf) (n : ℕ) (r : List Lexeme) → limited lists (LineRule n ∷ []) (kinds (lexeme_as (Fixed (rule_terminal x)) w ∷ r)) ≡ limited lists (LineStatement n ∷ []) (kinds r)
fits_rule lists rules.Basic w n r = refl
fits_rule lists rules.Atomic w n r = refl
fits_rule lists rules.Seq w n r = refl
fits_rule lists rules.If w n r = refl
fits_rule lists rules.Loop w n r = refl
fits_rule lists rules.Conseq w n r = refl

fits_premises : (lists : Bool) (ps : PremisesSpelling) (n : ℕ) (r : List Lexeme) → limited lists (AfterStatement n ∷ []) (kinds (some_premises ps r)) ≡ limited lists (AfterPremise n ∷ []) (kinds r)
fits_premises lists (one_premise l) n r = refl
fits_premises lists (and_premise ps l) n r = fits_premises lists ps n (number l ∷ r)

fits_to_pre : (lists : Bool) (p : Option PremisesSpelling) (s : SpecSpelling) (n : ℕ) (r : List Lexeme) → limited lists (AfterStatement n ∷ []) (kinds (premises p (specification s r))) ≡ limited lists (Claim clauses.Pre (owners.Line n) ∷ []) (kinds (clauses_of s r))
fits_to_pre lists None s n r = refl
fits_to_pre lists (Some ps) s n r = fits_premises lists ps n (specification s r)

-- where lists are asked about, each line is one of the first 20,000
abbrev derivation_fits : Bool → DerivationSpelling → Bool
derivation_fits lists no_line = true
derivation_fits lists (and_line d l) =
    derivation_fits lists d && ((ltb (line_count d) MOST_DERIVATION_LINES || not lists) && specification_fits l.spec)

fits_lines : (lists : Bool) (d : DerivationSpelling) (r : List Lexeme) → limited lists (BeforeLines ∷ []) (kinds (derivation d r)) ≡ also (derivation_fits lists d) (limited lists (lines_end d ∷ []) (kinds r))
fits_lines lists no_line r = refl
fits_lines lists (and_line d l) r =
    let n = one_more_line (count_of_lines d) in
    fits_lines lists d (a_derived_line l r)
    ∙ both _ _ _ _ (on_line lists d l.begin l.number (lexeme_as (Fixed (rule_terminal l.rule)) l.rule_word ∷ number l.statement ∷ premises l.premises (specification l.spec r))
    ∙ both _ _ _ _ (fits_rule lists l.rule l.rule_word n (number l.statement ∷ premises l.premises (specification l.spec r))
    ∙ fits_to_pre lists l.premises l.spec n r
    ∙ fits_clauses lists l.spec (owners.Line n) r))

-- what is within the limits of lists too is within those of depth
all_true : (a b : Bool) → a ≡ true → b ≡ true → (a && b) ≡ true
all_true a b g h = rw (g, h) refl

unasked : (a b : Bool) → b ≡ true → ((a || true) && b) ≡ true
unasked a b h = rw (or_true a, h) refl

assignments_shallow : (lists : Bool) (n : ℕ) (as_ : AssignmentsSpelling) → assignments_fit lists n as_ ≡ true → assignments_fit false n as_ ≡ true
assignments_shallow lists n (one_assignment a) h = h
assignments_shallow lists n (and_assignment as_ a) h =
    let room = ltb (assignment_count as_) MOST_ASSIGNMENTS in
    let value = expression_fits n a.value in
    let f = and_both (assignments_fit lists n as_) ((room || not lists) && value) h in
    all_true (assignments_fit false n as_) ((room || true) && value) (assignments_shallow lists n as_ f.0) (unasked room value (and_both (room || not lists) value f.1).1)

mutual
  statement_shallow : (lists : Bool) (n : ℕ) (s : StatementSpelling) → statement_fits lists n s ≡ true → statement_fits false n s ≡ true
  statement_shallow lists n (skipping i) h = refl
  statement_shallow lists n (assigning a) h = h
  statement_shallow lists n (awaiting i f as_) h =
      let g = and_both (formula_fits n f) (assignments_fit lists n as_) h in
      all_true (formula_fits n f) (assignments_fit false n as_) g.0 (assignments_shallow lists n as_ g.1)
  statement_shallow lists n (branching i f x y) h =
      let a = and_both (ltb n MOST_OPENERS) (formula_fits (suc n) f && (block_fits lists (suc n) x && block_fits lists (suc n) y)) h in
      let b = and_both (formula_fits (suc n) f) (block_fits lists (suc n) x && block_fits lists (suc n) y) a.1 in
      let c = and_both (block_fits lists (suc n) x) (block_fits lists (suc n) y) b.1 in
      all_true (ltb n MOST_OPENERS) (formula_fits (suc n) f && (block_fits false (suc n) x && block_fits false (suc n) y)) a.0
      (all_true (formula_fits (suc n) f) (block_fits false (suc n) x && block_fits false (suc n) y) b.0
      (all_true (block_fits false (suc n) x) (block_fits false (suc n) y) (block_shallow lists (suc n) x c.0) (block_shallow lists (suc n) y c.1)))
  statement_shallow lists n (looping i f x) h =
      let a = and_both (ltb n MOST_OPENERS) (formula_fits (suc n) f && block_fits lists (suc n) x) h in
      let b = and_both (formula_fits (suc n) f) (block_fits lists (suc n) x) a.1 in
      all_true (ltb n MOST_OPENERS) (formula_fits (suc n) f && block_fits false (suc n) x) a.0
      (all_true (formula_fits (suc n) f) (block_fits false (suc n) x) b.0 (block_shallow lists (suc n) x b.1))

  block_shallow : (lists : Bool) (n : ℕ) (x : BlockSpelling) → block_fits lists n x ≡ true → block_fits false n x ≡ true
  block_shallow lists n (one_statement s) h = statement_shallow lists n s h
  block_shallow lists n (and_statement x s) h =
      let g = and_both (block_fits lists n x) (statement_fits lists n s) h in
      all_true (block_fits false n x) (statement_fits false n s) (block_shallow lists n x g.0) (statement_shallow lists n s g.1)

part_shallow : (lists : Bool) (p : PartSpelling) → part_fits lists p ≡ true → part_fits false p ≡ true
part_shallow lists p h =
    let g = and_both (specification_fits p.spec) (block_fits lists 0 p.body) h in
    all_true (specification_fits p.spec) (block_fits false 0 p.body) g.0 (block_shallow lists 0 p.body g.1)

parts_shallow : (lists : Bool) (qs : PartsSpelling) → parts_fit lists qs ≡ true → parts_fit false qs ≡ true
parts_shallow lists (one_part p) h = part_shallow lists p h
parts_shallow lists (and_part qs p) h =
    let room = ltb (part_count qs) MOST_PARTS in
    let f = and_both (parts_fit lists qs) ((room || not lists) && part_fits lists p) h in
    all_true (parts_fit false qs) ((room || true) && part_fits false p) (parts_shallow lists qs f.0) (unasked room (part_fits false p) (part_shallow lists p (and_both (room || not lists) (part_fits lists p) f.1).1))

lines_shallow : (lists : Bool) (d : DerivationSpelling) → derivation_fits lists d ≡ true → lines_fit d ≡ true
lines_shallow lists no_line h = refl
lines_shallow lists (and_line d l) h =
    let room = ltb (line_count d) MOST_DERIVATION_LINES || not lists in
    let f = and_both (derivation_fits lists d) (room && specification_fits l.spec) h in
    all_true (lines_fit d) (specification_fits l.spec) (lines_shallow lists d f.0) (and_both room (specification_fits l.spec) f.1).1

within_most : (n : ℕ) → ltb n MOST_DERIVATION_LINES ≡ true → n + 1 ≤ MOST_DERIVATION_LINES
within_most n h = grind (arith, nat_tests)

before_most : (n : ℕ) → n + 1 ≤ MOST_DERIVATION_LINES → ltb n MOST_DERIVATION_LINES ≡ true
before_most n h = grind (arith, nat_tests)

short_lines : (d : DerivationSpelling) → derivation_fits true d ≡ true → line_count d ≤ MOST_DERIVATION_LINES
short_lines no_line h = omega arith
short_lines (and_line d l) h =
    let room = ltb (line_count d) MOST_DERIVATION_LINES in
    let f = and_both (derivation_fits true d) ((room || false) && specification_fits l.spec) h in
    within_most (line_count d) (or_false room (and_both (room || false) (specification_fits l.spec) f.1).0)

lines_unasked : (d : DerivationSpelling) → lines_fit d ≡ true → derivation_fits false d ≡ true
lines_unasked no_line h = refl
lines_unasked (and_line d l) h =
    let room = ltb (line_count d) MOST_DERIVATION_LINES in
    let f = and_both (lines_fit d) (specification_fits l.spec) h in
    all_true (derivation_fits false d) ((room || true) && specification_fits l.spec) (lines_unasked d f.0) (unasked room (specification_fits l.spec) f.1)

lines_within : (d : DerivationSpelling) → lines_fit d ≡ true → line_count d ≤ MOST_DERIVATION_LINES → derivation_fits true d ≡ true
lines_within no_line h short = refl
lines_within (and_line d l) h short =
    let f = and_both (lines_fit d) (specification_fits l.spec) h in
    rw (lines_within d f.0 (omega (arith, short)), before_most (line_count d) short, f.1) refl

-- whether a text is within the limits of depth, and where lists are asked about those of lists too
abbrev pub fits : Bool → (k : TextKind) → Spelling k → Bool
fits lists texts.Formula f = formula_fits 0 f
fits lists texts.Show s = words_short lists s.words && formula_fits 0 s.formula
fits lists texts.Start ss = true
fits lists texts.Moves ms = true
fits lists texts.Program p = words_short lists p.words && (specification_fits p.spec && parts_fit lists p.parts)
fits lists texts.Derivation d = derivation_fits lists d

pub fits_text : (lists : Bool) (k : TextKind) (s : Spelling k) → limited lists (start k) (kinds (spelled k s [])) ≡ also (fits lists k s) (Some (last_point k s ∷ []))
fits_text lists texts.Formula f = fits_formula lists f Whole [] [] refl
fits_text lists texts.Show s = fits_words lists false s.words (fixed Show ∷ formula s.formula []) ∙ both _ _ _ _ (fits_formula lists s.formula Whole [] [] refl)
fits_text lists texts.Start ss = fits_settings lists false ss []
fits_text lists texts.Moves ms = fits_moves lists ms []
fits_text lists texts.Program p =
    fits_words lists true p.words (specification p.spec (parts p.parts []))
    ∙ both _ _ _ _ (fits_clauses lists p.spec owners.Program (parts p.parts []) ∙ both _ _ _ _ (fits_parts lists p.parts []))
fits_text lists texts.Derivation d = fits_lines lists d []

-- what the test says of a text
long_enough : (n : ℕ) → ltb (min n 255) MOST_WORDS ≡ true → n + 1 ≤ MOST_WORDS
long_enough n h = grind (arith, nat_tests)

has_room_left : (n : ℕ) → n + 1 ≤ MOST_WORDS → ltb (min n 255) MOST_WORDS ≡ true
has_room_left n h = grind (arith, nat_tests)

short_words : (ws : WordsSpelling) → words_short true ws ≡ true → word_count ws ≤ MOST_WORDS
short_words (one w) h = omega arith
short_words (more ws w) h = long_enough (word_count ws) (ap (λ n. ltb n MOST_WORDS) (sym (capped_words ws)) ∙ or_false _ (and_both _ _ h).1)

words_are_short : (ws : WordsSpelling) → word_count ws ≤ MOST_WORDS → words_short true ws ≡ true
words_are_short (one w) h = refl
words_are_short (more ws w) h =
    rw (words_are_short ws (omega (arith, h)), capped_words ws, has_room_left (word_count ws) h) refl

words_unasked : (ws : WordsSpelling) → words_short false ws ≡ true
words_unasked (one w) = refl
words_unasked (more ws w) = rw (words_unasked ws) (or_true (ltb (count_of_words ws) MOST_WORDS))

pub fits_shallow : (lists : Bool) (k : TextKind) (s : Spelling k) → fits lists k s ≡ true → IsShallow k s
fits_shallow lists texts.Formula f h = h
fits_shallow lists texts.Show s h = (and_both _ _ h).1
fits_shallow lists texts.Start ss h = tt
fits_shallow lists texts.Moves ms h = tt
fits_shallow lists texts.Program p h =
    let f = and_both (specification_fits p.spec) (parts_fit lists p.parts) (and_both (words_short lists p.words) _ h).1 in
    all_true (specification_fits p.spec) (parts_fit false p.parts) f.0 (parts_shallow lists p.parts f.1)
fits_shallow lists texts.Derivation d h = lines_shallow lists d h

pub fits_short : (k : TextKind) (s : Spelling k) → fits true k s ≡ true → IsShort k s
fits_short texts.Formula f h = tt
fits_short texts.Show s h = short_words s.words (and_both _ _ h).0
fits_short texts.Start ss h = tt
fits_short texts.Moves ms h = tt
fits_short texts.Program p h =
    let f = and_both (words_short true p.words) _ h in
    (short_words p.words f.0, (and_both (specification_fits p.spec) (parts_fit true p.parts) f.1).1)
fits_short texts.Derivation d h = short_lines d h

pub shallow_fits : (k : TextKind) (s : Spelling k) → IsShallow k s → fits false k s ≡ true
shallow_fits texts.Formula f h = h
shallow_fits texts.Show s h = rw (words_unasked s.words) h
shallow_fits texts.Start ss h = refl
shallow_fits texts.Moves ms h = refl
shallow_fits texts.Program p h = rw (words_unasked p.words) h
shallow_fits texts.Derivation d h = lines_unasked d h

pub within_fits : (k : TextKind) (s : Spelling k) → IsShallow k s → IsShort k s → fits true k s ≡ true
within_fits texts.Formula f h short = h
within_fits texts.Show s h short = rw (words_are_short s.words short) h
within_fits texts.Start ss h short = refl
within_fits texts.Moves ms h short = refl
within_fits texts.Program p h short =
    rw (words_are_short p.words short.0, (and_both (specification_fits p.spec) (parts_fit false p.parts) h).0, short.1) refl
within_fits texts.Derivation d h short = lines_within d h short
