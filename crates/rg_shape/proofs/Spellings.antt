-- The machine reads each way to write a formula or an expression.
use Rattle.std.proofs.Common.{◌≡◌, ℕ, Bool, true, false, ◌||◌, List, [], ◌∷◌, Option, Some, None, refl, ◌∙◌}
use Rattle.rg_text.specs.Text.{Leaf}
use Rattle.rg_syntax.specs.declared.text_kind.TextKind.{TextKind}
use Rattle.rg_syntax.specs.declared.text_kind.TextKind.TheVariants as texts
use Rattle.rg_text.specs.declared.kind.Kind.TheVariants.{Fixed}
use Rattle.rg_text.specs.declared.kind.Terminal.TheVariants.{Colon, Semicolon, Show, Section, Close, Compare, Join, Imply, Then, Else}
use Rattle.rg_text.specs.declared.kind.Keyword.TheVariants.{At, Rely, Guar, Post, Begin, End as EndWord, Do}
use Rattle.rg_text.specs.declared.kind.Junction.{Junction}
use Rattle.rg_text.specs.declared.kind.Junction.TheVariants.{And, Or}
use Rattle.rg_tree.specs.declared.line.Rule.{Rule}
use Rattle.rg_tree.specs.declared.line.Rule.TheVariants as rules
use Rattle.rg_shape.specs.declared.point.Sort.TheVariants.{Formula, Expression}
use Rattle.rg_shape.specs.declared.point.Sorts.{Sorts}
use Rattle.rg_shape.specs.declared.point.Point.{Point}
use Rattle.rg_shape.specs.declared.point.Point.TheVariants.{Negated, Inverted, First, Next, Second, Right, Chosen, Condition, Consequent, Alternative, AfterNext, Whole, End, WordsStart, FirstWord, AfterWord, Settings, BeforeMoves, Claim, AfterClaim, AfterPart, Item, AfterItem, Value, AwaitGuard, AwaitTarget, AwaitValue, AfterAssignment, BranchGuard, LoopGuard, BeforeLines, LineRule, LineStatement, AfterStatement, AfterPremise}
use Rattle.rg_shape.specs.declared.point.Owner.{Owner}
use Rattle.rg_shape.specs.declared.point.Owner.TheVariants as owners
use Rattle.rg_shape.specs.declared.point.Clause.TheVariants as clauses
use Rattle.rg_shape.specs.declared.point.BlockKind.{BlockKind}
use Rattle.rg_shape.specs.declared.point.BlockKind.TheVariants as blocks
use Rattle.rg_syntax.specs.Grammar.{Lexeme, fixed, opening, a_line, name, number, lexeme_as, PremisesSpelling, one_premise, and_premise, DerivationSpelling, no_line, and_line, rule_terminal, some_premises, premises, a_derived_line, derivation, WordsSpelling, one, more, SettingsSpelling, no_setting, and_setting, MovesSpelling, no_move, and_move, settings, moves, a_setting, AssignmentsSpelling, one_assignment, and_assignment, StatementSpelling, BlockSpelling, skipping, assigning, awaiting, branching, looping, one_statement, and_statement, SpecSpelling, PartSpelling, PartsSpelling, one_part, and_part, an_assignment, assignments, statement, block, a_part, parts, specification, Spelling, marked, declaration, words, spelled, FormulaSpelling, ChainSpelling, ExpressionSpelling, truth, negation, junction, conditional, comparison, pair, longer, numeral, word, next_word, inverse, operation, shift, choice, formula, chain, expression}
use Rattle.rg_shape.specs.Inner.Machine.{start, takes, complete, same_junction, one_more, one_more_line, is_end}
use Rattle.rg_shape.proofs.Steps.{kinds, run}
use Rattle.rg_syntax.proofs.Clauses.{clauses_of}

pub same_self : (j : Junction) → same_junction j j ≡ true
same_self And = refl
same_self Or = refl

-- how many operands a chain has, counted up to 255
abbrev pub count_of : ChainSpelling → ℕ
count_of (pair f g) = 2
count_of (longer c f) = one_more (count_of c)

-- how many words are declared, counted up to 255
abbrev pub count_of_words : WordsSpelling → ℕ
count_of_words (one w) = 1
count_of_words (more ws w) = one_more (count_of_words ws)

pub open_or : (a b : Bool) → b ≡ true → (a || b) ≡ true
open_or true b h = refl
open_or false b h = h

mutual
  pub reads_formula : (f : FormulaSpelling) (p : Point) (ps : List Point) (r : List Lexeme) → (takes p).formula ≡ true → run (p ∷ ps) (kinds (formula f r)) ≡ run (complete Formula (p ∷ ps)) (kinds r)
  reads_formula (truth b) p ps r h = rw h refl
  reads_formula (negation f) p ps r h = rw h (reads_formula f Negated (p ∷ ps) r refl)
  reads_formula (junction j c) p ps r h = rw h (reads_chain c j (takes p) (p ∷ ps) (fixed Close ∷ r) h)
  reads_formula (conditional d f g) p ps r h =
      rw h (reads_formula f (First (takes p)) (p ∷ ps) (fixed (Imply d) ∷ formula g (fixed Close ∷ r)) h ∙ reads_formula g Second (p ∷ ps) (fixed Close ∷ r) refl)
  reads_formula (comparison c a b) p ps r h =
      rw h (reads_expression a (First (takes p)) (p ∷ ps) (fixed (Compare c) ∷ expression b (fixed Close ∷ r)) refl ∙ rw h (reads_expression b (Right Formula) (p ∷ ps) (fixed Close ∷ r) refl))

  pub reads_chain : (c : ChainSpelling) (j : Junction) (sorts : Sorts) (ps : List Point) (r : List Lexeme) → sorts.formula ≡ true → run (First sorts ∷ ps) (kinds (chain j c r)) ≡ run (AfterNext j (count_of c) ∷ ps) (kinds r)
  reads_chain (pair f g) j sorts ps r h =
      reads_formula f (First sorts) ps (fixed (Join j) ∷ formula g r) h ∙ reads_formula g (Next j 1) ps r refl
  reads_chain (longer c f) j sorts ps r h =
      reads_chain c j sorts ps (fixed (Join j) ∷ formula f r) h ∙ rw same_self (reads_formula f (Next j (count_of c)) ps r refl)

  pub reads_expression : (a : ExpressionSpelling) (p : Point) (ps : List Point) (r : List Lexeme) → (takes p).expression ≡ true → run (p ∷ ps) (kinds (expression a r)) ≡ run (complete Expression (p ∷ ps)) (kinds r)
  reads_expression (numeral text) p ps r h = rw h refl
  reads_expression (word text) p ps r h = rw h refl
  reads_expression (next_word text) p ps r h = rw h refl
  reads_expression (inverse a) p ps r h = rw h (reads_expression a Inverted (p ∷ ps) r refl)
  reads_expression (operation o a b) p ps r h =
      rw (open_or (takes p).formula (takes p).expression h) (reads_expression a (First (takes p)) (p ∷ ps) _ refl ∙ rw h (reads_expression b (Right Expression) (p ∷ ps) (fixed Close ∷ r) refl))
  reads_expression (shift s a text) p ps r h =
      rw (open_or (takes p).formula (takes p).expression h) (reads_expression a (First (takes p)) (p ∷ ps) _ refl ∙ rw h refl)
  reads_expression (choice i f a b) p ps r h =
      rw (open_or (takes p).formula (takes p).expression h) (rw h (reads_formula f Condition (Chosen ∷ p ∷ ps) _ refl ∙ reads_expression a Consequent (Chosen ∷ p ∷ ps) _ refl ∙ reads_expression b Alternative (Chosen ∷ p ∷ ps) (fixed Close ∷ r) refl))

reads_first : (p b : Bool) (n w : Leaf) (r : List Lexeme) → run (FirstWord p ∷ []) (kinds (marked b (name n ∷ fixed Colon ∷ number w ∷ r))) ≡ run (AfterWord p 1 ∷ []) (kinds r)
reads_first p true n w r = refl
reads_first p false n w r = refl

reads_further : (p : Bool) (k : ℕ) (b : Bool) (n w : Leaf) (r : List Lexeme) → run (AfterWord p k ∷ []) (kinds (marked b (name n ∷ fixed Colon ∷ number w ∷ r))) ≡ run (AfterWord p (one_more k) ∷ []) (kinds r)
reads_further p k true n w r = refl
reads_further p k false n w r = refl

reads_words : (p : Bool) (ws : WordsSpelling) (r : List Lexeme) → run (WordsStart p ∷ []) (kinds (words ws r)) ≡ run (AfterWord p (count_of_words ws) ∷ []) (kinds r)
reads_words p (one w) r = reads_first p w.fixed w.name w.width r
reads_words p (more ws w) r = reads_words p ws (declaration w r) ∙ reads_further p (count_of_words ws) w.fixed w.name w.width r

reads_settings : (m : Bool) (ss : SettingsSpelling) (r : List Lexeme) → run (Settings m ∷ []) (kinds (settings ss r)) ≡ run (Settings m ∷ []) (kinds r)
reads_settings m no_setting r = refl
reads_settings m (and_setting ss s) r = reads_settings m ss (a_setting s r)

-- the place after moves
abbrev pub moves_end : MovesSpelling → Point
moves_end no_move = BeforeMoves
moves_end (and_move ms n ss) = Settings true

reads_at : (ms : MovesSpelling) (n : Leaf) (r : List Lexeme) → run (moves_end ms ∷ []) (kinds (fixed (Section At) ∷ number n ∷ r)) ≡ run (Settings true ∷ []) (kinds r)
reads_at no_move n r = refl
reads_at (and_move ms k ss) n r = refl

reads_moves : (ms : MovesSpelling) (r : List Lexeme) → run (BeforeMoves ∷ []) (kinds (moves ms r)) ≡ run (moves_end ms ∷ []) (kinds r)
reads_moves no_move r = refl
reads_moves (and_move ms n ss) r = reads_moves ms (fixed (Section At) ∷ number n ∷ settings ss r) ∙ reads_at ms n (settings ss r) ∙ reads_settings true ss r

-- how many assignments an await has, and how many parts a program, counted up to 255
abbrev pub count_of_assignments : AssignmentsSpelling → ℕ
count_of_assignments (one_assignment a) = 1
count_of_assignments (and_assignment as_ a) = one_more (count_of_assignments as_)

abbrev pub count_of_parts : PartsSpelling → ℕ
count_of_parts (one_part p) = 1
count_of_parts (and_part ps p) = one_more (count_of_parts ps)

reads_assignments : (as_ : AssignmentsSpelling) (b : BlockKind) (ps : List Point) (r : List Lexeme) → run (AwaitTarget b 0 ∷ ps) (kinds (assignments as_ r)) ≡ run (AfterAssignment b (count_of_assignments as_) ∷ ps) (kinds r)
reads_assignments (one_assignment a) b ps r = reads_expression a.value (AwaitValue b 1) ps r refl
reads_assignments (and_assignment as_ a) b ps r =
    reads_assignments as_ b ps (fixed Semicolon ∷ an_assignment a r) ∙ reads_expression a.value (AwaitValue b (one_more (count_of_assignments as_))) ps r refl

mutual
  pub reads_statement : (s : StatementSpelling) (b : BlockKind) (ps : List Point) (r : List Lexeme) → run (Item b ∷ ps) (kinds (statement s r)) ≡ run (AfterItem b ∷ ps) (kinds r)
  reads_statement (skipping i) b ps r = refl
  reads_statement (assigning a) b ps r = reads_expression a.value (Value b) ps r refl
  reads_statement (awaiting i f as_) b ps r =
      reads_formula f (AwaitGuard b) ps (fixed (Section Do) ∷ assignments as_ (fixed (Section EndWord) ∷ r)) refl ∙ reads_assignments as_ b ps (fixed (Section EndWord) ∷ r)
  reads_statement (branching i f x y) b ps r =
      reads_formula f BranchGuard (Item b ∷ ps) (fixed Then ∷ block x (fixed Else ∷ block y (fixed (Section EndWord) ∷ r))) refl
      ∙ reads_block x blocks.Then (Item b ∷ ps) (fixed Else ∷ block y (fixed (Section EndWord) ∷ r))
      ∙ reads_block y blocks.Else (Item b ∷ ps) (fixed (Section EndWord) ∷ r)
  reads_statement (looping i f x) b ps r =
      reads_formula f LoopGuard (Item b ∷ ps) (fixed (Section Do) ∷ block x (fixed (Section EndWord) ∷ r)) refl ∙ reads_block x blocks.Loop (Item b ∷ ps) (fixed (Section EndWord) ∷ r)

  pub reads_block : (x : BlockSpelling) (b : BlockKind) (ps : List Point) (r : List Lexeme) → run (Item b ∷ ps) (kinds (block x r)) ≡ run (AfterItem b ∷ ps) (kinds r)
  reads_block (one_statement s) b ps r = reads_statement s b ps r
  reads_block (and_statement x s) b ps r = reads_block x b ps (fixed Semicolon ∷ statement s r) ∙ reads_statement s b ps r

reads_clauses : (s : SpecSpelling) (o : Owner) (r : List Lexeme) → run (Claim clauses.Pre o ∷ []) (kinds (clauses_of s r)) ≡ run (AfterClaim clauses.Post o ∷ []) (kinds r)
reads_clauses s o r =
    reads_formula s.pre (Claim clauses.Pre o) [] (fixed (Section Rely) ∷ formula s.rely (fixed (Section Guar) ∷ formula s.guar (fixed (Section Post) ∷ formula s.post r))) refl
    ∙ reads_formula s.rely (Claim clauses.Rely o) [] (fixed (Section Guar) ∷ formula s.guar (fixed (Section Post) ∷ formula s.post r)) refl
    ∙ reads_formula s.guar (Claim clauses.Guar o) [] (fixed (Section Post) ∷ formula s.post r) refl
    ∙ reads_formula s.post (Claim clauses.Post o) [] r refl

-- a part, after its name and the `pre` of its specification
reads_part : (n : ℕ) (p : PartSpelling) (r : List Lexeme) → run (Claim clauses.Pre (owners.Part n) ∷ []) (kinds (clauses_of p.spec (fixed (Section Begin) ∷ block p.body (fixed (Section EndWord) ∷ r)))) ≡ run (AfterPart n ∷ []) (kinds r)
reads_part n p r =
    reads_clauses p.spec (owners.Part n) (fixed (Section Begin) ∷ block p.body (fixed (Section EndWord) ∷ r)) ∙ reads_block p.body (blocks.Body n) [] (fixed (Section EndWord) ∷ r)

reads_parts : (ps : PartsSpelling) (r : List Lexeme) → run (AfterClaim clauses.Post owners.Program ∷ []) (kinds (parts ps r)) ≡ run (AfterPart (count_of_parts ps) ∷ []) (kinds r)
reads_parts (one_part p) r = reads_part 1 p r
reads_parts (and_part ps p) r = reads_parts ps (a_part p r) ∙ reads_part (one_more (count_of_parts ps)) p r

-- how many lines a derivation has, counted up to 65,535
abbrev pub count_of_lines : DerivationSpelling → ℕ
count_of_lines no_line = 0
count_of_lines (and_line d l) = one_more_line (count_of_lines d)

-- the place after lines
abbrev pub lines_end : DerivationSpelling → Point
lines_end no_line = BeforeLines
lines_end (and_line d l) = AfterClaim clauses.Post (owners.Line (one_more_line (count_of_lines d)))

reads_begin : (d : DerivationSpelling) (b n : Leaf) (r : List Lexeme) → run (lines_end d ∷ []) (kinds (opening a_line b ∷ number n ∷ r)) ≡ run (LineRule (one_more_line (count_of_lines d)) ∷ []) (kinds r)
reads_begin no_line b n r = refl
reads_begin (and_line d l) b n r = refl

reads_rule : (x : Rule) (w : Leaf) (n : ℕ) (r : List Lexeme) → run (LineRule n ∷ []) (kinds (lexeme_as (Fixed (rule_terminal x)) w ∷ r)) ≡ run (LineStatement n ∷ []) (kinds r)
reads_rule rules.Basic w n r = refl
reads_rule rules.Atomic w n r = refl
reads_rule rules.Seq w n r = refl
reads_rule rules.If w n r = refl
reads_rule rules.Loop w n r = refl
reads_rule rules.Conseq w n r = refl

reads_premises : (ps : PremisesSpelling) (n : ℕ) (r : List Lexeme) → run (AfterStatement n ∷ []) (kinds (some_premises ps r)) ≡ run (AfterPremise n ∷ []) (kinds r)
reads_premises (one_premise l) n r = refl
reads_premises (and_premise ps l) n r = reads_premises ps n (number l ∷ r)

reads_to_pre : (p : Option PremisesSpelling) (s : SpecSpelling) (n : ℕ) (r : List Lexeme) → run (AfterStatement n ∷ []) (kinds (premises p (specification s r))) ≡ run (Claim clauses.Pre (owners.Line n) ∷ []) (kinds (clauses_of s r))
reads_to_pre None s n r = refl
reads_to_pre (Some ps) s n r = reads_premises ps n (specification s r)

reads_lines : (d : DerivationSpelling) (r : List Lexeme) → run (BeforeLines ∷ []) (kinds (derivation d r)) ≡ run (lines_end d ∷ []) (kinds r)
reads_lines no_line r = refl
reads_lines (and_line d l) r =
    let n = one_more_line (count_of_lines d) in
    reads_lines d (a_derived_line l r)
    ∙ reads_begin d l.begin l.number (lexeme_as (Fixed (rule_terminal l.rule)) l.rule_word ∷ number l.statement ∷ premises l.premises (specification l.spec r))
    ∙ reads_rule l.rule l.rule_word n (number l.statement ∷ premises l.premises (specification l.spec r))
    ∙ reads_to_pre l.premises l.spec n r
    ∙ reads_clauses l.spec (owners.Line n) r

-- the place after a whole text
abbrev pub last_point : (k : TextKind) → Spelling k → Point
last_point texts.Formula f = End
last_point texts.Show s = End
last_point texts.Start ss = Settings false
last_point texts.Moves ms = moves_end ms
last_point texts.Program p = AfterPart (count_of_parts p.parts)
last_point texts.Derivation d = lines_end d

pub text_ends : (k : TextKind) (s : Spelling k) → is_end (last_point k s) ≡ true
text_ends texts.Formula f = refl
text_ends texts.Show s = refl
text_ends texts.Start ss = refl
text_ends texts.Moves no_move = refl
text_ends texts.Moves (and_move ms n ss) = refl
text_ends texts.Program p = refl
text_ends texts.Derivation no_line = refl
text_ends texts.Derivation (and_line d l) = refl

-- the machine takes each text
pub reads_text : (k : TextKind) (s : Spelling k) → run (start k) (kinds (spelled k s [])) ≡ Some (last_point k s ∷ [])
reads_text texts.Formula f = reads_formula f Whole [] [] refl
reads_text texts.Show s = reads_words false s.words (fixed Show ∷ formula s.formula []) ∙ reads_formula s.formula Whole [] [] refl
reads_text texts.Start ss = reads_settings false ss []
reads_text texts.Moves ms = reads_moves ms []
reads_text texts.Program p = reads_words true p.words (specification p.spec (parts p.parts [])) ∙ reads_clauses p.spec owners.Program (parts p.parts []) ∙ reads_parts p.parts []
reads_text texts.Derivation d = reads_lines d []
