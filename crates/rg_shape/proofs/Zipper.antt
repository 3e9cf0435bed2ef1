-- What has been read, with its parts: each place of the machine knows the tokens before it.
use Rattle.std.proofs.Common.{◌≡◌, ℕ, Bool, true, false, ◌||◌, List, [], ◌∷◌, Option, Some, None, refl}
use Rattle.rg_text.specs.declared.kind.Kind.TheVariants.{Fixed}
use Rattle.rg_text.specs.declared.kind.Terminal.TheVariants.{Open, Colon, Semicolon, Assign, Words, Show, Section, Compare, Operate, ShiftBy, Join, Imply, Not, Inv, Then, Else}
use Rattle.rg_words.specs.declared.operators.Comparison.{Comparison}
use Rattle.rg_words.specs.declared.operators.Operator.{Operator}
use Rattle.rg_words.specs.declared.operators.Shift.{Shift}
use Rattle.rg_text.specs.Text.{Leaf}
use Rattle.rg_text.specs.declared.kind.Junction.{Junction}
use Rattle.rg_text.specs.declared.kind.Conditional.{Conditional}
use Rattle.rg_text.specs.declared.kind.Keyword.TheVariants as keywords
use Rattle.rg_tree.specs.declared.line.Rule.{Rule}
use Rattle.rg_syntax.specs.declared.text_kind.TextKind.{TextKind}
use Rattle.rg_syntax.specs.declared.text_kind.TextKind.TheVariants as texts
use Rattle.rg_shape.specs.declared.point.Sort.TheVariants.{Formula, Expression}
use Rattle.rg_shape.specs.declared.point.Sorts.{Sorts}
use Rattle.rg_shape.specs.declared.point.Point.{Point}
use Rattle.rg_shape.specs.declared.point.Point.TheVariants.{Whole, Negated, Inverted, First, Next, Second, Right, Chosen, Condition, Consequent, Alternative, End, AfterFormula, AfterExpression, AfterNext, Count, Closing, AfterCondition, AfterConsequent, WordsStart, FirstWord, FixedWord, NamedWord, WordWidth, AfterWord, Settings, SettingWord, SettingValue, BeforeMoves, MoveNumber, Claim, AfterClaim, PartName, NamedPart, AfterPart, Item, AfterItem, Target, Value, AwaitGuard, AfterAwaitGuard, AwaitTarget, AwaitName, AwaitValue, AfterAssignment, BranchGuard, AfterBranchGuard, LoopGuard, AfterLoopGuard, BeforeLines, LineNumber, LineRule, LineStatement, AfterStatement, FirstPremise, AfterPremise}
use Rattle.rg_shape.specs.declared.point.Owner.{Owner}
use Rattle.rg_shape.specs.declared.point.Owner.TheVariants as owners
use Rattle.rg_shape.specs.declared.point.Clause.{Clause}
use Rattle.rg_shape.specs.declared.point.Clause.TheVariants as clauses
use Rattle.rg_shape.specs.declared.point.BlockKind.{BlockKind}
use Rattle.rg_shape.specs.declared.point.BlockKind.TheVariants as blocks
use Rattle.rg_syntax.specs.Grammar.{Lexeme, fixed, name, number, FormulaSpelling, ChainSpelling, ExpressionSpelling, WordsSpelling, negation, pair, longer, inverse, formula, chain, expression, marked, words, SettingsSpelling, MovesSpelling, settings, moves, opening, an_if, an_await, a_while, a_line, lexeme_as, rule_terminal, PremisesSpelling, some_premises, premises, LineSpelling, DerivationSpelling, derivation, AssignmentsSpelling, one_assignment, and_assignment, BlockSpelling, assigning, one_statement, and_statement, SpecSpelling, PartsSpelling, assignments, block, specification, parts}
use Rattle.rg_words.specs.declared.operators.Comparison.TheVariants as comparisons
use Rattle.rg_shape.specs.Inner.Machine.{only_formula, only_expression, takes, complete, one_more, one_more_line}
use Rattle.rg_shape.proofs.Spellings.{count_of, count_of_words, count_of_assignments, count_of_parts, count_of_lines}

-- the first operands of a chain
pub data Operands : Type 0 where
  single : FormulaSpelling → Operands
  several : ChainSpelling → Operands

abbrev pub operands : Junction → Operands → List Lexeme → List Lexeme
operands j (single f) r = formula f r
operands j (several c) r = chain j c r

abbrev pub operand_count : Operands → ℕ
operand_count (single f) = 1
operand_count (several c) = count_of c

-- an open part of the text, up to an item that is wanted
pub data Frame : Type 0 where
  negated : Frame
  inverted : Frame
  first : Frame
  another : Junction → Operands → Frame
  second : Conditional → FormulaSpelling → Frame
  compared : Comparison → ExpressionSpelling → Frame
  operated : Operator → ExpressionSpelling → Frame
  condition : Leaf → Frame
  consequent : Leaf → FormulaSpelling → Frame
  alternative : Leaf → FormulaSpelling → ExpressionSpelling → Frame

-- an open pair of parentheses, up to a token that is wanted
pub data Part : Type 0 where
  after_formula : FormulaSpelling → Part
  after_expression : ExpressionSpelling → Part
  after_next : Junction → ChainSpelling → Part
  counted : Shift → ExpressionSpelling → Part
  closing_conditional : Conditional → FormulaSpelling → FormulaSpelling → Part
  closing_comparison : Comparison → ExpressionSpelling → ExpressionSpelling → Part
  closing_operation : Operator → ExpressionSpelling → ExpressionSpelling → Part
  closing_shift : Shift → ExpressionSpelling → Leaf → Part
  closing_choice : Leaf → FormulaSpelling → ExpressionSpelling → ExpressionSpelling → Part
  after_condition : Leaf → FormulaSpelling → Part
  after_consequent : Leaf → FormulaSpelling → ExpressionSpelling → Part

-- a line of a derivation up to the number of its statement
pub record LineStart : Type 0 where
  pub begin : Leaf
  pub number : Leaf
  pub rule : Rule
  pub rule_word : Leaf
  pub statement : Leaf

abbrev pub whole_line : LineStart → Option PremisesSpelling → SpecSpelling → LineSpelling
whole_line l p s = record { begin = l.begin; number = l.number; rule = l.rule; rule_word = l.rule_word; statement = l.statement; premises = p; spec = s }

-- whose specification is read: the program's own, that of a part of this name after others, or that of a line after others
pub data Whose : Type 0 where
  own : WordsSpelling → Whose
  of_part : WordsSpelling → SpecSpelling → Option PartsSpelling → Leaf → Whose
  of_line : DerivationSpelling → LineStart → Option PremisesSpelling → Whose

-- the formulas of a specification that have been read
pub data Clauses : Type 0 where
  to_pre : Clauses
  to_rely : FormulaSpelling → Clauses
  to_guar : FormulaSpelling → FormulaSpelling → Clauses
  to_post : FormulaSpelling → FormulaSpelling → FormulaSpelling → Clauses

-- what stands around the statements of a block: the part, or an `if` or `while` after other statements
pub data Around : Type 0 where
  in_body : WordsSpelling → SpecSpelling → Option PartsSpelling → Leaf → SpecSpelling → Around
  in_then : Around → Option BlockSpelling → Leaf → FormulaSpelling → Around
  in_else : Around → Option BlockSpelling → Leaf → FormulaSpelling → BlockSpelling → Around
  in_loop : Around → Option BlockSpelling → Leaf → FormulaSpelling → Around

-- what stands before the outermost formula or expression
pub data Outer : Type 0 where
  alone : Outer
  shown : WordsSpelling → Outer
  clause : Whose → Clauses → Outer
  await_guard : Around → Option BlockSpelling → Leaf → Outer
  branch_guard : Around → Option BlockSpelling → Leaf → Outer
  loop_guard : Around → Option BlockSpelling → Leaf → Outer
  value : Around → Option BlockSpelling → Leaf → Outer
  await_value : Around → Option BlockSpelling → Leaf → FormulaSpelling → Option AssignmentsSpelling → Leaf → Outer

-- a program up to some token outside its formulas and expressions
pub data Place : Type 0 where
  after_clause : Whose → Clauses → FormulaSpelling → Place
  part_name : WordsSpelling → SpecSpelling → Option PartsSpelling → Place
  named_part : WordsSpelling → SpecSpelling → Option PartsSpelling → Leaf → Place
  after_part : WordsSpelling → SpecSpelling → PartsSpelling → Place
  item : Around → Option BlockSpelling → Place
  after_item : Around → BlockSpelling → Place
  target : Around → Option BlockSpelling → Leaf → Place
  after_await_guard : Around → Option BlockSpelling → Leaf → FormulaSpelling → Place
  await_target : Around → Option BlockSpelling → Leaf → FormulaSpelling → Option AssignmentsSpelling → Place
  await_name : Around → Option BlockSpelling → Leaf → FormulaSpelling → Option AssignmentsSpelling → Leaf → Place
  after_assignment : Around → Option BlockSpelling → Leaf → FormulaSpelling → AssignmentsSpelling → Place
  after_branch_guard : Around → Option BlockSpelling → Leaf → FormulaSpelling → Place
  after_loop_guard : Around → Option BlockSpelling → Leaf → FormulaSpelling → Place

-- a derivation up to some token outside its specifications
pub data InLines : Type 0 where
  before_lines : InLines
  line_begun : DerivationSpelling → Leaf → InLines
  line_numbered : DerivationSpelling → Leaf → Leaf → InLines
  line_ruled : DerivationSpelling → Leaf → Leaf → Rule → Leaf → InLines
  after_statement : DerivationSpelling → LineStart → InLines
  after_from : DerivationSpelling → LineStart → InLines
  after_premise : DerivationSpelling → LineStart → PremisesSpelling → InLines

-- the open parts, the innermost first
pub data Frames : Type 0 where
  bottom : Outer → Frames
  within : Frame → Frames → Frames

-- the words of a `show` text that have been read, where there are some
abbrev pub Previous : Type 0
Previous = Option WordsSpelling

-- a `show` text up to some token before its formula
pub data Head : Type 0 where
  unread : Head
  before_first : Head
  after_fixed : Previous → Head
  after_name : Previous → Bool → Leaf → Head
  after_colon : Previous → Bool → Leaf → Head
  after_words : WordsSpelling → Head

-- what words are set for: a start, or a move of this number after others
pub data Setter : Type 0 where
  for_start : Setter
  for_move : MovesSpelling → Leaf → Setter

-- a start or moves up to some token
pub data Set : Type 0 where
  after_settings : Setter → SettingsSpelling → Set
  after_set_word : Setter → SettingsSpelling → Leaf → Set
  after_equals : Setter → SettingsSpelling → Leaf → Set
  before_moves : Set
  after_at : MovesSpelling → Set

pub data State : Type 0 where
  hole : Frames → State
  at : Frames → Part → State
  done : Outer → FormulaSpelling → State
  head : Bool → Head → State
  set : Set → State
  place : Place → State
  in_lines : InLines → State

-- the tokens so far, and then the rest
abbrev pub before : Frame → List Lexeme → List Lexeme
before negated r = fixed Not ∷ r
before inverted r = fixed Inv ∷ r
before first r = fixed Open ∷ r
before (another j os) r = fixed Open ∷ operands j os (fixed (Join j) ∷ r)
before (second d f) r = fixed Open ∷ formula f (fixed (Imply d) ∷ r)
before (compared c e) r = fixed Open ∷ expression e (fixed (Compare c) ∷ r)
before (operated o e) r = fixed Open ∷ expression e (fixed (Operate o) ∷ r)
before (condition i) r = fixed Open ∷ opening an_if i ∷ r
before (consequent i f) r = fixed Open ∷ opening an_if i ∷ formula f (fixed Then ∷ r)
before (alternative i f e) r = fixed Open ∷ opening an_if i ∷ formula f (fixed Then ∷ expression e (fixed Else ∷ r))

abbrev pub part : Part → List Lexeme → List Lexeme
part (after_formula f) r = fixed Open ∷ formula f r
part (after_expression e) r = fixed Open ∷ expression e r
part (after_next j c) r = fixed Open ∷ chain j c r
part (counted s e) r = fixed Open ∷ expression e (fixed (ShiftBy s) ∷ r)
part (closing_conditional d f g) r = fixed Open ∷ formula f (fixed (Imply d) ∷ formula g r)
part (closing_comparison c a b) r = fixed Open ∷ expression a (fixed (Compare c) ∷ expression b r)
part (closing_operation o a b) r = fixed Open ∷ expression a (fixed (Operate o) ∷ expression b r)
part (closing_shift s e text) r = fixed Open ∷ expression e (fixed (ShiftBy s) ∷ number text ∷ r)
part (closing_choice i f a b) r = fixed Open ∷ opening an_if i ∷ formula f (fixed Then ∷ expression a (fixed Else ∷ expression b r))
part (after_condition i f) r = fixed Open ∷ opening an_if i ∷ formula f r
part (after_consequent i f e) r = fixed Open ∷ opening an_if i ∷ formula f (fixed Then ∷ expression e r)

-- parts and statements before another
abbrev pub before_part : Option PartsSpelling → List Lexeme → List Lexeme
before_part None r = r
before_part (Some ps) r = parts ps r

abbrev pub before_item : Option BlockSpelling → List Lexeme → List Lexeme
before_item None r = r
before_item (Some b) r = block b (fixed Semicolon ∷ r)

abbrev pub before_assignment : Option AssignmentsSpelling → List Lexeme → List Lexeme
before_assignment None r = r
before_assignment (Some as_) r = assignments as_ (fixed Semicolon ∷ r)

abbrev pub line_start : LineStart → List Lexeme → List Lexeme
line_start l r = opening a_line l.begin ∷ number l.number ∷ lexeme_as (Fixed (rule_terminal l.rule)) l.rule_word ∷ number l.statement ∷ r

abbrev pub before_whose : Whose → List Lexeme → List Lexeme
before_whose (own ws) r = words ws r
before_whose (of_part ws sp ps n) r = words ws (specification sp (before_part ps (fixed (Section keywords.Part) ∷ name n ∷ r)))
before_whose (of_line d l p) r = derivation d (line_start l (premises p r))

abbrev pub before_clause : Clauses → List Lexeme → List Lexeme
before_clause to_pre r = fixed (Section keywords.Pre) ∷ r
before_clause (to_rely f) r = fixed (Section keywords.Pre) ∷ formula f (fixed (Section keywords.Rely) ∷ r)
before_clause (to_guar f g) r = fixed (Section keywords.Pre) ∷ formula f (fixed (Section keywords.Rely) ∷ formula g (fixed (Section keywords.Guar) ∷ r))
before_clause (to_post f g h) r =
    fixed (Section keywords.Pre) ∷ formula f (fixed (Section keywords.Rely) ∷ formula g (fixed (Section keywords.Guar) ∷ formula h (fixed (Section keywords.Post) ∷ r)))

abbrev pub before_around : Around → List Lexeme → List Lexeme
before_around (in_body ws sp ps n own_sp) r =
    words ws (specification sp (before_part ps (fixed (Section keywords.Part) ∷ name n ∷ specification own_sp (fixed (Section keywords.Begin) ∷ r))))
before_around (in_then a p i f) r = before_around a (before_item p (opening an_if i ∷ formula f (fixed Then ∷ r)))
before_around (in_else a p i f b) r = before_around a (before_item p (opening an_if i ∷ formula f (fixed Then ∷ block b (fixed Else ∷ r))))
before_around (in_loop a p i f) r = before_around a (before_item p (opening a_while i ∷ formula f (fixed (Section keywords.Do) ∷ r)))

abbrev pub before_await : Leaf → FormulaSpelling → List Lexeme → List Lexeme
before_await i f r = opening an_await i ∷ formula f (fixed (Section keywords.Do) ∷ r)

abbrev pub before_outer : Outer → List Lexeme → List Lexeme
before_outer alone r = r
before_outer (shown ws) r = words ws (fixed Show ∷ r)
before_outer (clause w c) r = before_whose w (before_clause c r)
before_outer (await_guard a p i) r = before_around a (before_item p (opening an_await i ∷ r))
before_outer (branch_guard a p i) r = before_around a (before_item p (opening an_if i ∷ r))
before_outer (loop_guard a p i) r = before_around a (before_item p (opening a_while i ∷ r))
before_outer (value a p t) r = before_around a (before_item p (name t ∷ fixed Assign ∷ r))
before_outer (await_value a p i f as_ t) r = before_around a (before_item p (before_await i f (before_assignment as_ (name t ∷ fixed Assign ∷ r))))

abbrev pub before_place : Place → List Lexeme → List Lexeme
before_place (after_clause w c f) r = before_whose w (before_clause c (formula f r))
before_place (part_name ws sp ps) r = words ws (specification sp (before_part ps (fixed (Section keywords.Part) ∷ r)))
before_place (named_part ws sp ps n) r = words ws (specification sp (before_part ps (fixed (Section keywords.Part) ∷ name n ∷ r)))
before_place (after_part ws sp ps) r = words ws (specification sp (parts ps r))
before_place (item a p) r = before_around a (before_item p r)
before_place (after_item a b) r = before_around a (block b r)
before_place (target a p t) r = before_around a (before_item p (name t ∷ r))
before_place (after_await_guard a p i f) r = before_around a (before_item p (opening an_await i ∷ formula f r))
before_place (await_target a p i f as_) r = before_around a (before_item p (before_await i f (before_assignment as_ r)))
before_place (await_name a p i f as_ t) r = before_around a (before_item p (before_await i f (before_assignment as_ (name t ∷ r))))
before_place (after_assignment a p i f as_) r = before_around a (before_item p (before_await i f (assignments as_ r)))
before_place (after_branch_guard a p i f) r = before_around a (before_item p (opening an_if i ∷ formula f r))
before_place (after_loop_guard a p i f) r = before_around a (before_item p (opening a_while i ∷ formula f r))

abbrev pub before_all : Frames → List Lexeme → List Lexeme
before_all (bottom o) r = before_outer o r
before_all (within f fs) r = before_all fs (before f r)

abbrev pub before_word : Previous → List Lexeme → List Lexeme
before_word None r = fixed Words ∷ r
before_word (Some ws) r = words ws r

abbrev pub before_head : Head → List Lexeme → List Lexeme
before_head unread r = r
before_head before_first r = fixed Words ∷ r
before_head (after_fixed o) r = before_word o (fixed (Section keywords.Fixed) ∷ r)
before_head (after_name o b l) r = before_word o (marked b (name l ∷ r))
before_head (after_colon o b l) r = before_word o (marked b (name l ∷ fixed Colon ∷ r))
before_head (after_words ws) r = words ws r

abbrev pub before_setter : Setter → List Lexeme → List Lexeme
before_setter for_start r = r
before_setter (for_move ms n) r = moves ms (fixed (Section keywords.At) ∷ number n ∷ r)

abbrev pub before_set : Set → List Lexeme → List Lexeme
before_set (after_settings w ss) r = before_setter w (settings ss r)
before_set (after_set_word w ss l) r = before_setter w (settings ss (name l ∷ r))
before_set (after_equals w ss l) r = before_setter w (settings ss (name l ∷ fixed (Compare comparisons.Equal) ∷ r))
before_set before_moves r = r
before_set (after_at ms) r = moves ms (fixed (Section keywords.At) ∷ r)

abbrev pub before_in_lines : InLines → List Lexeme → List Lexeme
before_in_lines before_lines r = r
before_in_lines (line_begun d b) r = derivation d (opening a_line b ∷ r)
before_in_lines (line_numbered d b n) r = derivation d (opening a_line b ∷ number n ∷ r)
before_in_lines (line_ruled d b n x w) r = derivation d (opening a_line b ∷ number n ∷ lexeme_as (Fixed (rule_terminal x)) w ∷ r)
before_in_lines (after_statement d l) r = derivation d (line_start l r)
before_in_lines (after_from d l) r = derivation d (line_start l (fixed (Section keywords.From) ∷ r))
before_in_lines (after_premise d l ps) r = derivation d (line_start l (some_premises ps r))

abbrev pub tokens : State → List Lexeme → List Lexeme
tokens (hole fs) r = before_all fs r
tokens (at fs p) r = before_all fs (part p r)
tokens (done o f) r = before_outer o (formula f r)
tokens (head b h) r = before_head h r
tokens (set x) r = before_set x r
tokens (place x) r = before_place x r
tokens (in_lines x) r = before_in_lines x r

-- the kind of text that is read
abbrev pub whose_kind : Whose → TextKind
whose_kind (own ws) = texts.Program
whose_kind (of_part ws sp ps n) = texts.Program
whose_kind (of_line d l p) = texts.Derivation

abbrev pub outer_kind : Outer → TextKind
outer_kind alone = texts.Formula
outer_kind (shown ws) = texts.Show
outer_kind (clause w c) = whose_kind w
outer_kind _ = texts.Program

abbrev pub frames_kind : Frames → TextKind
frames_kind (bottom o) = outer_kind o
frames_kind (within f fs) = frames_kind fs

abbrev pub setter_kind : Setter → TextKind
setter_kind for_start = texts.Start
setter_kind (for_move ms n) = texts.Moves

abbrev pub set_kind : Set → TextKind
set_kind (after_settings w ss) = setter_kind w
set_kind (after_set_word w ss l) = setter_kind w
set_kind (after_equals w ss l) = setter_kind w
set_kind before_moves = texts.Moves
set_kind (after_at ms) = texts.Moves

abbrev pub place_kind : Place → TextKind
place_kind (after_clause w c f) = whose_kind w
place_kind _ = texts.Program

-- the kind of text that begins with words
abbrev pub head_kind : Bool → TextKind
head_kind true = texts.Program
head_kind false = texts.Show

abbrev pub state_kind : State → TextKind
state_kind (hole fs) = frames_kind fs
state_kind (at fs p) = frames_kind fs
state_kind (done o f) = outer_kind o
state_kind (head b h) = head_kind b
state_kind (set x) = set_kind x
state_kind (place x) = place_kind x
state_kind (in_lines x) = texts.Derivation

-- the machine's place for a frame, where the frame around it takes these sorts
abbrev pub point : Frame → Sorts → Point
point negated sorts = Negated
point inverted sorts = Inverted
point first sorts = First sorts
point (another j os) sorts = Next j (operand_count os)
point (second d f) sorts = Second
point (compared c e) sorts = Right Formula
point (operated o e) sorts = Right Expression
point (condition i) sorts = Condition
point (consequent i f) sorts = Consequent
point (alternative i f e) sorts = Alternative

-- how many parts there are with one more, and how many assignments
abbrev pub part_number : Option PartsSpelling → ℕ
part_number None = 1
part_number (Some ps) = one_more (count_of_parts ps)

abbrev pub assignments_before : Option AssignmentsSpelling → ℕ
assignments_before None = 0
assignments_before (Some as_) = count_of_assignments as_

-- the number of the line after these
abbrev pub line_number : DerivationSpelling → ℕ
line_number d = one_more_line (count_of_lines d)

abbrev pub whose_point : Whose → Owner
whose_point (own ws) = owners.Program
whose_point (of_part ws sp ps n) = owners.Part (part_number ps)
whose_point (of_line d l p) = owners.Line (line_number d)

abbrev pub clause_point : Clauses → Clause
clause_point to_pre = clauses.Pre
clause_point (to_rely f) = clauses.Rely
clause_point (to_guar f g) = clauses.Guar
clause_point (to_post f g h) = clauses.Post

abbrev pub block_point : Around → BlockKind
block_point (in_body ws sp ps n own_sp) = blocks.Body (part_number ps)
block_point (in_then a p i f) = blocks.Then
block_point (in_else a p i f b) = blocks.Else
block_point (in_loop a p i f) = blocks.Loop

-- the places of the statements that are open around
abbrev pub under_around : Around → List Point
under_around (in_body ws sp ps n own_sp) = []
under_around (in_then a p i f) = Item (block_point a) ∷ under_around a
under_around (in_else a p i f b) = Item (block_point a) ∷ under_around a
under_around (in_loop a p i f) = Item (block_point a) ∷ under_around a

-- the place where the outermost formula or expression is wanted
abbrev pub outer_point : Outer → Point
outer_point alone = Whole
outer_point (shown ws) = Whole
outer_point (clause w c) = Claim (clause_point c) (whose_point w)
outer_point (await_guard a p i) = AwaitGuard (block_point a)
outer_point (branch_guard a p i) = BranchGuard
outer_point (loop_guard a p i) = LoopGuard
outer_point (value a p t) = Value (block_point a)
outer_point (await_value a p i f as_ t) = AwaitValue (block_point a) (one_more (assignments_before as_))

abbrev pub outer_below : Outer → List Point
outer_below alone = []
outer_below (shown ws) = []
outer_below (clause w c) = []
outer_below (await_guard a p i) = under_around a
outer_below (branch_guard a p i) = Item (block_point a) ∷ under_around a
outer_below (loop_guard a p i) = Item (block_point a) ∷ under_around a
outer_below (value a p t) = under_around a
outer_below (await_value a p i f as_ t) = under_around a

abbrev pub outer_sorts : Outer → Sorts
outer_sorts (value a p t) = only_expression
outer_sorts (await_value a p i f as_ t) = only_expression
outer_sorts _ = only_formula

abbrev pub place_points : Place → List Point
place_points (after_clause w c f) = AfterClaim (clause_point c) (whose_point w) ∷ []
place_points (part_name ws sp ps) = PartName (part_number ps) ∷ []
place_points (named_part ws sp ps n) = NamedPart (part_number ps) ∷ []
place_points (after_part ws sp ps) = AfterPart (count_of_parts ps) ∷ []
place_points (item a p) = Item (block_point a) ∷ under_around a
place_points (after_item a b) = AfterItem (block_point a) ∷ under_around a
place_points (target a p t) = Target (block_point a) ∷ under_around a
place_points (after_await_guard a p i f) = AfterAwaitGuard (block_point a) ∷ under_around a
place_points (await_target a p i f as_) = AwaitTarget (block_point a) (assignments_before as_) ∷ under_around a
place_points (await_name a p i f as_ t) = AwaitName (block_point a) (one_more (assignments_before as_)) ∷ under_around a
place_points (after_assignment a p i f as_) = AfterAssignment (block_point a) (count_of_assignments as_) ∷ under_around a
place_points (after_branch_guard a p i f) = AfterBranchGuard ∷ Item (block_point a) ∷ under_around a
place_points (after_loop_guard a p i f) = AfterLoopGuard ∷ Item (block_point a) ∷ under_around a

abbrev pub taking : Frames → Sorts
taking (bottom o) = outer_sorts o
taking (within f fs) = takes (point f (taking fs))

abbrev pub top : Frames → Point
top (bottom o) = outer_point o
top (within f fs) = point f (taking fs)

abbrev pub below : Frames → List Point
below (bottom o) = outer_below o
below (within (condition i) fs) = Chosen ∷ top fs ∷ below fs
below (within (consequent i f) fs) = Chosen ∷ top fs ∷ below fs
below (within (alternative i f e) fs) = Chosen ∷ top fs ∷ below fs
below (within f fs) = top fs ∷ below fs

abbrev pub points : Frames → List Point
points fs = top fs ∷ below fs

-- how many words are read, with the one that is begun
abbrev pub count_with : Previous → ℕ
count_with None = 1
count_with (Some ws) = one_more (count_of_words ws)

abbrev pub head_point : Bool → Head → Point
head_point b unread = WordsStart b
head_point b before_first = FirstWord b
head_point b (after_fixed o) = FixedWord b (count_with o)
head_point b (after_name o m l) = NamedWord b (count_with o)
head_point b (after_colon o m l) = WordWidth b (count_with o)
head_point b (after_words ws) = AfterWord b (count_of_words ws)

abbrev pub part_point : Part → Sorts → Point
part_point (after_formula f) sorts = AfterFormula
part_point (after_expression e) sorts = AfterExpression sorts
part_point (after_next j c) sorts = AfterNext j (count_of c)
part_point (counted s e) sorts = Count
part_point (closing_conditional d f g) sorts = Closing Formula
part_point (closing_comparison c a b) sorts = Closing Formula
part_point (closing_operation o a b) sorts = Closing Expression
part_point (closing_shift s e text) sorts = Closing Expression
part_point (closing_choice i f a b) sorts = Closing Expression
part_point (after_condition i f) sorts = AfterCondition
part_point (after_consequent i f e) sorts = AfterConsequent

-- an `if` is open in its parentheses
abbrev pub under : Part → List Point → List Point
under (after_condition i f) ps = Chosen ∷ ps
under (after_consequent i f e) ps = Chosen ∷ ps
under _ ps = ps

abbrev pub in_move : Setter → Bool
in_move for_start = false
in_move (for_move ms n) = true

abbrev pub set_point : Set → Point
set_point (after_settings w ss) = Settings (in_move w)
set_point (after_set_word w ss l) = SettingWord (in_move w)
set_point (after_equals w ss l) = SettingValue (in_move w)
set_point before_moves = BeforeMoves
set_point (after_at ms) = MoveNumber

abbrev pub in_lines_point : InLines → Point
in_lines_point before_lines = BeforeLines
in_lines_point (line_begun d b) = LineNumber (line_number d)
in_lines_point (line_numbered d b n) = LineRule (line_number d)
in_lines_point (line_ruled d b n x w) = LineStatement (line_number d)
in_lines_point (after_statement d l) = AfterStatement (line_number d)
in_lines_point (after_from d l) = FirstPremise (line_number d)
in_lines_point (after_premise d l ps) = AfterPremise (line_number d)

abbrev pub state_points : State → List Point
state_points (hole fs) = points fs
state_points (at fs p) = part_point p (taking fs) ∷ under p (points fs)
state_points (done o f) = End ∷ []
state_points (head b h) = head_point b h ∷ []
state_points (set x) = set_point x ∷ []
state_points (place x) = place_points x
state_points (in_lines x) = in_lines_point x ∷ []

-- what the frame around has to take
abbrev pub needs : Frame → Sorts → Bool
needs negated sorts = sorts.formula
needs inverted sorts = sorts.expression
needs first sorts = sorts.formula || sorts.expression
needs (another j os) sorts = sorts.formula
needs (second d f) sorts = sorts.formula
needs (compared c e) sorts = sorts.formula
needs (operated o e) sorts = sorts.expression
needs (condition i) sorts = sorts.expression
needs (consequent i f) sorts = sorts.expression
needs (alternative i f e) sorts = sorts.expression

abbrev pub part_needs : Part → Sorts → Bool
part_needs (after_formula f) sorts = sorts.formula
part_needs (after_expression e) sorts = sorts.formula || sorts.expression
part_needs (after_next j c) sorts = sorts.formula
part_needs (counted s e) sorts = sorts.expression
part_needs (closing_conditional d f g) sorts = sorts.formula
part_needs (closing_comparison c a b) sorts = sorts.formula
part_needs (closing_operation o a b) sorts = sorts.expression
part_needs (closing_shift s e text) sorts = sorts.expression
part_needs (closing_choice i f a b) sorts = sorts.expression
part_needs (after_condition i f) sorts = sorts.expression
part_needs (after_consequent i f e) sorts = sorts.expression

abbrev pub Well : Frames → Type 0
Well (bottom o) = Unit {0}
Well (within f fs) = (needs f (taking fs) ≡ true) × Well fs

abbrev pub WellState : State → Type 0
WellState (hole fs) = Well fs
WellState (at fs p) = (part_needs p (taking fs) ≡ true) × Well fs
WellState (done alone f) = Unit {0}
WellState (done (shown ws) f) = Unit {0}
WellState (done _ f) = ⊥
WellState (head b h) = Unit {0}
WellState (set x) = Unit {0}
WellState (place x) = Unit {0}
WellState (in_lines x) = Unit {0}

-- a state of a text of this kind at these places, whose tokens are these
pub record Reaches (k : TextKind) (text : List Lexeme → List Lexeme) (ps : List Point) : Type 0 where
  pub state : State
  pub kind : state_kind state ≡ k
  pub well : WellState state
  pub places : state_points state ≡ ps
  pub same : (r : List Lexeme) → tokens state r ≡ text r

pub at_place : (x : Place) (text : List Lexeme → List Lexeme) (ps : List Point) → place_points x ≡ ps → ((r : List Lexeme) → before_place x r ≡ text r) → Reaches (place_kind x) text ps
at_place x text ps e same = record { state = place x; kind = refl; well = tt; places = e; same = same }

-- an item of either sort completes its frame
pub finish_formula : (fs : Frames) → Well fs → (taking fs).formula ≡ true → (f : FormulaSpelling) → Reaches (frames_kind fs) (λ r. before_all fs (formula f r)) (complete Formula (points fs))
finish_formula (bottom alone) w h f = record { kind = refl; state = done alone f; well = tt; places = refl; same = λ r. refl }
finish_formula (bottom (shown ws)) w h f = record { kind = refl; state = done (shown ws) f; well = tt; places = refl; same = λ r. refl }
finish_formula (bottom (clause x c)) w h f = at_place (after_clause x c f) _ _ refl (λ r. refl)
finish_formula (bottom (await_guard a p i)) w h f = at_place (after_await_guard a p i f) _ _ refl (λ r. refl)
finish_formula (bottom (branch_guard a p i)) w h f = at_place (after_branch_guard a p i f) _ _ refl (λ r. refl)
finish_formula (bottom (loop_guard a p i)) w h f = at_place (after_loop_guard a p i f) _ _ refl (λ r. refl)
finish_formula (bottom (value a p t)) w h f = cc
finish_formula (bottom (await_value a p i g as_ t)) w h f = cc
finish_formula (within negated fs) w h f = finish_formula fs w.1 w.0 (negation f)
finish_formula (within inverted fs) w h f = cc
finish_formula (within first fs) w h f = record { kind = refl; state = at fs (after_formula f); well = (h, w.1); places = refl; same = λ r. refl }
finish_formula (within (another j (single g)) fs) w h f = record { kind = refl; state = at fs (after_next j (pair g f)); well = w; places = refl; same = λ r. refl }
finish_formula (within (another j (several c)) fs) w h f = record { kind = refl; state = at fs (after_next j (longer c f)); well = w; places = refl; same = λ r. refl }
finish_formula (within (second d g) fs) w h f = record { kind = refl; state = at fs (closing_conditional d g f); well = w; places = refl; same = λ r. refl }
finish_formula (within (compared c e) fs) w h f = cc
finish_formula (within (operated o e) fs) w h f = cc
finish_formula (within (condition i) fs) w h f = record { kind = refl; state = at fs (after_condition i f); well = w; places = refl; same = λ r. refl }
finish_formula (within (consequent i g) fs) w h f = cc
finish_formula (within (alternative i g e) fs) w h f = cc

pub finish_expression : (fs : Frames) → Well fs → (taking fs).expression ≡ true → (e : ExpressionSpelling) → Reaches (frames_kind fs) (λ r. before_all fs (expression e r)) (complete Expression (points fs))
finish_expression (bottom (value a None t)) w h e = at_place (after_item a (one_statement (assigning (record { target = t; value = e })))) _ _ refl (λ r. refl)
finish_expression (bottom (value a (Some b) t)) w h e = at_place (after_item a (and_statement b (assigning (record { target = t; value = e })))) _ _ refl (λ r. refl)
finish_expression (bottom (await_value a p i f None t)) w h e = at_place (after_assignment a p i f (one_assignment (record { target = t; value = e }))) _ _ refl (λ r. refl)
finish_expression (bottom (await_value a p i f (Some as_) t)) w h e = at_place (after_assignment a p i f (and_assignment as_ (record { target = t; value = e }))) _ _ refl (λ r. refl)
finish_expression (bottom _) w h e = cc
finish_expression (within negated fs) w h e = cc
finish_expression (within inverted fs) w h e = finish_expression fs w.1 w.0 (inverse e)
finish_expression (within first fs) w h e = record { kind = refl; state = at fs (after_expression e); well = w; places = refl; same = λ r. refl }
finish_expression (within (another j os) fs) w h e = cc
finish_expression (within (second d g) fs) w h e = cc
finish_expression (within (compared c a) fs) w h e = record { kind = refl; state = at fs (closing_comparison c a e); well = w; places = refl; same = λ r. refl }
finish_expression (within (operated o a) fs) w h e = record { kind = refl; state = at fs (closing_operation o a e); well = w; places = refl; same = λ r. refl }
finish_expression (within (condition i) fs) w h e = cc
finish_expression (within (consequent i g) fs) w h e = record { kind = refl; state = at fs (after_consequent i g e); well = w; places = refl; same = λ r. refl }
finish_expression (within (alternative i g a) fs) w h e = record { kind = refl; state = at fs (closing_choice i g a e); well = w; places = refl; same = λ r. refl }
