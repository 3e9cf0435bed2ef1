-- The parser's table: what each place takes, and where a token leads.
use Rattle.std.specs.Prelude.{ℕ, Bool, true, false, ◌||◌, ◌&&◌, not, ◌+◌, min, nat_lt, cond, length, List, [], ◌∷◌, Option, Some, None}
use Rattle.rg_text.specs.declared.kind.Kind.{Kind}
use Rattle.rg_text.specs.declared.kind.Kind.TheVariants.{Name, Primed, Number, Fixed}
use Rattle.rg_text.specs.declared.kind.Terminal.TheVariants.{Open, Close, Colon, Semicolon, Assign, Words, Show, Section, Compare, Operate, ShiftBy, Join, Imply, Truth, Not, Inv, If, Then, Else}
use Rattle.rg_text.specs.declared.kind.Keyword.{Keyword}
use Rattle.rg_text.specs.declared.kind.Keyword.TheVariants as keywords
use Rattle.rg_text.specs.declared.kind.Junction.{Junction}
use Rattle.rg_text.specs.declared.kind.Junction.TheVariants.{And, Or}
use Rattle.rg_shape.specs.declared.point.Sort.{Sort}
use Rattle.rg_shape.specs.declared.point.Sort.TheVariants.{Formula, Expression}
use Rattle.rg_shape.specs.declared.point.Sorts.{Sorts}
use Rattle.rg_shape.specs.declared.point.Point.{Point}
use Rattle.rg_shape.specs.declared.point.Point.TheVariants.{Whole, Negated, Inverted, First, Next, Second, Right, Chosen, Condition, Consequent, Alternative, End, AfterFormula, AfterExpression, AfterNext, Count, Closing, AfterCondition, AfterConsequent, WordsStart, FirstWord, FixedWord, NamedWord, WordWidth, AfterWord, Settings, SettingWord, SettingValue, BeforeMoves, MoveNumber, Claim, AfterClaim, PartName, NamedPart, AfterPart, Item, AfterItem, Target, Value, AwaitGuard, AfterAwaitGuard, AwaitTarget, AwaitName, AwaitValue, AfterAssignment, BranchGuard, AfterBranchGuard, LoopGuard, AfterLoopGuard, BeforeLines, LineNumber, LineRule, LineStatement, AfterStatement, FirstPremise, AfterPremise}
use Rattle.rg_shape.specs.declared.point.Owner.{Owner}
use Rattle.rg_shape.specs.declared.point.Owner.TheVariants as owners
use Rattle.rg_shape.specs.declared.point.Clause.{Clause}
use Rattle.rg_shape.specs.declared.point.Clause.TheVariants as clauses
use Rattle.rg_shape.specs.declared.point.BlockKind.{BlockKind}
use Rattle.rg_shape.specs.declared.point.BlockKind.TheVariants as blocks
use Rattle.rg_words.specs.declared.operators.Comparison.{Comparison}
use Rattle.rg_words.specs.declared.operators.Comparison.TheVariants as comparisons
use Rattle.rg_words.specs.declared.limits.TheConstants.{MOST_OPENERS, MOST_OPERANDS, MOST_WORDS, MOST_PARTS, MOST_ASSIGNMENTS, MOST_DERIVATION_LINES}
use Rattle.rg_syntax.specs.declared.text_kind.TextKind.{TextKind}
use Rattle.rg_syntax.specs.declared.text_kind.TextKind.TheVariants as texts
use Rattle.rg_shape.specs.declared.point.Start.{Start}
use Rattle.rg_shape.specs.declared.point.Start.TheVariants.{Leaf, Prefix, Opener, Other}
use Rattle.rg_shape.specs.declared.point.Turn.{Turn}
use Rattle.rg_shape.specs.declared.point.Turn.TheVariants.{On, Inside, Closed, Ended}

-- where a text of this kind begins
abbrev pub start : TextKind → List Point
start texts.Formula = Whole ∷ []
start texts.Show = WordsStart false ∷ []
start texts.Start = Settings false ∷ []
start texts.Moves = BeforeMoves ∷ []
start texts.Program = WordsStart true ∷ []
start texts.Derivation = BeforeLines ∷ []

abbrev pub only_formula : Sorts
only_formula = record { formula = true; expression = false }

abbrev pub only_expression : Sorts
only_expression = record { formula = false; expression = true }

-- whether the sort is one of these
abbrev pub has : Sorts → Sort → Bool
has sorts Formula = sorts.formula
has sorts Expression = sorts.expression

-- the items that may stand here
abbrev pub takes : Point → Sorts
takes Whole = only_formula
takes Negated = only_formula
takes Inverted = only_expression
takes (First sorts) = record { formula = sorts.formula; expression = true }
takes (Next j n) = only_formula
takes Second = only_formula
takes (Right s) = only_expression
takes Chosen = only_expression
takes Condition = only_formula
takes Consequent = only_expression
takes Alternative = only_expression
takes (Claim c o) = only_formula
takes (AwaitGuard b) = only_formula
takes BranchGuard = only_formula
takes LoopGuard = only_formula
takes (Value b) = only_expression
takes (AwaitValue b n) = only_expression
takes _ = record { formula = false; expression = false }

-- where the item stood that ends with its operand
abbrev pub is_prefix : Point → Bool
is_prefix Negated = true
is_prefix Inverted = true
is_prefix Alternative = true
is_prefix _ = false

-- the operands of a chain and the words are counted up to 255
abbrev pub one_more : ℕ → ℕ
one_more n = min (n + 1) 255

-- the lines of a derivation are counted up to 65,535
abbrev pub one_more_line : ℕ → ℕ
one_more_line n = min (n + 1) 65535

-- the place after an item of this sort
abbrev pub resume : Point → Sort → Point
resume (First sorts) Formula = AfterFormula
resume (First sorts) Expression = AfterExpression sorts
resume (Next j n) s = AfterNext j (one_more n)
resume Second s = Closing Formula
resume (Right t) s = Closing t
resume Chosen s = Closing Expression
resume Condition s = AfterCondition
resume Consequent s = AfterConsequent
resume (Claim c o) s = AfterClaim c o
resume (Value b) s = AfterItem b
resume (AwaitGuard b) s = AfterAwaitGuard b
resume (AwaitValue b n) s = AfterAssignment b n
resume BranchGuard s = AfterBranchGuard
resume LoopGuard s = AfterLoopGuard
resume _ s = End

-- the places, the innermost first, after an item of this sort
abbrev pub complete : Sort → List Point → List Point
complete s [] = []
complete s (p ∷ ps) = cond (is_prefix p) (complete s ps) (resume p s ∷ ps)

-- the place after a statement of a block
abbrev pub after_statement : Point → Point
after_statement (Item b) = AfterItem b
after_statement _ = End

abbrev pub end_statement : List Point → List Point
end_statement [] = []
end_statement (p ∷ ps) = after_statement p ∷ ps

abbrev pub start_of : Kind → Start
start_of Name = Leaf Expression
start_of Primed = Leaf Expression
start_of Number = Leaf Expression
start_of (Fixed (Truth b)) = Leaf Formula
start_of (Fixed Not) = Prefix Formula
start_of (Fixed Inv) = Prefix Expression
start_of (Fixed Open) = Opener
start_of (Fixed _) = Other

-- the place after a prefix operator
abbrev pub operand_of : Sort → Point
operand_of Formula = Negated
operand_of Expression = Inverted

abbrev pub when : {A : Type 0} → Bool → A → Option A
when b x = cond b (Some x) None

abbrev pub same_junction : Junction → Junction → Bool
same_junction And And = true
same_junction And Or = false
same_junction Or And = false
same_junction Or Or = true

abbrev pub is_equals : Comparison → Bool
is_equals comparisons.Equal = true
is_equals _ = false

abbrev pub at_compare : Point → Comparison → Option Turn
at_compare (AfterExpression sorts) c = when sorts.formula (On (Right Formula))
at_compare (SettingWord m) c = when (is_equals c) (On (SettingValue m))
at_compare _ c = None

abbrev pub at_operate : Point → Option Turn
at_operate (AfterExpression sorts) = when sorts.expression (On (Right Expression))
at_operate _ = None

abbrev pub at_shift : Point → Option Turn
at_shift (AfterExpression sorts) = when sorts.expression (On Count)
at_shift _ = None

abbrev pub at_join : Point → Junction → Option Turn
at_join AfterFormula j = Some (On (Next j 1))
at_join (AfterNext k n) j = when (same_junction k j) (On (Next k n))
at_join _ j = None

abbrev pub at_imply : Point → Option Turn
at_imply AfterFormula = Some (On Second)
at_imply _ = None

abbrev pub at_close : Point → Option Turn
at_close (AfterNext j n) = Some (Closed Formula)
at_close (Closing s) = Some (Closed s)
at_close _ = None

abbrev pub at_if : Point → Option Turn
at_if (First sorts) = when sorts.expression (Inside Condition Chosen)
at_if (Item b) = Some (Inside BranchGuard (Item b))
at_if (LineRule n) = Some (On (LineStatement n))
at_if _ = None

abbrev pub at_then : Point → Option Turn
at_then AfterCondition = Some (On Consequent)
at_then AfterBranchGuard = Some (On (Item blocks.Then))
at_then _ = None

abbrev pub at_else : Point → Option Turn
at_else AfterConsequent = Some (On Alternative)
at_else (AfterItem blocks.Then) = Some (On (Item blocks.Else))
at_else _ = None

abbrev pub at_number : Point → Option Turn
at_number Count = Some (On (Closing Expression))
at_number (WordWidth p n) = Some (On (AfterWord p n))
at_number (SettingValue m) = Some (On (Settings m))
at_number MoveNumber = Some (On (Settings true))
at_number (LineNumber n) = Some (On (LineRule n))
at_number (LineStatement n) = Some (On (AfterStatement n))
at_number (FirstPremise n) = Some (On (AfterPremise n))
at_number (AfterPremise n) = Some (On (AfterPremise n))
at_number _ = None

abbrev pub at_name : Point → Option Turn
at_name (FirstWord p) = Some (On (NamedWord p 1))
at_name (FixedWord p n) = Some (On (NamedWord p n))
at_name (AfterWord p n) = Some (On (NamedWord p (one_more n)))
at_name (PartName n) = Some (On (NamedPart n))
at_name (Item b) = Some (On (Target b))
at_name (AwaitTarget b n) = Some (On (AwaitName b (one_more n)))
at_name (Settings m) = Some (On (SettingWord m))
at_name _ = None

abbrev pub at_colon : Point → Option Turn
at_colon (NamedWord p n) = Some (On (WordWidth p n))
at_colon _ = None

abbrev pub at_words : Point → Option Turn
at_words (WordsStart p) = Some (On (FirstWord p))
at_words _ = None

abbrev pub at_show : Point → Option Turn
at_show (AfterWord p n) = when (not p) (On Whole)
at_show _ = None

abbrev pub is_fixed : Keyword → Bool
is_fixed keywords.Fixed = true
is_fixed _ = false

abbrev pub is_at : Keyword → Bool
is_at keywords.At = true
is_at _ = false

abbrev pub is_pre : Keyword → Bool
is_pre keywords.Pre = true
is_pre _ = false

abbrev pub is_rely : Keyword → Bool
is_rely keywords.Rely = true
is_rely _ = false

abbrev pub is_guar : Keyword → Bool
is_guar keywords.Guar = true
is_guar _ = false

abbrev pub is_post : Keyword → Bool
is_post keywords.Post = true
is_post _ = false

abbrev pub is_part : Keyword → Bool
is_part keywords.Part = true
is_part _ = false

abbrev pub is_begin : Keyword → Bool
is_begin keywords.Begin = true
is_begin _ = false

abbrev pub is_do : Keyword → Bool
is_do keywords.Do = true
is_do _ = false

abbrev pub is_end_word : Keyword → Bool
is_end_word keywords.End = true
is_end_word _ = false

abbrev pub is_line : Keyword → Bool
is_line keywords.Line = true
is_line _ = false

-- whether a rule that isn't called `if` has this name
abbrev pub is_rule : Keyword → Bool
is_rule keywords.Basic = true
is_rule keywords.Atomic = true
is_rule keywords.Seq = true
is_rule keywords.Loop = true
is_rule keywords.Conseq = true
is_rule _ = false

abbrev pub is_while : Keyword → Bool
is_while keywords.While = true
is_while _ = false

abbrev pub at_semicolon : Point → Option Turn
at_semicolon (AfterItem b) = Some (On (Item b))
at_semicolon (AfterAssignment b n) = Some (On (AwaitTarget b n))
at_semicolon _ = None

abbrev pub at_assign : Point → Option Turn
at_assign (Target b) = Some (On (Value b))
at_assign (AwaitName b n) = Some (On (AwaitValue b n))
at_assign _ = None

abbrev pub after_word : Bool → ℕ → Keyword → Option Turn
after_word p n keywords.Fixed = Some (On (FixedWord p (one_more n)))
after_word p n keywords.Pre = when p (On (Claim clauses.Pre owners.Program))
after_word p n _ = None

abbrev pub after_specification : Owner → Keyword → Option Turn
after_specification owners.Program k = when (is_part k) (On (PartName 1))
after_specification (owners.Part n) k = when (is_begin k) (On (Item (blocks.Body n)))
after_specification (owners.Line n) k = when (is_line k) (On (LineNumber (one_more_line n)))

abbrev pub after_claim : Clause → Owner → Keyword → Option Turn
after_claim clauses.Pre o k = when (is_rely k) (On (Claim clauses.Rely o))
after_claim clauses.Rely o k = when (is_guar k) (On (Claim clauses.Guar o))
after_claim clauses.Guar o k = when (is_post k) (On (Claim clauses.Post o))
after_claim clauses.Post o k = after_specification o k

abbrev pub before_claims : ℕ → Keyword → Option Turn
before_claims n k = when (is_pre k) (On (Claim clauses.Pre (owners.Line n)))

abbrev pub before_premises : ℕ → Keyword → Option Turn
before_premises n keywords.From = Some (On (FirstPremise n))
before_premises n k = before_claims n k

abbrev pub at_statement : BlockKind → Keyword → Option Turn
at_statement b keywords.Skip = Some (On (AfterItem b))
at_statement b keywords.Await = Some (On (AwaitGuard b))
at_statement b keywords.While = Some (Inside LoopGuard (Item b))
at_statement b _ = None

-- where the `end` after a block leads
abbrev pub block_end : BlockKind → Option Turn
block_end (blocks.Body n) = Some (On (AfterPart n))
block_end blocks.Then = None
block_end blocks.Else = Some Ended
block_end blocks.Loop = Some Ended

abbrev pub at_section : Point → Keyword → Option Turn
at_section (FirstWord p) k = when (is_fixed k) (On (FixedWord p 1))
at_section (AfterWord p n) k = after_word p n k
at_section BeforeMoves k = when (is_at k) (On MoveNumber)
at_section (Settings m) k = when (m && is_at k) (On MoveNumber)
at_section (AfterClaim c o) k = after_claim c o k
at_section (NamedPart n) k = when (is_pre k) (On (Claim clauses.Pre (owners.Part n)))
at_section (AfterPart n) k = when (is_part k) (On (PartName (one_more n)))
at_section (Item b) k = at_statement b k
at_section (AfterItem b) k = cond (is_end_word k) (block_end b) None
at_section (AfterAwaitGuard b) k = when (is_do k) (On (AwaitTarget b 0))
at_section (AfterAssignment b n) k = when (is_end_word k) (On (AfterItem b))
at_section AfterLoopGuard k = when (is_do k) (On (Item blocks.Loop))
at_section BeforeLines k = when (is_line k) (On (LineNumber 1))
at_section (LineRule n) k = when (is_rule k) (On (LineStatement n))
at_section (AfterStatement n) k = before_premises n k
at_section (AfterPremise n) k = before_claims n k
at_section _ k = None

-- where a token leads that begins no item
abbrev pub turn : Point → Kind → Option Turn
turn p Name = at_name p
turn p Primed = None
turn p Number = at_number p
turn p (Fixed (Compare c)) = at_compare p c
turn p (Fixed (Operate o)) = at_operate p
turn p (Fixed (ShiftBy s)) = at_shift p
turn p (Fixed (Join j)) = at_join p j
turn p (Fixed (Imply d)) = at_imply p
turn p (Fixed Close) = at_close p
turn p (Fixed If) = at_if p
turn p (Fixed Then) = at_then p
turn p (Fixed Else) = at_else p
turn p (Fixed Colon) = at_colon p
turn p (Fixed Words) = at_words p
turn p (Fixed Show) = at_show p
turn p (Fixed (Section k)) = at_section p k
turn p (Fixed Semicolon) = at_semicolon p
turn p (Fixed Assign) = at_assign p
turn p (Fixed _) = None

abbrev pub turned : List Point → Turn → List Point
turned ps (On p) = p ∷ ps
turned ps (Inside p q) = p ∷ q ∷ ps
turned ps (Closed s) = complete s ps
turned ps Ended = end_statement ps

abbrev pub after_turn : List Point → Option Turn → Option (List Point)
after_turn ps None = None
after_turn ps (Some t) = Some (turned ps t)

abbrev pub begin : Start → Point → List Point → Option (List Point) → Option (List Point)
begin (Leaf s) p ps other = cond (has (takes p) s) (Some (complete s (p ∷ ps))) other
begin (Prefix s) p ps other = cond (has (takes p) s) (Some (operand_of s ∷ p ∷ ps)) other
begin Opener p ps other = cond ((takes p).formula || (takes p).expression) (Some (First (takes p) ∷ p ∷ ps)) other
begin Other p ps other = other

-- one token
abbrev pub next : List Point → Kind → Option (List Point)
next [] k = None
next (p ∷ ps) k = begin (start_of k) p ps (after_turn ps (turn p k))

-- whether the token begins what is open until its operands end
abbrev pub is_opener : Kind → Bool
is_opener (Fixed Open) = true
is_opener (Fixed Not) = true
is_opener (Fixed Inv) = true
is_opener (Fixed If) = true
is_opener (Fixed (Section k)) = is_while k
is_opener _ = false

abbrev pub is_join : Kind → Bool
is_join (Fixed (Join j)) = true
is_join _ = false

-- whether a chain may go on here
abbrev pub has_operand_left : Point → Bool
has_operand_left (AfterNext j n) = nat_lt n MOST_OPERANDS
has_operand_left _ = true

-- whether the limits of depth let the token stand here
abbrev pub is_shallow : List Point → Kind → Bool
is_shallow [] k = true
is_shallow (p ∷ ps) k = cond (is_opener k) (nat_lt (length ps) MOST_OPENERS) (cond (is_join k) (has_operand_left p) true)

-- whether the token begins a declaration
abbrev pub begins_word : Kind → Bool
begins_word Name = true
begins_word (Fixed (Section k)) = is_fixed k
begins_word _ = false

abbrev pub begins_part : Kind → Bool
begins_part (Fixed (Section k)) = is_part k
begins_part _ = false

abbrev pub begins_line : Kind → Bool
begins_line (Fixed (Section k)) = is_line k
begins_line _ = false

abbrev pub is_semicolon : Kind → Bool
is_semicolon (Fixed Semicolon) = true
is_semicolon _ = false

-- whether another line may follow this formula
abbrev pub has_line_left : Clause → Owner → Bool
has_line_left clauses.Post (owners.Line n) = nat_lt n MOST_DERIVATION_LINES
has_line_left c o = true

-- whether the limits of lists let the token stand here
abbrev pub has_room_at : Point → Kind → Bool
has_room_at (AfterWord p n) k = cond (begins_word k) (nat_lt n MOST_WORDS) true
has_room_at (AfterPart n) k = cond (begins_part k) (nat_lt n MOST_PARTS) true
has_room_at (AfterAssignment b n) k = cond (is_semicolon k) (nat_lt n MOST_ASSIGNMENTS) true
has_room_at (AfterClaim c o) k = cond (begins_line k) (has_line_left c o) true
has_room_at _ k = true

abbrev pub has_room : List Point → Kind → Bool
has_room [] k = true
has_room (p ∷ ps) k = has_room_at p k

-- whether this formula ends a line
abbrev pub ends_line : Clause → Owner → Bool
ends_line clauses.Post (owners.Line n) = true
ends_line c o = false

-- where a text may end
abbrev pub is_end : Point → Bool
is_end End = true
is_end (Settings m) = true
is_end BeforeMoves = true
is_end (AfterPart n) = true
is_end BeforeLines = true
is_end (AfterClaim c o) = ends_line c o
is_end _ = false

-- whether nothing is wanted any more
abbrev pub is_at_end : List Point → Bool
is_at_end [] = false
is_at_end (p ∷ ps) = is_end p
