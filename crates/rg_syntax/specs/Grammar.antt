-- The grammar: each way to write a text, and its tokens.
use Rattle.std.specs.Prelude.{◌≡◌, ℕ, Bool, true, false, List, [], ◌∷◌, ◌++◌, Option, Some, None}
use Rattle.rg_text.specs.Text.{Leaf, leaf_of}
use Rattle.rg_text.specs.declared.token.Token.{Token}
use Rattle.rg_text.specs.declared.kind.Kind.{Kind}
use Rattle.rg_text.specs.declared.kind.Kind.TheVariants.{Name, Primed, Number, Fixed}
use Rattle.rg_text.specs.declared.kind.Terminal.{Terminal}
use Rattle.rg_text.specs.declared.kind.Terminal.TheVariants.{Open, Close, Colon, Semicolon, Assign, Words, Show, Section, Compare, Operate, ShiftBy, Join, Imply, Truth, Not, Inv, If, Then, Else}
use Rattle.rg_words.specs.declared.operators.Comparison.{Comparison}
use Rattle.rg_words.specs.declared.operators.Operator.{Operator}
use Rattle.rg_words.specs.declared.operators.Shift.{Shift}
use Rattle.rg_text.specs.declared.kind.Junction.{Junction}
use Rattle.rg_text.specs.declared.kind.Conditional.{Conditional}
use Rattle.rg_text.specs.declared.kind.Keyword.TheVariants as keywords
use Rattle.rg_tree.specs.declared.line.Rule.{Rule}
use Rattle.rg_tree.specs.declared.line.Rule.TheVariants as rules
use Rattle.rg_syntax.specs.Written.{DeclaredWord, SettingTree}
use Rattle.rg_words.specs.declared.operators.Comparison.TheVariants as comparisons
use Rattle.rg_syntax.specs.declared.text_kind.TextKind.{TextKind}
use Rattle.rg_syntax.specs.declared.text_kind.TextKind.TheVariants as texts

-- the keywords that begin a statement, other than as a part of one, or a line of a derivation
pub data Opening : Type 0 where
  an_if : Opening
  a_skip : Opening
  an_await : Opening
  a_while : Opening
  a_line : Opening

-- a token as the grammar sees it: a keyword or symbol, or a name or number with its text and line. A keyword that begins a
-- statement or a line has them too
pub data Lexeme : Type 0 where
  fixed : Terminal → Lexeme
  opening : Opening → Leaf → Lexeme
  name : Leaf → Lexeme
  primed : Leaf → Lexeme
  number : Leaf → Lexeme

-- the keyword that it is
abbrev pub terminal_of : Opening → Terminal
terminal_of an_if = If
terminal_of a_skip = Section keywords.Skip
terminal_of an_await = Section keywords.Await
terminal_of a_while = Section keywords.While
terminal_of a_line = Section keywords.Line

-- a token of this kind with this text and line, as the grammar sees it
abbrev pub lexeme_as : Kind → Leaf → Lexeme
lexeme_as (Fixed If) leaf = opening an_if leaf
lexeme_as (Fixed (Section keywords.Skip)) leaf = opening a_skip leaf
lexeme_as (Fixed (Section keywords.Await)) leaf = opening an_await leaf
lexeme_as (Fixed (Section keywords.While)) leaf = opening a_while leaf
lexeme_as (Fixed (Section keywords.Line)) leaf = opening a_line leaf
lexeme_as (Fixed t) leaf = fixed t
lexeme_as Name leaf = name leaf
lexeme_as Primed leaf = primed leaf
lexeme_as Number leaf = number leaf

-- a token of this source, as the grammar sees it
abbrev pub lexeme_of : List ℕ → Token → Lexeme
lexeme_of source t = lexeme_as t.kind (leaf_of source t)

-- the ways to write a formula, a chain of formulas, and an expression
mutual
  pub data FormulaSpelling : Type 0 where
    truth : Bool → FormulaSpelling
    negation : FormulaSpelling → FormulaSpelling
    junction : Junction → ChainSpelling → FormulaSpelling
    conditional : Conditional → FormulaSpelling → FormulaSpelling → FormulaSpelling
    comparison : Comparison → ExpressionSpelling → ExpressionSpelling → FormulaSpelling

  pub data ChainSpelling : Type 0 where
    pair : FormulaSpelling → FormulaSpelling → ChainSpelling
    longer : ChainSpelling → FormulaSpelling → ChainSpelling

  pub data ExpressionSpelling : Type 0 where
    numeral : Leaf → ExpressionSpelling
    word : Leaf → ExpressionSpelling
    next_word : Leaf → ExpressionSpelling
    inverse : ExpressionSpelling → ExpressionSpelling
    operation : Operator → ExpressionSpelling → ExpressionSpelling → ExpressionSpelling
    shift : Shift → ExpressionSpelling → Leaf → ExpressionSpelling
    choice : Leaf → FormulaSpelling → ExpressionSpelling → ExpressionSpelling → ExpressionSpelling

-- its tokens, and then the rest
abbrev mutual
  pub formula : FormulaSpelling → List Lexeme → List Lexeme
  formula (truth b) rest = fixed (Truth b) ∷ rest
  formula (negation f) rest = fixed Not ∷ formula f rest
  formula (junction j c) rest = fixed Open ∷ chain j c (fixed Close ∷ rest)
  formula (conditional d f g) rest = fixed Open ∷ formula f (fixed (Imply d) ∷ formula g (fixed Close ∷ rest))
  formula (comparison c a b) rest = fixed Open ∷ expression a (fixed (Compare c) ∷ expression b (fixed Close ∷ rest))

  pub chain : Junction → ChainSpelling → List Lexeme → List Lexeme
  chain j (pair f g) rest = formula f (fixed (Join j) ∷ formula g rest)
  chain j (longer c f) rest = chain j c (fixed (Join j) ∷ formula f rest)

  pub expression : ExpressionSpelling → List Lexeme → List Lexeme
  expression (numeral leaf) rest = number leaf ∷ rest
  expression (word leaf) rest = name leaf ∷ rest
  expression (next_word leaf) rest = primed leaf ∷ rest
  expression (inverse a) rest = fixed Inv ∷ expression a rest
  expression (operation o a b) rest = fixed Open ∷ expression a (fixed (Operate o) ∷ expression b (fixed Close ∷ rest))
  expression (shift s a leaf) rest = fixed Open ∷ expression a (fixed (ShiftBy s) ∷ number leaf ∷ fixed Close ∷ rest)
  expression (choice i f a b) rest = fixed Open ∷ opening an_if i ∷ formula f (fixed Then ∷ expression a (fixed Else ∷ expression b (fixed Close ∷ rest)))

-- the ways to write a declaration of words
pub data WordsSpelling : Type 0 where
  one : DeclaredWord → WordsSpelling
  more : WordsSpelling → DeclaredWord → WordsSpelling

-- the ways to write a formula that is shown over declared words
pub record ShowSpelling : Type 0 where
  pub words : WordsSpelling
  pub formula : FormulaSpelling

-- the keyword of a fixed word, and then the rest
abbrev pub marked : Bool → List Lexeme → List Lexeme
marked true rest = fixed (Section keywords.Fixed) ∷ rest
marked false rest = rest

-- the tokens of the declaration of one word, and then the rest
abbrev pub declaration : DeclaredWord → List Lexeme → List Lexeme
declaration w rest = marked w.fixed (name w.name ∷ fixed Colon ∷ number w.width ∷ rest)

-- the tokens of the declaration of words, and then the rest
abbrev pub words : WordsSpelling → List Lexeme → List Lexeme
words (one w) rest = fixed Words ∷ declaration w rest
words (more ws w) rest = words ws (declaration w rest)

-- the tokens of a text to show, and then the rest
abbrev pub show : ShowSpelling → List Lexeme → List Lexeme
show s rest = words s.words (fixed Show ∷ formula s.formula rest)

-- the ways to set words
pub data SettingsSpelling : Type 0 where
  no_setting : SettingsSpelling
  and_setting : SettingsSpelling → SettingTree → SettingsSpelling

-- the ways to write moves, each with its number
pub data MovesSpelling : Type 0 where
  no_move : MovesSpelling
  and_move : MovesSpelling → Leaf → SettingsSpelling → MovesSpelling

-- the tokens of one setting, and then the rest
abbrev pub a_setting : SettingTree → List Lexeme → List Lexeme
a_setting s rest = name s.word ∷ fixed (Compare comparisons.Equal) ∷ number s.value ∷ rest

-- the tokens of settings, and then the rest
abbrev pub settings : SettingsSpelling → List Lexeme → List Lexeme
settings no_setting rest = rest
settings (and_setting ss s) rest = settings ss (a_setting s rest)

-- the tokens of moves, and then the rest
abbrev pub moves : MovesSpelling → List Lexeme → List Lexeme
moves no_move rest = rest
moves (and_move ms n ss) rest = moves ms (fixed (Section keywords.At) ∷ number n ∷ settings ss rest)

-- the ways to write an assignment, and those of an await
pub record AssignmentSpelling : Type 0 where
  pub target : Leaf
  pub value : ExpressionSpelling

-- the ways to write the assignments of an await
pub data AssignmentsSpelling : Type 0 where
  one_assignment : AssignmentSpelling → AssignmentsSpelling
  and_assignment : AssignmentsSpelling → AssignmentSpelling → AssignmentsSpelling

-- the ways to write a statement, and a block
mutual
  pub data StatementSpelling : Type 0 where
    skipping : Leaf → StatementSpelling
    assigning : AssignmentSpelling → StatementSpelling
    awaiting : Leaf → FormulaSpelling → AssignmentsSpelling → StatementSpelling
    branching : Leaf → FormulaSpelling → BlockSpelling → BlockSpelling → StatementSpelling
    looping : Leaf → FormulaSpelling → BlockSpelling → StatementSpelling

  pub data BlockSpelling : Type 0 where
    one_statement : StatementSpelling → BlockSpelling
    and_statement : BlockSpelling → StatementSpelling → BlockSpelling

-- the ways to write a specification, a part, some parts and a program
pub record SpecSpelling : Type 0 where
  pub pre : FormulaSpelling
  pub rely : FormulaSpelling
  pub guar : FormulaSpelling
  pub post : FormulaSpelling

-- the ways to write a part
pub record PartSpelling : Type 0 where
  pub name : Leaf
  pub spec : SpecSpelling
  pub body : BlockSpelling

-- the ways to write parts
pub data PartsSpelling : Type 0 where
  one_part : PartSpelling → PartsSpelling
  and_part : PartsSpelling → PartSpelling → PartsSpelling

-- the ways to write a program
pub record ProgramSpelling : Type 0 where
  pub words : WordsSpelling
  pub spec : SpecSpelling
  pub parts : PartsSpelling

-- the tokens of an assignment, and then the rest
abbrev pub an_assignment : AssignmentSpelling → List Lexeme → List Lexeme
an_assignment a rest = name a.target ∷ fixed Assign ∷ expression a.value rest

-- the tokens of the assignments of an await, and then the rest
abbrev pub assignments : AssignmentsSpelling → List Lexeme → List Lexeme
assignments (one_assignment a) rest = an_assignment a rest
assignments (and_assignment as_ a) rest = assignments as_ (fixed Semicolon ∷ an_assignment a rest)

-- the tokens of a statement, and of a block, and then the rest
abbrev mutual
  pub statement : StatementSpelling → List Lexeme → List Lexeme
  statement (skipping i) rest = opening a_skip i ∷ rest
  statement (assigning a) rest = an_assignment a rest
  statement (awaiting i f as_) rest = opening an_await i ∷ formula f (fixed (Section keywords.Do) ∷ assignments as_ (fixed (Section keywords.End) ∷ rest))
  statement (branching i f b c) rest = opening an_if i ∷ formula f (fixed Then ∷ block b (fixed Else ∷ block c (fixed (Section keywords.End) ∷ rest)))
  statement (looping i f b) rest = opening a_while i ∷ formula f (fixed (Section keywords.Do) ∷ block b (fixed (Section keywords.End) ∷ rest))

  pub block : BlockSpelling → List Lexeme → List Lexeme
  block (one_statement s) rest = statement s rest
  block (and_statement b s) rest = block b (fixed Semicolon ∷ statement s rest)

-- the tokens of a specification, and then the rest
abbrev pub specification : SpecSpelling → List Lexeme → List Lexeme
specification s rest =
    fixed (Section keywords.Pre) ∷ formula s.pre (fixed (Section keywords.Rely) ∷ formula s.rely (fixed (Section keywords.Guar) ∷ formula s.guar (fixed (Section keywords.Post) ∷ formula s.post rest)))

-- the tokens of a part, and then the rest
abbrev pub a_part : PartSpelling → List Lexeme → List Lexeme
a_part p rest =
    fixed (Section keywords.Part) ∷ name p.name ∷ specification p.spec (fixed (Section keywords.Begin) ∷ block p.body (fixed (Section keywords.End) ∷ rest))

-- the tokens of parts, and then the rest
abbrev pub parts : PartsSpelling → List Lexeme → List Lexeme
parts (one_part p) rest = a_part p rest
parts (and_part ps p) rest = parts ps (a_part p rest)

-- the tokens of a program, and then the rest
abbrev pub program : ProgramSpelling → List Lexeme → List Lexeme
program p rest = words p.words (specification p.spec (parts p.parts rest))

-- the ways to write the premises of a line, where it has some
pub data PremisesSpelling : Type 0 where
  one_premise : Leaf → PremisesSpelling
  and_premise : PremisesSpelling → Leaf → PremisesSpelling

-- the ways to write a line: its `line`, its own number, its rule with that word, the number of its statement, its premises and
-- its specification
pub record LineSpelling : Type 0 where
  pub begin : Leaf
  pub number : Leaf
  pub rule : Rule
  pub rule_word : Leaf
  pub statement : Leaf
  pub premises : Option PremisesSpelling
  pub spec : SpecSpelling

-- the ways to write a derivation
pub data DerivationSpelling : Type 0 where
  no_line : DerivationSpelling
  and_line : DerivationSpelling → LineSpelling → DerivationSpelling

-- the word of a rule
abbrev pub rule_terminal : Rule → Terminal
rule_terminal rules.Basic = Section keywords.Basic
rule_terminal rules.Atomic = Section keywords.Atomic
rule_terminal rules.Seq = Section keywords.Seq
rule_terminal rules.If = If
rule_terminal rules.Loop = Section keywords.Loop
rule_terminal rules.Conseq = Section keywords.Conseq

-- the tokens of one or more premises, and then the rest
abbrev pub some_premises : PremisesSpelling → List Lexeme → List Lexeme
some_premises (one_premise n) rest = fixed (Section keywords.From) ∷ number n ∷ rest
some_premises (and_premise ps n) rest = some_premises ps (number n ∷ rest)

-- the tokens of the premises of a line, if it has any, and then the rest
abbrev pub premises : Option PremisesSpelling → List Lexeme → List Lexeme
premises None rest = rest
premises (Some ps) rest = some_premises ps rest

-- the tokens of a line of a derivation, and then the rest
abbrev pub a_derived_line : LineSpelling → List Lexeme → List Lexeme
a_derived_line l rest =
    opening a_line l.begin ∷ number l.number ∷ lexeme_as (Fixed (rule_terminal l.rule)) l.rule_word ∷ number l.statement ∷ premises l.premises (specification l.spec rest)

-- the tokens of a derivation, and then the rest
abbrev pub derivation : DerivationSpelling → List Lexeme → List Lexeme
derivation no_line rest = rest
derivation (and_line d l) rest = derivation d (a_derived_line l rest)

-- the ways to write a text of this kind
abbrev pub Spelling : TextKind → Type 0
Spelling texts.Formula = FormulaSpelling
Spelling texts.Show = ShowSpelling
Spelling texts.Start = SettingsSpelling
Spelling texts.Moves = MovesSpelling
Spelling texts.Program = ProgramSpelling
Spelling texts.Derivation = DerivationSpelling

-- its tokens, and then the rest
abbrev pub spelled : (k : TextKind) → Spelling k → List Lexeme → List Lexeme
spelled texts.Formula f rest = formula f rest
spelled texts.Show s rest = show s rest
spelled texts.Start ss rest = settings ss rest
spelled texts.Moves ms rest = moves ms rest
spelled texts.Program p rest = program p rest
spelled texts.Derivation d rest = derivation d rest

-- the tokens spell a text of this kind
abbrev pub IsText : TextKind → List Lexeme → Type 0
IsText k tokens = (s : Spelling k) × (tokens ≡ spelled k s [])

-- a text of this kind may begin with these tokens
abbrev pub BeginsText : TextKind → List Lexeme → Type 0
BeginsText k tokens = (s : Spelling k) × (rest : List Lexeme) × (spelled k s [] ≡ tokens ++ rest)
