-- What a text says before its names are known, without where it lies in memory.
use Rattle.std.specs.Prelude.{ℕ, Bool, List, [], ◌∷◌, map}
use Rattle.rg_words.specs.declared.operators.Comparison.{Comparison}
use Rattle.rg_words.specs.declared.operators.Operator.{Operator}
use Rattle.rg_words.specs.declared.operators.Shift.{Shift}
use Rattle.rg_text.specs.declared.kind.Junction.{Junction}
use Rattle.rg_text.specs.declared.kind.Conditional.{Conditional}
use Rattle.rg_text.specs.Text.{Leaf, leaf_of}
use Rattle.rg_tree.specs.declared.line.Rule.{Rule}
use Rattle.rg_syntax.specs.declared.written.ExpressionText.{ExpressionText}
use Rattle.rg_syntax.specs.declared.written.ExpressionText.TheVariants.{Number, Word, NextWord, Inverse', Binary', Shifted', If'}
use Rattle.rg_syntax.specs.declared.written.FormulaText.{FormulaText}
use Rattle.rg_syntax.specs.declared.written.FormulaText.TheVariants.{Truth, Not', Joined', Implied', Compared}
use Rattle.rg_syntax.specs.declared.written.Declaration.{Declaration}
use Rattle.rg_syntax.specs.declared.written.ShowText.{ShowText}
use Rattle.rg_syntax.specs.declared.written.Setting.{Setting}
use Rattle.rg_syntax.specs.declared.written.MoveText.{MoveText}
use Rattle.rg_syntax.specs.declared.written.AssignmentText.{AssignmentText}
use Rattle.rg_syntax.specs.declared.written.StatementText.{StatementText, Row_of-StatementText, end_of-StatementText, more_of-StatementText}
use Rattle.rg_syntax.specs.declared.written.StatementText.TheVariants as variants
use Rattle.rg_syntax.specs.declared.written.SpecText.{SpecText}
use Rattle.rg_syntax.specs.declared.written.PartText.{PartText}
use Rattle.rg_syntax.specs.declared.written.ProgramText.{ProgramText}
use Rattle.rg_syntax.specs.declared.written.LineText.{LineText}

-- an expression and a formula as written
mutual
  pub data Term : Type 0 where
    number : Leaf → Term
    word : Leaf → Term
    next_word : Leaf → Term
    inverse : Term → Term
    binary : Operator → Term → Term → Term
    shifted : Shift → Term → Leaf → Term
    choice : Claim → Term → Term → Term

  pub data Claim : Type 0 where
    truth : Bool → Claim
    negation : Claim → Claim
    joined : Junction → Claim → Claim → Claim
    implied : Conditional → Claim → Claim → Claim
    compared : Comparison → Term → Term → Claim

-- a declared word as written
pub record DeclaredWord : Type 0 where
  pub fixed : Bool
  pub name : Leaf
  pub width : Leaf

-- an expression and a formula of the code, with the texts and the lines of their tokens in this source
abbrev mutual
  pub term : List ℕ → ExpressionText → Term
  term src (Number n) = number (leaf_of src n)
  term src (Word n) = word (leaf_of src n)
  term src (NextWord n) = next_word (leaf_of src n)
  term src (Inverse' p a) = inverse (term src a)
  term src (Binary' o p a q b) = binary o (term src a) (term src b)
  term src (Shifted' s p a n) = shifted s (term src a) (leaf_of src n)
  term src (If' p f q a r b) = choice (claim src f) (term src a) (term src b)

  pub claim : List ℕ → FormulaText → Claim
  claim src (Truth b) = truth b
  claim src (Not' p f) = negation (claim src f)
  claim src (Joined' j p f q g) = joined j (claim src f) (claim src g)
  claim src (Implied' d p f q g) = implied d (claim src f) (claim src g)
  claim src (Compared c a b) = compared c (term src a) (term src b)

-- a declaration of the code, with the texts and the lines of its tokens
abbrev pub declared_word : List ℕ → Declaration → DeclaredWord
declared_word src d = record { fixed = d.fixed; name = leaf_of src d.name; width = leaf_of src d.width }

-- declared words and a formula as written
pub record ShownClaim : Type 0 where
  pub words : List DeclaredWord
  pub formula : Claim

-- a text to show of the code, with the texts and the lines of its tokens
abbrev pub show_text : List ℕ → ShowText → ShownClaim
show_text src s = record { words = map (declared_word src) s.words.items; formula = claim src s.formula }

-- a word and the number that it is set to, as written
pub record SettingTree : Type 0 where
  pub word : Leaf
  pub value : Leaf

-- a setting of the code, with the texts and the lines of its tokens
abbrev pub setting : List ℕ → Setting → SettingTree
setting src s = record { word = leaf_of src s.word; value = leaf_of src s.value }

-- a move as written
pub record WrittenMove : Type 0 where
  pub number : Leaf
  pub settings : List SettingTree

-- a move of the code, with the texts and the lines of its tokens
abbrev pub move_text : List ℕ → MoveText → WrittenMove
move_text src m = record { number = leaf_of src m.number; settings = map (setting src) m.settings.items }

-- an assignment as written
pub record AssignedTree : Type 0 where
  pub target : Leaf
  pub value : Term

-- an assignment of the code, with the texts and the lines of its tokens
abbrev pub assigned : List ℕ → AssignmentText → AssignedTree
assigned src a = record { target = leaf_of src a.target; value = term src a.value }

-- a statement as written, with its first token, and a list of statements
mutual
  pub data StatementTree : Type 0 where
    skip : Leaf → StatementTree
    assign : AssignedTree → StatementTree
    await : Leaf → Claim → List AssignedTree → StatementTree
    branch : Leaf → Claim → StatementTrees → StatementTrees → StatementTree
    loop : Leaf → Claim → StatementTrees → StatementTree

  pub data StatementTrees : Type 0 where
    no_more : StatementTrees
    also : StatementTree → StatementTrees → StatementTrees

-- a statement of the code and the statements of a block, with the texts and the lines of their tokens
abbrev mutual
  pub statement : List ℕ → StatementText → StatementTree
  statement src (variants.Skip t) = skip (leaf_of src t)
  statement src (variants.Assign a) = assign (assigned src a)
  statement src (variants.Await t f act) = await (leaf_of src t) (claim src f) (map (assigned src) act.items)
  statement src (variants.If' t f x row y other) = branch (leaf_of src t) (claim src f) (statements src row) (statements src other)
  statement src (variants.While' t f x row) = loop (leaf_of src t) (claim src f) (statements src row)

  pub statements : List ℕ → {m : _} → Row_of-StatementText m → StatementTrees
  statements src end_of-StatementText = no_more
  statements src (more_of-StatementText s rest) = also (statement src s) (statements src rest)

-- the statements of a list
abbrev pub listed : List StatementTree → StatementTrees
listed [] = no_more
listed (s ∷ ss) = also s (listed ss)

-- the four formulas of a specification as written
pub record SpecTree : Type 0 where
  pub pre : Claim
  pub rely : Claim
  pub guar : Claim
  pub post : Claim

-- a specification of the code, with the texts and the lines of its tokens
abbrev pub spec_text : List ℕ → SpecText → SpecTree
spec_text src s = record { pre = claim src s.pre; rely = claim src s.rely; guar = claim src s.guar; post = claim src s.post }

-- a part as written
pub record WrittenPart : Type 0 where
  pub name : Leaf
  pub spec : SpecTree
  pub body : StatementTrees

-- a part of the code, with the texts and the lines of its tokens
abbrev pub part_text : List ℕ → PartText → WrittenPart
part_text src p = record { name = leaf_of src p.name; spec = spec_text src p.spec; body = listed (map (statement src) p.body.items) }

-- a program as written
pub record WrittenProgram : Type 0 where
  pub words : List DeclaredWord
  pub spec : SpecTree
  pub parts : List WrittenPart

-- a program of the code, with the texts and the lines of its tokens
abbrev pub program_text : List ℕ → ProgramText → WrittenProgram
program_text src p = record { words = map (declared_word src) p.words.items; spec = spec_text src p.spec; parts = map (part_text src) p.parts.items }

-- a line of a derivation as written: the word it begins with, its number, its rule, its statement's number, its premises,
-- and its four formulas
pub record WrittenLine : Type 0 where
  pub begin : Leaf
  pub number : Leaf
  pub rule : Rule
  pub statement : Leaf
  pub premises : List Leaf
  pub spec : SpecTree

-- a line of a derivation of the code, with the texts and the lines of its tokens
abbrev pub line_text : List ℕ → LineText → WrittenLine
line_text src l = record {
  begin = leaf_of src l.begin;
  number = leaf_of src l.number;
  rule = l.rule;
  statement = leaf_of src l.statement;
  premises = map (leaf_of src) l.premises.items;
  spec = spec_text src l.spec;
}
