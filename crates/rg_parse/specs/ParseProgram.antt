-- What parsing a program answers.
use Rattle.std.specs.Prelude.{◌≡◌, ◌≢◌, ℕ, ◌+◌, ◌≤◌, List, map, length, take, slice_get, Result, Ok, Err, Option, Some, None, ◌⊎◌}
use Rattle.rg_words.specs.declared.limits.TheConstants.{MOST_STATEMENTS}
use Rattle.rg_words.specs.Refusals.{no_memory, refused_at}
use Rattle.rg_words.specs.declared.refusal.Refusal.{Refusal}
use Rattle.rg_words.specs.declared.refusal.RefusalNumber.TheVariants as numbers
use Rattle.rg_words.specs.declared.refusal.SourceFile.{SourceFile}
use Rattle.rg_text.specs.declared.token.Token.{Token}
use Rattle.rg_text.specs.declared.kind.Terminal.TheVariants.{Semicolon}
use Rattle.rg_syntax.specs.Grammar.{Lexeme, fixed, name, lexeme_of}
use Rattle.rg_parse.specs.Parse.{refusal_of}
use Rattle.rg_shape.specs.Shape.{ShapeIs}
use Rattle.rg_syntax.specs.declared.text_kind.TextKind.TheVariants as texts
use Rattle.rg_shape.specs.declared.shape.ShapeFault.{ShapeFault}
use Rattle.rg_shape.specs.declared.shape.ShapeFault.TheVariants.{Memory, Unexpected, TooDeep, TooMany, Unfinished}
use Rattle.rg_syntax.specs.Begun.{AreBegun}

-- after the `;` before an assignment too many of an await stands its name; or another token, which no program has there, or none
abbrev pub after_semicolon : ℕ → Option Lexeme → ShapeFault
after_semicolon i None = Unfinished
after_semicolon i (Some (name x)) = TooMany i
after_semicolon i (Some _) = Unexpected i

-- the fault that is reported of a token too many at this place: where it is a `;`, that of the token after it
abbrev pub reported_at : ℕ → Option Lexeme → Option Lexeme → ShapeFault
reported_at i (Some (fixed Semicolon)) next = after_semicolon (i + 1) next
reported_at i _ next = TooMany i

-- the fault of a program that is reported, where its shape has this one: of an assignment too many its name is reported
abbrev pub reported_fault : List Lexeme → ShapeFault → ShapeFault
reported_fault tokens (TooMany i) = reported_at i (slice_get tokens i) (slice_get tokens (i + 1))
reported_fault tokens fault = fault

-- the tokens before a fault, and before what the shape pass answers
abbrev pub met_before : {A : Type 0} → List A → ShapeFault → List A
met_before tokens (Unexpected i) = take i tokens
met_before tokens (TooDeep i) = take i tokens
met_before tokens (TooMany i) = take i tokens
met_before tokens Unfinished = tokens
met_before tokens Memory = tokens

-- the tokens that are met before the fault that is reported, or all where there is none
abbrev pub met_tokens : List Lexeme → Result (Unit {0}) ShapeFault → List Lexeme
met_tokens tokens (Ok _) = tokens
met_tokens tokens (Err fault) = met_before tokens (reported_fault tokens fault)

-- the first other fault of a program's shape is reported, and the tokens before it begin no statement too many
pub record IsOtherFault (file : SourceFile) (source : List ℕ) (tokens : List Token) (e : Refusal) : Type 0 where
  pub fault : ShapeFault
  pub known : fault ≢ Memory
  pub shape : ShapeIs texts.Program (map (lexeme_of source) tokens) (Err fault)
  pub lines : List ℕ
  pub begun : AreBegun (met_tokens (map (lexeme_of source) tokens) (Err fault)) lines
  pub within : length lines ≤ MOST_STATEMENTS
  pub is : e ≡ refusal_of file tokens (reported_fault (map (lexeme_of source) tokens) fault)

-- the tokens before the first other fault, or all where there is none, begin a statement too many, and its first token is reported
pub record IsStatementTooMany (file : SourceFile) (source : List ℕ) (tokens : List Token) (e : Refusal) : Type 0 where
  pub answer : Result (Unit {0}) ShapeFault
  pub known : answer ≢ Err Memory
  pub shape : ShapeIs texts.Program (map (lexeme_of source) tokens) answer
  pub lines : List ℕ
  pub begun : AreBegun (met_tokens (map (lexeme_of source) tokens) answer) lines
  pub line : ℕ
  pub beyond : slice_get lines MOST_STATEMENTS ≡ Some line
  pub is : e ≡ refused_at numbers.Limit file line

-- want of memory, or the first fault of a program's shape
abbrev pub IsProgramShapeRefusal : SourceFile → List ℕ → List Token → Refusal → Type 0
IsProgramShapeRefusal file source tokens e =
    (e ≡ no_memory) ⊎ (IsOtherFault file source tokens e ⊎ IsStatementTooMany file source tokens e)
