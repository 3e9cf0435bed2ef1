-- Which bytes spell a text of a kind, and why others are refused.
use Rattle.std.specs.Prelude.{◌≡◌, ℕ, ◌≤◌, ◌⊎◌, List, [], map, length, Result, Ok, Err}
use Rattle.rg_words.specs.declared.limits.TheConstants.{MOST_TEXT_BYTES, MOST_STATEMENTS}
use Rattle.rg_words.specs.declared.refusal.Refusal.{Refusal}
use Rattle.rg_words.specs.declared.refusal.SourceFile.{SourceFile}
use Rattle.rg_text.specs.declared.token.Token.{Token}
use Rattle.rg_text.specs.Tokenization.{IsTokenized, IsReadRefusal}
use Rattle.rg_syntax.specs.declared.text_kind.TextKind.{TextKind}
use Rattle.rg_syntax.specs.declared.text_kind.TextKind.TheVariants as texts
use Rattle.rg_syntax.specs.Grammar.{Lexeme, Spelling, spelled, lexeme_of}
use Rattle.rg_syntax.specs.Limits.{IsShallow, IsShort}
use Rattle.rg_syntax.specs.ProgramLimits.{count_in_parts}
use Rattle.rg_syntax.specs.Written as written
use Rattle.rg_syntax.specs.Written.{Claim, ShownClaim, SettingTree, WrittenLine}
use Rattle.rg_syntax.specs.Texts.{claim_of, shown_claim, settings_of, moves_of, program_of, derivation_of}
use Rattle.rg_parse.specs.Parse.{IsShapeRefusal, last_line}
use Rattle.rg_parse.specs.ParseProgram.{IsProgramShapeRefusal}
use Rattle.rg_resolve.specs.Faults.{Fault, IsFirst}

-- what texts of this kind say
abbrev pub Said : TextKind → Type 0
Said texts.Formula = Claim
Said texts.Show = ShownClaim
Said texts.Start = List SettingTree
Said texts.Moves = List written.WrittenMove
Said texts.Program = written.WrittenProgram
Said texts.Derivation = List WrittenLine

-- what a way to write a text of this kind says
abbrev pub said : (k : TextKind) → Spelling k → Said k
said texts.Formula f = claim_of f
said texts.Show s = shown_claim s
said texts.Start ss = settings_of ss
said texts.Moves ms = moves_of ms
said texts.Program p = program_of p
said texts.Derivation d = derivation_of d

-- a program has no more statements than the limit; of the other kinds nothing is asked
abbrev pub IsCounted : (k : TextKind) → Spelling k → Type 0
IsCounted texts.Formula f = Unit {0}
IsCounted texts.Show s = Unit {0}
IsCounted texts.Start ss = Unit {0}
IsCounted texts.Moves ms = Unit {0}
IsCounted texts.Program p = count_in_parts (program_of p).parts ≤ MOST_STATEMENTS
IsCounted texts.Derivation d = Unit {0}

-- why tokens are refused as a text of this kind: the first fault of their shape, or the statement too many of a program
abbrev pub IsParseRefusal : TextKind → SourceFile → List ℕ → List Token → Refusal → Type 0
IsParseRefusal texts.Formula file source tokens e = IsShapeRefusal texts.Formula file source tokens e
IsParseRefusal texts.Show file source tokens e = IsShapeRefusal texts.Show file source tokens e
IsParseRefusal texts.Start file source tokens e = IsShapeRefusal texts.Start file source tokens e
IsParseRefusal texts.Moves file source tokens e = IsShapeRefusal texts.Moves file source tokens e
IsParseRefusal texts.Program file source tokens e = IsProgramShapeRefusal file source tokens e
IsParseRefusal texts.Derivation file source tokens e = IsShapeRefusal texts.Derivation file source tokens e

-- the tokens spell a text of this kind within all limits
abbrev pub IsWithin : TextKind → List Lexeme → Type 0
IsWithin k tokens = (s : Spelling k) × IsShallow k s × IsShort k s × IsCounted k s × (tokens ≡ spelled k s [])

-- the tree says what the tokens say, which spell a text of this kind within all limits; or its first fault is refused
abbrev pub IsParsed : {W : Type 0} (k : TextKind) → (W → Said k) → SourceFile → List ℕ → List Token → Result W Refusal → Type 0
IsParsed k says file source tokens (Ok tree) =
    (s : Spelling k) × IsShallow k s × IsShort k s × IsCounted k s × (map (lexeme_of source) tokens ≡ spelled k s []) × (says tree ≡ said k s)
IsParsed k says file source tokens (Err e) = IsParseRefusal k file source tokens e

-- the bytes are within the size of a text, and are cut into these tokens
pub record IsRead (source : List ℕ) (tokens : List Token) : Type 0 where
  pub size : length source ≤ MOST_TEXT_BYTES
  pub tokenized : IsTokenized source tokens

-- the tokens of the bytes are this text, within the limits
pub record IsWritten (k : TextKind) (source : List ℕ) (tokens : List Token) (s : Spelling k) : Type 0 where
  pub read : IsRead source tokens
  pub shallow : IsShallow k s
  pub short : IsShort k s
  pub counted : IsCounted k s
  pub spelled : map (lexeme_of source) tokens ≡ spelled k s []

-- the bytes spell a text, and what it says stands for this
pub record Spells {V : Type 0} (k : TextKind) (Stands : Said k → V → Type 0) (source : List ℕ) (v : V) : Type 0 where
  pub tokens : List Token
  pub spelling : Spelling k
  pub written : IsWritten k source tokens spelling
  pub stands : Stands (said k spelling) v

-- the bytes spell a text that stands for this, and the line of its last token is this, 1 where there is none
pub record SpellsUpTo {V : Type 0} (k : TextKind) (Stands : Said k → V → Type 0) (source : List ℕ) (v : V) (last : ℕ) : Type 0 where
  pub spells : Spells k Stands source v
  pub ends : last ≡ last_line spells.tokens

-- why bytes are refused: they are too many or have a bad byte, or want of memory; or their tokens have no such shape;
-- or the first fault of what they say
abbrev pub IsTextRefusal : (k : TextKind) → (Said k → List Fault) → SourceFile → List ℕ → Refusal → Type 0
IsTextRefusal k faults file source e =
    IsReadRefusal file source e
    ⊎ (((tokens : List Token) × IsRead source tokens × IsParseRefusal k file source tokens e)
    ⊎ ((tokens : List Token) × (s : Spelling k) × IsWritten k source tokens s × IsFirst file (faults (said k s)) e))
