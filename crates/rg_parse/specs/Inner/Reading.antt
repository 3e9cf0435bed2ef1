-- What the readers of all kinds of text have in common.
use Rattle.std.specs.Prelude.{◌≡◌, ℕ, List}
use Rattle.std.specs.List.{All}
use Rattle.rg_words.specs.Layout.{Word}
use Rattle.rg_text.specs.declared.token.Token.{Token}
use Rattle.rg_text.specs.Tokenization.{IsTokenOf}
use Rattle.rg_tree.specs.Trees.{Proposition}
use Rattle.rg_tree.specs.Moves.{MoveTree}
use Rattle.rg_tree.specs.Lines.{LineTree}
use Rattle.rg_tree.specs.Statements.{ProgramTree}
use Rattle.rg_syntax.specs.declared.text_kind.TextKind.{TextKind}
use Rattle.rg_syntax.specs.declared.text_kind.TextKind.TheVariants as texts
use Rattle.rg_syntax.specs.Grammar.{Spelling}
use Rattle.rg_parse.specs.Spelled.{Said, said, IsWritten}

-- what texts of this kind may stand for
abbrev pub Meaning : TextKind → Type 0
Meaning texts.Formula = Proposition
Meaning texts.Show = List Word × Proposition
Meaning texts.Start = List ℕ
Meaning texts.Moves = List MoveTree
Meaning texts.Program = ProgramTree
Meaning texts.Derivation = List LineTree

-- this is what the tokens of the bytes say
pub record IsSaid (k : TextKind) (source : List ℕ) (text : Said k) : Type 0 where
  pub tokens : List Token
  pub spelling : Spelling k
  pub written : IsWritten k source tokens spelling
  pub each : All (IsTokenOf source) tokens
  pub says : text ≡ said k spelling
