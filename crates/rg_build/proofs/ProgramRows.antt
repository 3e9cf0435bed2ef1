-- Statements with blocks, made of lists of statements.
use Rattle.std.proofs.Common.{◌≡◌, ℕ, List, map, Vec, Global}
use Rattle.rg_text.specs.Text.{leaf_of}
use Rattle.rg_text.specs.declared.token.Token.{Token}
use Rattle.rg_syntax.specs.declared.written.FormulaText.{FormulaText}
use Rattle.rg_syntax.specs.declared.written.StatementText.{StatementText, If, While}
use Rattle.rg_syntax.specs.Written.{branch, loop, listed, claim, statement}
use Rattle.rg_syntax.proofs.Rows.{statement-If, statement-While}

pub a_branch : (src : List ℕ) (t : Token) (f : FormulaText) (first second : Vec StatementText Global) → statement src (If t f first second) ≡ branch (leaf_of src t) (claim src f) (listed (map (statement src) first.items)) (listed (map (statement src) second.items))
a_branch src t f first second = statement-If src t f first second

pub a_while : (src : List ℕ) (t : Token) (f : FormulaText) (items : Vec StatementText Global) → statement src (While t f items) ≡ loop (leaf_of src t) (claim src f) (listed (map (statement src) items.items))
a_while src t f items = statement-While src t f items
