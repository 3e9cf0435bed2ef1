-- What the shape pass answers.
use Rattle.std.specs.Prelude.{◌≡◌, ◌≢◌, ◌+◌, ◌<◌, List, length, take, Result, Ok, Err}
use Rattle.rg_syntax.specs.Grammar.{Lexeme, IsText, BeginsText}
use Rattle.rg_syntax.specs.Limits.{IsTextWithin, BeginsWithin, BeginsShallow}
use Rattle.rg_syntax.specs.declared.text_kind.TextKind.{TextKind}
use Rattle.rg_shape.specs.declared.shape.ShapeFault.{ShapeFault}
use Rattle.rg_shape.specs.declared.shape.ShapeFault.TheVariants.{Memory, Unexpected, TooDeep, TooMany, Unfinished}

-- Ok for a text of this kind within the limits. Else the first token such that the tokens up to it begin no text,
-- or none within the limits of depth, or none within the limits of lists; or all of them only begin one
abbrev pub ShapeIs : TextKind → List Lexeme → Result (Unit {0}) ShapeFault → Type 0
ShapeIs k tokens (Ok _) = IsTextWithin k tokens
ShapeIs k tokens (Err Memory) = Unit {0}
ShapeIs k tokens (Err (Unexpected i)) = (i < length tokens) × BeginsWithin k (take i tokens) × ¬ BeginsText k (take (i + 1) tokens)
ShapeIs k tokens (Err (TooDeep i)) =
    (i < length tokens) × BeginsWithin k (take i tokens) × BeginsText k (take (i + 1) tokens) × ¬ BeginsShallow k (take (i + 1) tokens)
ShapeIs k tokens (Err (TooMany i)) =
    (i < length tokens) × BeginsWithin k (take i tokens) × BeginsShallow k (take (i + 1) tokens) × ¬ BeginsWithin k (take (i + 1) tokens)
ShapeIs k tokens (Err Unfinished) = BeginsWithin k tokens × ¬ IsText k tokens

-- one list of tokens has one first fault, but for want of memory
abbrev pub OneFault : Type 0
OneFault =
    (k : TextKind) (tokens : List Lexeme) (a b : ShapeFault) → a ≢ Memory → b ≢ Memory
    → ShapeIs k tokens (Err a) → ShapeIs k tokens (Err b) → a ≡ b

-- a text within the limits has none
abbrev pub NoFaultWithin : Type 0
NoFaultWithin =
    (k : TextKind) (tokens : List Lexeme) (a : ShapeFault) → IsTextWithin k tokens → ShapeIs k tokens (Err a) → a ≡ Memory
