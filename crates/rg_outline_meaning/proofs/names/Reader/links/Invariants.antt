use Rattle.std.proofs.Common.{ℕ, map}
use Rattle.rg_outline_syntax.specs.declared.written.ExpressionKind.TheVariants.{Join}
use Rattle.rg_outline_meaning.specs.Names.{HasKind}
use Rattle.rg_outline_meaning.specs.Inner.{Descends}
use Rattle.rg_outline_meaning.specs.View.{outline}
use Rattle.rg_outline_meaning.proofs.names.Reader.links.Given as goal

-- the links so far lead to the operand so far
abbrev pub invariant-loop-place : goal.invariant-loop-place
invariant-loop-place l = (index : ℕ) → HasKind (outline l.self) index (Join l.fn.last.junction l.fn.before l.fn.last.operand) → Descends (outline l.self) index (map (λ k. (k.junction, k.operand)) l.links.items) l.first
