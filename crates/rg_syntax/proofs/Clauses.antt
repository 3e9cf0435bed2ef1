-- The formulas of a specification, and what holds of both sides of an `and`.
use Rattle.std.proofs.Common.{◌≡◌, Bool, true, false, ◌&&◌, List, ◌∷◌, refl}
use Rattle.rg_text.specs.declared.kind.Terminal.TheVariants.{Section}
use Rattle.rg_text.specs.declared.kind.Keyword.TheVariants.{Rely, Guar, Post}
use Rattle.rg_syntax.specs.Grammar.{Lexeme, SpecSpelling, fixed, formula}

-- a specification, after its `pre`
abbrev pub clauses_of : SpecSpelling → List Lexeme → List Lexeme
clauses_of s r = formula s.pre (fixed (Section Rely) ∷ formula s.rely (fixed (Section Guar) ∷ formula s.guar (fixed (Section Post) ∷ formula s.post r)))

pub and_both : (a b : Bool) → (a && b) ≡ true → (a ≡ true) × (b ≡ true)
and_both true b h = (refl, h)
and_both false b h = cc
