use Rattle.std.proofs.Common.{◌≡◌, ℕ, List, [], ◌∷◌, map, take, reverse}
use Rattle.rg_syntax.specs.Grammar.{lexeme_of}
use Rattle.rg_build.specs.Frames.{open_of}
use Rattle.rg_build.specs.Inner.Building.{steps}
use Rattle.rg_build.proofs.formulas.read.Given as goal

abbrev pub invariant-loop-token : goal.invariant-loop-token
invariant-loop-token l =
    (src : List ℕ) → steps (open_of src l.fn.first ∷ []) (map (lexeme_of src) (take l.token-index l.tokens)) ≡ map (open_of src) (reverse l.frames.items)
