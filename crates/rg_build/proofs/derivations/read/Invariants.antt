use Rattle.std.proofs.Common.{◌≡◌, ℕ, List, map, take}
use Rattle.rg_syntax.specs.Grammar.{lexeme_of}
use Rattle.rg_build.specs.Inner.BuildingLines.{drafted, nothing_read, line_steps}
use Rattle.rg_build.proofs.derivations.read.Given as goal

abbrev pub invariant-loop-token : goal.invariant-loop-token
invariant-loop-token l =
    (src : List ℕ) → line_steps nothing_read (map (lexeme_of src) (take l.token-index l.tokens)) ≡ drafted src l.draft
