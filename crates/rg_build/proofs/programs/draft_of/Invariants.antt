use Rattle.std.proofs.Common.{◌≡◌, ℕ, List, map, take}
use Rattle.rg_syntax.specs.Grammar.{lexeme_of}
use Rattle.rg_build.specs.Inner.Drafts.{drafted, no_token, program_steps}
use Rattle.rg_build.proofs.programs.draft_of.Given as goal

abbrev pub invariant-loop-token : goal.invariant-loop-token
invariant-loop-token l =
    (src : List ℕ) → program_steps no_token (map (lexeme_of src) (take l.token-index l.tokens)) ≡ drafted src l.draft
