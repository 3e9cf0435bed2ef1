-- The pieces of a derivation.
use Rattle.std.specs.Prelude.{◌≡◌, ℕ, ◌≤◌, List, [], ◌∷◌, length}
use Rattle.std.specs.List.{concat}
use Rattle.rg_words.specs.declared.limits.TheConstants.{MOST_TEXT_BYTES}

-- one after another these pieces are the derivation, and it is one piece where it is no longer than a file may be
pub record ArePiecesOf (derivation : List ℕ) (pieces : List (List ℕ)) : Type 0 where
  pub joined : concat pieces ≡ derivation
  pub alone : length derivation ≤ MOST_TEXT_BYTES → pieces ≡ derivation ∷ []
