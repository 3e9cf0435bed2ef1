-- What holds of the tree of a whole formula over the words of a layout.
use Rattle.std.proofs.Common.{◌≡◌, Bool, true, false, List}
use Rattle.rg_words.specs.Layout.{Word, IsLayout, widths_of}
use Rattle.rg_tree.specs.Trees.{Proposition}
use Rattle.rg_tree.specs.Typing.{IsTyped}
use Rattle.rg_tree.specs.Primes.{speaks_of_two}
use Rattle.rg_syntax.specs.Written.{Claim}
use Rattle.rg_resolve.specs.Inner.FormulaTrees.{IsClaimTree}
use Rattle.rg_resolve.specs.Typing.{ClaimStandsFor}
use Rattle.rg_resolve.proofs.Stands.{claim_stands}
use Rattle.rg_resolve.proofs.Typed.{claim_typed, claim_plain, layout_is_narrow}

module _ (words : List Word) (one_state : Bool) (f : Claim) (p : Proposition) (layout : IsLayout words) (h : IsClaimTree words one_state f p) where
  pub tree_typed : IsTyped (widths_of words) p
  tree_typed = rw h.tree (claim_typed words one_state (layout_is_narrow words layout) f h.faultless)

  pub tree_stands : ClaimStandsFor words one_state f p
  tree_stands = rw h.tree (claim_stands words one_state f h.faultless)

pub tree_plain : (words : List Word) (f : Claim) (p : Proposition) → IsClaimTree words true f p → speaks_of_two p ≡ false
tree_plain words f p h = rw h.tree (claim_plain words f h.faultless)
