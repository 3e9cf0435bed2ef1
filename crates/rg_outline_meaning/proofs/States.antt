-- What stands for a use.
use Rattle.std.proofs.Common.{◌≡◌, Bool, true, false, sym, subst}
use Rattle.rg_outline_meaning.specs.Meanings.{Meaning, whole, value, claim, is_primed, next_meaning, IsUsed, plain, primed}
use Rattle.rg_outline_meaning.specs.Expressions.{IsWhole}
use Rattle.rg_outline_meaning.specs.Inner.{MayBePrimed}

-- primed
pub in_next_state : (m r : Meaning) → is_primed m ≡ false → r ≡ next_meaning m → IsUsed true m r
in_next_state m r is same = subst (λ x. IsUsed true m x) (sym same) (primed m is)

-- as it is
pub in_this_state : (b : Bool) (m : Meaning) → b ≡ false → IsUsed b m m
in_this_state b m is = subst (λ x. IsUsed x m m) (sym is) (plain m)

-- without a prime
pub never_whole : (b : Bool) (m : Meaning) → b ≡ false → MayBePrimed b m
never_whole b m is = λ yes _. cc (is, yes)
