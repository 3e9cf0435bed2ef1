-- The conjunction of formulas, one by one.
use Rattle.std.proofs.Common.{◌≡◌, true, false, refl, sym, ◌∙◌, cond, ap}
use Rattle.rg_words.specs.declared.operators.Connective.TheVariants.{And}
use Rattle.rg_tree.specs.Trees.{Proposition, connected}
use Rattle.rg_outline_meaning.specs.Meanings.{is_true, beside}

pub beside_true : (p q : Proposition) → is_true p ≡ true → beside p q ≡ q
beside_true p q is = ap (λ b. cond b q (connected And p q)) is

pub beside_other : (p q : Proposition) → is_true p ≡ false → beside p q ≡ connected And p q
beside_other p q is = ap (λ b. cond b q (connected And p q)) is
