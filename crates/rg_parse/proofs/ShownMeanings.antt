-- What a text to show says stands for one thing.
use Rattle.std.proofs.Common.{◌≡◌, false, List, sym, subst, ◌∙◌}
use Rattle.rg_words.specs.Layout.{Word}
use Rattle.rg_tree.specs.Trees.{Proposition}
use Rattle.rg_syntax.specs.Written.{ShownClaim}
use Rattle.rg_resolve.specs.Typing.{ClaimStandsFor}
use Rattle.rg_resolve.proofs.Stands.{one_tree}
use Rattle.rg_parse.specs.Shown.{ShownStandsFor}

pub one_shown_claim : (c : ShownClaim) (u v : List Word × Proposition) → ShownStandsFor c u → ShownStandsFor c v → u ≡ v
one_shown_claim c u v a b =
    let words = a.words_are ∙ sym b.words_are in
    let claim = one_tree v.0 false c.formula u.1 v.1 (subst (λ l. ClaimStandsFor l false c.formula u.1) words a.stands) b.stands in
    λ i. (words i, claim i)
