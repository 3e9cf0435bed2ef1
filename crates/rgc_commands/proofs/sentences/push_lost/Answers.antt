use Rattle.std.proofs.Common.{◌≡◌, ◌∙◌, List, map, length, ap, sym, subst}
use Rattle.rg_tree.specs.Trees.{Proposition}
use Rattle.rg_tree.specs.View.{formula}
use Rattle.rg_tree.specs.declared.tree.Formula.{Formula}
use Rattle.rg_tree.specs.ConditionTrees.{AllFit}
use Rattle.rg_erase.specs.Erased.{lost}
use Rattle.rgc_answers.proofs.Fitting.{all_fit_at}
use Rattle.rgc_commands.proofs.Lost.{lost_fit}
use Rattle.rgc_commands.proofs.sentences.push_lost.Goals as goal

pub print-requires : goal.print-requires
print-requires c =
    let n = length c.args.layout.now in
    let items = c.deref-conjunct-items.result.now in
    let are : map formula items ≡ lost c.args.erased.now (formula c.args.f.now) =
    ap (λ (fs : List Formula). map formula fs) c.deref-conjunct-items.ensures.value ∙ c.in_ok-conjuncts.ensures in
    let fit : AllFit (map formula items) n = subst (λ (fs : List Proposition). AllFit fs n) (sym are) (lost_fit n c.args.erased.now (formula c.args.f.now) c.requires) in
    all_fit_at items n c.loop-conjunct.conjunct-index c.conjunct-item.result fit c.loop-conjunct-test.true c.conjunct-item.is
