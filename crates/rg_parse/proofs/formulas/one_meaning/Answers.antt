use Rattle.std.proofs.Common.{false, ap}
use Rattle.rg_syntax.specs.declared.text_kind.TextKind.TheVariants as texts
use Rattle.rg_resolve.specs.Typing.{ClaimStandsFor}
use Rattle.rg_resolve.proofs.Stands.{one_tree}
use Rattle.rg_parse.specs.Shown.{ShownStandsFor}
use Rattle.rg_parse.proofs.Spelled.{one_spelled}
use Rattle.rg_parse.proofs.ShownMeanings.{one_shown_claim}
use Rattle.rg_parse.proofs.formulas.one_meaning.Goals as goal

pub returns-clause-show : goal.returns-clause-show
returns-clause-show c = λ source words words' f f' a b.
    let same = one_spelled texts.Show ShownStandsFor one_shown_claim source (words, f) (words', f') a b in
    (ap (λ r. r.0) same, ap (λ r. r.1) same)

pub returns-clause-formula : goal.returns-clause-formula
returns-clause-formula c = λ words source f f' a b. one_spelled texts.Formula (ClaimStandsFor words false) (one_tree words false) source f f' a b
