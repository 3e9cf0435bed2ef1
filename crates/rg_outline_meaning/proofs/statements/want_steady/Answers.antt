use Rattle.std.proofs.Common.{sym, subst, map}
use Rattle.rg_tree.specs.View.{expression}
use Rattle.rg_outline_meaning.specs.Statements.{IsSteady, MentionsNone}
use Rattle.rg_outline_meaning.specs.View.{candidate, selected}
use Rattle.rg_outline_meaning.proofs.StatementRules.{steady}
use Rattle.rg_outline_meaning.proofs.statements.want_steady.Goals as goal

pub returns : goal.returns
returns c =
    subst (λ s. IsSteady (selected s)) (sym c.in-Among.is)
    (steady (expression c.in-Among.index) (candidate c.in-Among.first) (map candidate c.in-Among.rest.items) (sym c.if-mentions.ensures)
    (subst (λ ms. MentionsNone (expression c.in-Among.index) (map candidate ms)) c.deref.ensures.value c.in_ok-want_unmentioned.ensures))
