use Rattle.std.proofs.Common.{◌≡◌, sym, ◌∙◌, subst, Some}
use Rattle.rg_words.specs.Layout.{index_of}
use Rattle.rg_outline_meaning.specs.View.{words}
use Rattle.rg_outline_meaning.proofs.names.Reader.member.Goals as goal

pub returns-in-Some : goal.returns-in-Some
returns-in-Some c =
    let read : c.in-Ok.text.now ≡ c.in_ok-text.text.items = c.in-Ok.ensures.cases.0 ∙ c.deref.ensures.value in
    subst (λ t. index_of (words c.args.self.now) t ≡ Some c.in-Some.word) (read ∙ c.in_ok-text.ensures) (sym c.in-Some.ensures.exact)
