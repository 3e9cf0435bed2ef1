use Rattle.std.proofs.Common.{◌≡◌, Bool, List, refl, ◌∙◌}
use Rattle.std.proofs.lemmas.Result.{IfOk-weaker}
use Rattle.rg_text.specs.Text.{Leaf}
use Rattle.rg_text.specs.declared.kind.Kind.TheVariants.{Fixed}
use Rattle.rg_text.specs.declared.kind.Terminal.{Terminal}
use Rattle.rg_text.specs.declared.kind.Terminal.TheVariants.{Open, Close, Truth, Not, Inv, If, Section}
use Rattle.rg_text.specs.declared.kind.Keyword.TheVariants.{Skip}
use Rattle.rg_syntax.specs.Grammar.{lexeme_as}
use Rattle.rg_build.specs.Frames as frames
use Rattle.rg_build.specs.Steps.{step, between}
use Rattle.rg_build.proofs.frames.take_terminal.Goals as goal

-- any other keyword or symbol stands between two parts
others : (t : Terminal) (leaf : Leaf) (os : List frames.Open) → (t ≡ Open → ⊥) → (t ≡ Close → ⊥) → ((b : Bool) → t ≡ Truth b → ⊥) → (t ≡ Not → ⊥) → (t ≡ Inv → ⊥) → (t ≡ If → ⊥) → between t os ≡ step os (lexeme_as (Fixed t) leaf)
others Open leaf os a b c d e f = absurd (a refl)
others Close leaf os a b c d e f = absurd (b refl)
others (Truth v) leaf os a b c d e f = absurd (c v refl)
others Not leaf os a b c d e f = absurd (d refl)
others Inv leaf os a b c d e f = absurd (e refl)
others If leaf os a b c d e f = absurd (f refl)
others (Section Skip) leaf os a b c d e f = refl
others _ leaf os a b c d e f = refl

pub returns-in-Close : goal.returns-in-Close
returns-in-Close c = IfOk-weaker c.take_close.result _ _ (λ done e leaf src. rw c.in-Close.is (e src)) c.take_close.ensures

pub returns-in-If : goal.returns-in-If
returns-in-If c = IfOk-weaker c.take_if.result _ _ (λ done e leaf src. rw c.in-If.is (e src)) c.take_if.ensures

pub returns-in-Truth : goal.returns-in-Truth
returns-in-Truth c = IfOk-weaker c.take_formula.result _ _ (λ done e leaf src. rw c.in-Truth.is (e src)) c.take_formula.ensures

pub returns-in_default : goal.returns-in_default
returns-in_default c =
    let d = c.in_default in
    IfOk-weaker c.take_between.result _ _ (λ done e leaf src. e src ∙ others c.args.terminal leaf _ d.not-Open d.not-Close d.not-Truth d.not-Not d.not-Inv d.not-If) c.take_between.ensures
