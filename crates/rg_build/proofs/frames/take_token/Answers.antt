use Rattle.std.proofs.lemmas.Result.{IfOk-weaker}
use Rattle.rg_text.specs.Text.{leaf_of}
use Rattle.rg_build.proofs.frames.take_token.Goals as goal

pub returns-in-Fixed : goal.returns-in-Fixed
returns-in-Fixed c = IfOk-weaker c.take_terminal.result _ _ (λ done e src. rw c.in-Fixed.is (e (leaf_of src c.args.token) src)) c.take_terminal.ensures
