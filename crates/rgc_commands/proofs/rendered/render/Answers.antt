use Rattle.std.proofs.Common.{◌≡◌, ◌∙◌, ap}
use Rattle.std.specs.Prelude.{string_bytes}
use Rattle.rgc_commands.proofs.rendered.render.Goals as goal

pub returns-in_ok-explanation-in-Explained : goal.returns-in_ok-explanation-in-Explained
returns-in_ok-explanation-in-Explained c =
    let same : c.into_bytes-in-Explained.result.items ≡ string_bytes c.in_ok-explanation-in-Explained.field-0 = ap (λ v. v.items) c.into_bytes-in-Explained.ensures.value in
    same ∙ rw c.in-Explained.is c.in_ok-explanation-in-Explained.ensures
