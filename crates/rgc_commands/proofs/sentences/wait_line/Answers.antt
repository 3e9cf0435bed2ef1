use Rattle.std.proofs.Common.{◌≡◌, ◌∙◌, ap}
use Rattle.std.specs.Prelude.{string_bytes}
use Rattle.rgc_commands.proofs.sentences.wait_line.Goals as goal

pub returns : goal.returns
returns c =
    let bytes : c.into_bytes.result.items ≡ string_bytes c.in_ok-line.line = ap (λ v. v.items) c.into_bytes.ensures.value in
    rw (← c.format.ensures.text) (bytes ∙ c.in_ok-line.ensures.ok)
