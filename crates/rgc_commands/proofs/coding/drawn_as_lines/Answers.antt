use Rattle.std.proofs.Common.{◌∙◌, sym, inr}
use Rattle.rgc_commands.proofs.coding.drawn_as_lines.Goals as goal

pub returns-in-Some : goal.returns-in-Some
returns-in-Some c = λ t d p start moves limit files. rw c.in-Some.is (inr (sym c.is_plain.ensures ∙ c.if-not-is_plain.true))
