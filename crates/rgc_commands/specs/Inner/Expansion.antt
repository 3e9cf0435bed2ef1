-- The command that writes what an outline stands for.
use Rattle.std.specs.Prelude.{ℕ, List, Option}
use Rattle.std.specs.Borrow.{Bor}
use Rattle.rgc_line.specs.declared.command.Command.{Command}
use Rattle.rgc_line.specs.declared.command.Command.TheVariants.{Outline}
use Rattle.rgc_commands.specs.declared.outlines.Written.{Written}

-- the command that writes what an outline stands for to these files, with so many decisions of each search at most
abbrev pub expansion : Bor (List ℕ) → Option ℕ → Written → Command
expansion outline steps written = Outline outline steps written.text written.derivation written.proofs written.map
