use Rattle.std.proofs.Common.{◌≡◌, map, take}
use Rattle.std.specs.Prelude.{string_bytes}
use Rattle.rg_tree.specs.ProgramView.{part}
use Rattle.rgc_answers.specs.Numbers.{lines_text}
use Rattle.rgc_answers.proofs.numbers.lines_text.Given as goal

-- the lines so far
abbrev pub invariant-loop-statement : goal.invariant-loop-statement
invariant-loop-statement l = string_bytes l.text ≡ lines_text l.format (map part l.parts) (take l.statement-index l.statements)
