use Rattle.std.proofs.Common.{◌≡◌, ◌++◌, map, drop}
use Rattle.std.specs.String.{string_bytes}
use Rattle.rg_tree.specs.ProgramView.{part}
use Rattle.rg_tree.specs.ProgramTrees.{program as program_tree}
use Rattle.rg_c.specs.Orders.{handler_lines}
use Rattle.rg_c.proofs.orders.push_handlers.Given as goal

-- those so far, and those of the rest
abbrev pub invariant-loop-place : goal.invariant-loop-place
invariant-loop-place l =
    string_bytes l.text ++ handler_lines (program_tree l.program) l.order l.place (map part (drop l.place l.part-items))
    ≡ string_bytes l.initial.text ++ handler_lines (program_tree l.program) l.order 0 (map part l.program.parts.items)
