use Rattle.std.proofs.Common.{◌≡◌, map, take}
use Rattle.std.specs.Prelude.{string_bytes}
use Rattle.rg_tree.specs.Conditions.{condition_tree}
use Rattle.rgc_answers.specs.Blocks.{blocks_text}
use Rattle.rgc_answers.proofs.blocks.blocks_text.Given as goal

-- the conditions so far
abbrev pub invariant-loop-i : goal.invariant-loop-i
invariant-loop-i l = string_bytes l.text ≡ blocks_text 1 (take l.i (map string_bytes l.names)) (take l.i (map condition_tree l.conditions))
