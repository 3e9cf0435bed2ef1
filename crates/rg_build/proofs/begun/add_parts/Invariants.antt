use Rattle.std.proofs.Common.{◌≡◌, ℕ, List, ◌++◌, drop}
use Rattle.std.specs.List.{flat_map}
use Rattle.rg_syntax.specs.Written.{part_text}
use Rattle.rg_build.specs.Inner.DraftLines.{block_lines}
use Rattle.rg_build.proofs.begun.add_parts.Given as goal

abbrev pub invariant-loop-part : goal.invariant-loop-part
invariant-loop-part l =
    (src : List ℕ) → l.lines.items ++ flat_map (λ p. block_lines (part_text src p).body) (drop l.part-index l.parts)
    ≡ l.initial.lines.items ++ flat_map (λ p. block_lines (part_text src p).body) l.parts
