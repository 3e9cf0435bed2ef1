use Rattle.std.proofs.Common.{map}
use Rattle.rg_tree.specs.ProgramView.{part}
use Rattle.rg_syntax.specs.Written.{part_text}
use Rattle.rg_resolve.specs.Programs.{part_faults}
use Rattle.rg_resolve.specs.Inner.ProgramTrees.{part_tree}
use Rattle.rg_resolve.proofs.Lists.{items_from}
use Rattle.rg_resolve.proofs.Turns.{AreTaken, items_to}
use Rattle.rg_resolve.proofs.resolve.part.parts_of.Given as goal

abbrev pub invariant-loop-i : goal.invariant-loop-i
invariant-loop-i l =
    let view = part_text l.scope.source.now in
    let words = l.scope.layout.now in
    AreTaken (part_tree words) (part_faults words) (map view l.written) (items_to view l.written l.i) (items_from view l.written l.i) (map part l.parts.items)
