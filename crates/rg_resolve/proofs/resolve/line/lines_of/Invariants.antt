use Rattle.std.proofs.Common.{map}
use Rattle.rg_tree.specs.Lines.{line_tree}
use Rattle.rg_syntax.specs.Written.{line_text}
use Rattle.rg_resolve.specs.Derivations.{line_faults}
use Rattle.rg_resolve.proofs.Lists.{AreDone, items_from}
use Rattle.rg_resolve.proofs.resolve.line.lines_of.Given as goal
use Rattle.rg_resolve.specs.Inner.LineTrees.{resolved_line}

abbrev pub invariant-loop-one : goal.invariant-loop-one
invariant-loop-one l =
    let src = l.scope.source.now in
    let words = l.scope.layout.now in
    AreDone (resolved_line words) (line_faults words) (map (line_text src) l.written) (items_from (line_text src) l.written l.one-index) (map line_tree l.lines.items)
