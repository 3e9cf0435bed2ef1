use Rattle.std.proofs.Common.{◌≡◌, ◌++◌, map, drop}
use Rattle.std.specs.List.{filter}
use Rattle.rg_tree.specs.View.{formula}
use Rattle.rg_tree.specs.Lines.{line_tree}
use Rattle.rg_apart.specs.Conditions.{is_line_of, visit_of}
use Rattle.rg_apart.specs.Inner.View.{visit}
use Rattle.rg_apart.proofs.visits.push_visits.Given as goal

-- those so far, and the rest
abbrev pub invariant-loop-line : goal.invariant-loop-line
invariant-loop-line l =
    map visit l.list.items ++ map (visit_of l.n.part (formula l.site) l.writes) (filter (is_line_of l.n.number) (map line_tree (drop l.line-index l.lines)))
    ≡ map visit l.initial.list.items ++ map (visit_of l.n.part (formula l.site) l.writes) (filter (is_line_of l.n.number) (map line_tree l.lines))
