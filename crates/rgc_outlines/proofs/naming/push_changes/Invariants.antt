use Rattle.std.proofs.Common.{◌≡◌, ◌++◌, map, drop}
use Rattle.rgc_outlines.specs.Reported.{changes_by}
use Rattle.rgc_outlines.proofs.naming.push_changes.Given as goal

-- what is there, and what the rest will add, is the whole
abbrev pub invariant-loop-word : goal.invariant-loop-word
invariant-loop-word l =
    l.text.items ++ changes_by (drop l.word (map (λ w. w.items) l.names)) (drop l.word l.before.values) (drop l.word l.after.values)
    ≡ l.fn.text.items ++ changes_by (map (λ w. w.items) l.names) l.before.values l.after.values
