use Rattle.std.proofs.Common.{◌≡◌, ◌++◌, drop}
use Rattle.rg_monitor.specs.Lines.{changes_text}
use Rattle.rg_monitor.proofs.lines.push_changes.Given as goal

-- what is there, and what the rest will add, is the whole
abbrev pub invariant-loop-word : goal.invariant-loop-word
invariant-loop-word l =
    l.text.items ++ changes_text (drop l.word l.layout) (drop l.word l.before.values) (drop l.word l.after.values)
    ≡ l.fn.text.items ++ changes_text l.layout l.before.values l.after.values
