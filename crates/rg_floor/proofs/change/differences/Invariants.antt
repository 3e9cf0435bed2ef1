use Rattle.std.proofs.Common.{◌≡◌, ◌++◌, drop}
use Rattle.rg_floor.specs.Changes.{changed}
use Rattle.rg_floor.proofs.change.differences.Given as goal

-- what was found, and what the rest will add, is the whole
abbrev pub invariant-loop-word : goal.invariant-loop-word
invariant-loop-word l =
    l.values.items ++ changed l.word (drop l.word l.before.values) (drop l.word l.after.values) ≡ changed 0 l.before.values l.after.values
