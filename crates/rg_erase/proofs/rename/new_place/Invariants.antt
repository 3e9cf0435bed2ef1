use Rattle.std.proofs.Common.{◌≡◌, ◌≤◌}
use Rattle.rg_erase.specs.Erased.{new_place}
use Rattle.rg_erase.proofs.rename.new_place.Given as goal

-- the words so far that stay
abbrev pub invariant-loop-word : goal.invariant-loop-word
invariant-loop-word l = record { place : l.place ≡ new_place l.erased l.word; within : l.place ≤ l.word }
