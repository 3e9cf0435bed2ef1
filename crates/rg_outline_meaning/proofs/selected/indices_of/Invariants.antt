use Rattle.std.proofs.Common.{◌≡◌, length, map, take}
use Rattle.std.specs.Prelude.{option_map}
use Rattle.rg_tree.specs.View.{expression}
use Rattle.rg_outline_meaning.specs.Inner.{AreIndices}
use Rattle.rg_outline_meaning.specs.View.{meaning}
use Rattle.rg_outline_meaning.proofs.selected.indices_of.Given as goal

-- those so far
abbrev pub invariant-loop-place : goal.invariant-loop-place
invariant-loop-place l = (length l.indices.items ≡ l.place) × AreIndices (map meaning (take l.place l.meanings)) l.indices.items (option_map (λ p. (p.0, expression p.1)) l.choosing)
