use Rattle.std.proofs.Common.{◌≡◌, ◌+◌, ◌≤◌, ℕ, map, drop}
use Rattle.std.specs.Prelude.{vec_len}
use Rattle.rg_hints.specs.Proved.{section_for}
use Rattle.rg_hints.specs.Placed.{text_of, AreFrom, ArePlaced}
use Rattle.rg_hints.proofs.proof.place_sections.Given as goal

-- the sections so far are placed, and the rest decides of the others
abbrev pub invariant-loop-index : goal.invariant-loop-index
invariant-loop-index l = record {
  len : vec_len l.placed ≡ l.index;
  from : AreFrom (l.index + 1) (drop l.place l.sections);
  same : (k : ℕ) → l.index + 1 ≤ k → section_for (map text_of l.sections) k ≡ section_for (map text_of (drop l.place l.sections)) k;
  each : ArePlaced l.sections l.placed.items;
}
