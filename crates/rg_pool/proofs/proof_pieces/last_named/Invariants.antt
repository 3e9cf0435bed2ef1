use Rattle.std.proofs.Common.{◌≡◌, map, take}
use Rattle.rg_hints.specs.Placed.{text_of}
use Rattle.rg_pool.specs.ProofPieces.{last_named}
use Rattle.rg_pool.proofs.proof_pieces.last_named.Given as goal

-- the last of the sections so far
abbrev pub invariant-loop-section : goal.invariant-loop-section
invariant-loop-section l = l.last ≡ last_named l.initial.before (map text_of (take l.section-index l.sections))
