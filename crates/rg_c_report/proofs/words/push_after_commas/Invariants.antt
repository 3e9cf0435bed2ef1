use Rattle.std.proofs.Common.{◌≡◌, ◌++◌, map, take}
use Rattle.std.specs.String.{string_bytes}
use Rattle.rg_c_report.specs.Words.{after_commas}
use Rattle.rg_c_report.proofs.words.push_after_commas.Given as goal

-- those so far
abbrev pub invariant-loop-piece : goal.invariant-loop-piece
invariant-loop-piece l = string_bytes l.text ≡ string_bytes l.initial.text ++ after_commas (map (λ t. t.now) (take l.piece-index l.pieces))
