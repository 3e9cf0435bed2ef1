use Rattle.std.proofs.Common.{map, drop}
use Rattle.rg_outline_meaning.specs.Names.{text_of, AreDifferent}
use Rattle.rg_outline_meaning.specs.View.{outline}
use Rattle.rg_outline_meaning.proofs.names.Reader.want_all_different.Given as goal

-- if those that are left differ, all do
abbrev pub invariant-loop-place : goal.invariant-loop-place
invariant-loop-place l = AreDifferent (map (text_of (outline l.self)) (drop l.place l.all)) → AreDifferent (map (text_of (outline l.self)) l.all)
