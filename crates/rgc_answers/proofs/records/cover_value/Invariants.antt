use Rattle.std.proofs.Common.{◌≡◌, map, take}
use Rattle.serde_json.specs.Data.{string}
use Rattle.serde_json.specs.View.{view}
use Rattle.rg_tree.specs.ProgramView.{part}
use Rattle.rg_monitor.specs.Lines.{name_of}
use Rattle.rgc_answers.proofs.records.cover_value.Given as goal

-- the first names are there
abbrev pub invariant-loop-who : goal.invariant-loop-who
invariant-loop-who l = map view l.values.items ≡ map (λ k. string (name_of (map part l.parts) k)) (take l.who-index l.numbers)
