use Rattle.std.proofs.Common.{◌≡◌, ◌++◌, map, drop}
use Rattle.std.specs.Prelude.{string_bytes}
use Rattle.rg_rules.specs.Names.{condition_names, named}
use Rattle.rg_rules.proofs.names.push_names.Given as goal

abbrev pub invariant-loop-name : goal.invariant-loop-name
invariant-loop-name l =
    map string_bytes l.all.items ++ map (named l.place) (map (λ name. name.now) (drop l.name-index l.name-items)) ≡ map string_bytes l.initial.all.items ++ map (named l.place) (condition_names l.fn.rule)
