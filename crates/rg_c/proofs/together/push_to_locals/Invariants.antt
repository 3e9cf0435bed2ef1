use Rattle.std.proofs.Common.{◌≡◌, ◌++◌, map, drop}
use Rattle.std.specs.String.{string_bytes}
use Rattle.rg_c.specs.declared.tree.Target.TheVariants.{Local}
use Rattle.rg_c.specs.CStatements.{each}
use Rattle.rg_c.specs.Assigned.{assigned_to}
use Rattle.rg_c.specs.View.{given, on}
use Rattle.rg_c.proofs.together.push_to_locals.Given as goal

abbrev pub invariant-loop-g : goal.invariant-loop-g
invariant-loop-g l =
    string_bytes l.text ++ on l.s (each (assigned_to l.s.kinds.now Local) (map given (drop l.g-index l.gs))) ≡ string_bytes l.initial.text ++ on l.s (each (assigned_to l.s.kinds.now Local) (map given l.gs))
