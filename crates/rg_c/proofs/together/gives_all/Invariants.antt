use Rattle.std.proofs.Common.{◌≡◌, ◌≤◌, map, drop}
use Rattle.rg_c.specs.Together.{gives_from}
use Rattle.rg_c.specs.View.{given, item}
use Rattle.rg_c.proofs.together.gives_all.Given as goal

-- those so far do
abbrev pub invariant-loop-g : goal.invariant-loop-g
invariant-loop-g l = record {
  rest : gives_from l.kinds (item l.it) l.count l.number (map given (drop l.g-index l.gs)) ≡ gives_from l.kinds (item l.it) l.count 0 (map given l.gs);
  within : l.number ≤ l.count;
}
