use Rattle.std.proofs.Common.{◌≡◌, drop}
use Rattle.rg_floor.specs.Ready.{any_can_go}
use Rattle.rg_floor.proofs.ready.any_can_go.Given as goal

-- some can step where one of the rest can
abbrev pub invariant-loop-i : goal.invariant-loop-i
invariant-loop-i l = record {
  same : l.config ≡ l.fn.config;
  rest : any_can_go (drop l.i l.fn.config.codes) (drop l.i l.fn.config.places) l.fn.config.state ≡ any_can_go l.fn.config.codes l.fn.config.places l.fn.config.state;
}
