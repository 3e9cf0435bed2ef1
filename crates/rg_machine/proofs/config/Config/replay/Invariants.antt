use Rattle.std.proofs.Common.{map, take}
use Rattle.rg_machine.specs.Replay.{happening, EventsFit, Replays}
use Rattle.rg_machine.proofs.config.Config.replay.Given as goal

abbrev pub invariant-loop-done : goal.invariant-loop-done
invariant-loop-done l = record {
  fit : EventsFit l.self l.events;
  so_far : Replays l.initial.self (map happening (take l.done l.events)) l.self;
}
