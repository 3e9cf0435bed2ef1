use Rattle.std.proofs.Common.{◌≡◌, true, false, length, arith, rules}
use Rattle.rg_machine.specs.Replay.{happening}
use Rattle.rg_machine.proofs.Replayed.{fit_at, fit_on, replays_on, stops_at, none_left}
use Rattle.rg_machine.proofs.config.Config.replay.Goals as goal

pub happen-requires : goal.happen-requires
happen-requires c =
    fit_at c.loop-done.self c.args.events.now c.loop-done.done c.index-events-done.result c.loop-done.invariant.fit (search rules) (search rules)

pub returns-then-not-happen-clause-longest : goal.returns-then-not-happen-clause-longest
returns-then-not-happen-clause-longest c =
    let refused : c.happen.result ≡ false = search (rules, c.if-not-happen.true) in
    rw (c.happen.ensures.same refused) (stops_at c.loop-done.self c.args.events.now c.loop-done.done c.index-events-done.result (search rules) (search rules) (c.happen.ensures.refused refused))

pub loop-done-preserved : goal.loop-done-preserved
loop-done-preserved c =
    let happened : c.happen.result ≡ true = search (rules, c.if-not-happen.false) in
    let led = c.happen.ensures.done happened in
    record {
      fit = fit_on c.loop-done.self c.happen.new.self (happening c.index-events-done.result) c.args.events.now led c.loop-done.invariant.fit;
      so_far = replays_on c.args.self.now c.loop-done.self c.happen.new.self c.args.events.now c.loop-done.done c.index-events-done.result (search rules) (search rules) c.loop-done.invariant.so_far led;
    }

pub returns-clause-longest : goal.returns-clause-longest
returns-clause-longest c = none_left c.loop-done.self c.args.events.now (length c.args.events.now) (omega arith)
