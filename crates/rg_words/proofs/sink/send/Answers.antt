use Rattle.std.proofs.Common.{ℕ, arith, length-take, length-drop}
use Rattle.rg_words.specs.declared.sink.WriteFault.{WriteFault}
use Rattle.rg_words.proofs.Written.{more_goes, none_counted}
use Rattle.rg_words.proofs.sink.send.Goals as goal

pub loop-sent-preserved : goal.loop-sent-preserved
loop-sent-preserved g c = record {
  within = omega (arith, c.in-Ok.ensures.bound, length-take {A = ℕ}, length-drop {A = ℕ});
  went = more_goes _ _ _ c.args.bytes.now c.loop-sent.sent c.in-Ok.taken c.loop-sent.invariant.went c.in-Ok.ensures.bytes;
  failures = none_counted WriteFault _ c.in-Ok.taken _ _ _ c.if-taken-eq0.false c.loop-sent.invariant.failures c.in-Ok.ensures.failures;
}
