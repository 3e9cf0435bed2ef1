use Rattle.std.proofs.Common.{◌≡◌, ◌-◌, ap, ◌∙◌, take, drop, length}
use Rattle.rg_words.specs.Buffers.{waiting_in}
use Rattle.rg_words.proofs.Written.{rest_is, sent_is_written, moves_on}
use Rattle.rg_words.proofs.buffered.Buffered.flush.Goals as goal

pub returns-then-is_err-clause-written : goal.returns-then-is_err-clause-written
returns-then-is_err-clause-written g c =
    let waiting : take (length c.deref.result.now - c.args.self.now.sent) (drop c.args.self.now.sent c.deref.result.now) ≡ waiting_in c.args.self.now =
    rest_is c.deref.result.now c.args.self.now.sent ∙ ap (drop c.args.self.now.sent) c.deref.ensures.value in
    sent_is_written _ _ _ _ (waiting_in c.args.self.now) c.send-count.result.0 c.send-count.result.1 (rw waiting at c.send-count.ensures.went) (rw waiting at c.send-count.ensures.all) c.send-count.ensures.failures

pub returns-then-is_err-clause-kept : goal.returns-then-is_err-clause-kept
returns-then-is_err-clause-kept g c =
    let waiting : take (length c.deref.result.now - c.args.self.now.sent) (drop c.args.self.now.sent c.deref.result.now) ≡ waiting_in c.args.self.now =
    rest_is c.deref.result.now c.args.self.now.sent ∙ ap (drop c.args.self.now.sent) c.deref.ensures.value in
    moves_on _ _ c.args.self.now.pending.items c.args.self.now.sent c.send-count.result.0 (rw waiting at c.send-count.ensures.went)
