use Rattle.std.proofs.Common.{◌≡◌, ◌+◌, ap, sym, ◌∙◌, rules}
use Rattle.rg_tree.specs.ProgramTrees.{program}
use Rattle.rg_tree.specs.Moves.{given}
use Rattle.rg_monitor.specs.Entry.{entry_of}
use Rattle.rg_floor.proofs.Histories.{one_made}
use Rattle.rg_floor.proofs.closed.records_on.Goals as goal

pub loop-i-preserved : goal.loop-i-preserved
loop-i-preserved c =
    let inv = c.loop-i.invariant in
    let p = program c.args.program.now in
    let ch = c.index-changes-i.result in
    let s = c.loop-i.before.values in
    let t = c.give-in-loop-i.new.state.values in
    let first : c.give.new.state.values ≡ given ch.values s = c.give.ensures.values ∙ (λ j. given (c.values.ensures j) (inv.equal j)) in
    let second : t ≡ given ch.values s = c.give-in-loop-i.ensures.values ∙ ap (λ vs. given vs s) c.values-in-loop-i.ensures in
    let equal : c.give.new.state.values ≡ t = first ∙ sym second in
    let entry : c.in_ok-record.record ≡ entry_of p (c.loop-i.i + 1) ch.who ch.line s t =
    c.in_ok-record.ensures ∙ (λ j. entry_of p (c.loop-i.i + 1) (c.who.ensures j) (c.line.ensures j) s (equal j)) in
    record {
      before_widths = c.give-in-loop-i.ensures.widths ∙ inv.before_widths;
      after_widths = c.give.ensures.widths ∙ inv.after_widths;
      equal = equal;
      rest = one_made p c.loop-i.records.items c.push.new.self.items _ c.args.changes.now c.loop-i.i _ ch s t (search rules) c.index-changes-i.is entry second c.in_ok-push.ensures.items inv.rest;
    }
