use Rattle.std.proofs.Common.{◌≡◌, ◌+◌, length, ap, sym, ◌∙◌, true, arith, rules}
use Rattle.rg_tree.specs.ProgramTrees.{program}
use Rattle.rg_tree.specs.Moves.{given}
use Rattle.rg_monitor.specs.Entry.{entry_of}
use Rattle.rg_floor.proofs.Histories.{length-rebuilt, equal_on}
use Rattle.rg_floor.proofs.closed.is_history.Goals as goal

pub returns-then-printed-changes : goal.returns-then-printed-changes
returns-then-printed-changes c =
    (λ f. cc, λ e. absurd (omega (arith, ap length e, length-rebuilt (program c.args.program.now) 0 c.args.start.now.values c.args.changes.now, c.if-printed-changes.true)))

pub loop-i-preserved : goal.loop-i-preserved
loop-i-preserved c =
    let inv = c.loop-i.invariant in
    let p = program c.args.program.now in
    let ch = c.index-changes-i.result in
    let s = c.loop-i.before.values in
    let t = c.give-in-loop-i.new.state.values in
    let first : c.give.new.state.values ≡ given ch.values s = c.give.ensures.values ∙ (λ j. given (c.values.ensures j) (inv.equal j)) in
    let second : t ≡ given ch.values s = c.give-in-loop-i.ensures.values ∙ ap (λ vs. given vs s) c.values-in-loop-i.ensures in
    let equal : c.give.new.state.values ≡ t = first ∙ sym second in
    let matched : c.same.result ≡ true = search rules in
    let entry : c.index-printed-i.result ≡ entry_of p (c.loop-i.i + 1) ch.who ch.line s t =
    c.same.ensures.0 matched ∙ c.in_ok-wanted.ensures ∙ (λ j. entry_of p (c.loop-i.i + 1) (c.who.ensures j) (c.line.ensures j) s (equal j)) in
    record {
      before_widths = c.give-in-loop-i.ensures.widths ∙ inv.before_widths;
      after_widths = c.give.ensures.widths ∙ inv.after_widths;
      equal = equal;
      rest = equal_on p c.args.printed.now c.args.changes.now c.loop-i.i c.index-printed-i.result ch s t _ (search rules) (search rules) c.index-printed-i.is c.index-changes-i.is entry second inv.rest;
    }
