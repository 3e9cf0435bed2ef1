use Rattle.std.proofs.Common.{◌≢◌, ◌≤◌, length, ap, sym, ◌∙◌, rules, Some}
use Rattle.rg_tree.specs.ProgramTrees.{program}
use Rattle.rg_monitor.specs.Entry.{entry_of}
use Rattle.rg_floor.proofs.Histories.{record_at, no_record}
use Rattle.rg_floor.proofs.closed.record_at.Goals as goal

pub returns-then-number-changes : goal.returns-then-number-changes
returns-then-number-changes c = no_record (program c.args.program.now) c.args.start.now.values c.args.changes.now c.args.number (search rules)

pub returns : goal.returns
returns c =
    let p = program c.args.program.now in
    let ch = c.index-changes-number.result in
    let s = c.args.start.now.values in
    let some : c.args.number ≢ 0 = search rules in
    let most : c.args.number ≤ length c.args.changes.now = search rules in
    sym (record_at p s c.in_ok-before.before.values c.in_ok-after.after.values c.args.changes.now c.args.number ch some most (search rules) c.in_ok-before.ensures.values c.in_ok-after.ensures.values
    ∙ ap Some (sym (c.in_ok-record.ensures ∙ (λ i. entry_of p c.args.number (c.who.ensures i) (c.line.ensures i) c.in_ok-before.before.values c.in_ok-after.after.values))))
