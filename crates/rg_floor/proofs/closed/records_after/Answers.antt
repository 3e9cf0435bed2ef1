use Rattle.std.proofs.Common.{◌≡◌, ◌≤◌, List, length, sym, ◌∙◌, subst, rules}
use Rattle.std.specs.Prelude.{IfOk}
use Rattle.rg_tree.specs.ProgramTrees.{program}
use Rattle.rg_monitor.specs.Entry.{Entry}
use Rattle.rg_floor.proofs.Histories.{records_after, none_after}
use Rattle.rg_floor.proofs.closed.records_after.Goals as goal

pub returns-then-count-changes : goal.returns-then-count-changes
returns-then-count-changes c =
    let past : length c.args.changes.now ≤ c.args.count = search rules in
    c.new.ensures.items ∙ sym (none_after (program c.args.program.now) c.args.start.now.values c.args.changes.now c.args.count past)

pub returns : goal.returns
returns c =
    let known = records_after (program c.args.program.now) c.args.start.now.values c.in_ok-before.before.values c.args.changes.now c.args.count c.in_ok-before.ensures.values in
    subst (λ (x : List Entry). IfOk c.records_on.result (λ r. r.items ≡ x)) known c.records_on.ensures
