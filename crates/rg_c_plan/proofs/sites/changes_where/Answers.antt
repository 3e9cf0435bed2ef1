use Rattle.std.proofs.Common.{◌≡◌, ◌-◌, ◌<◌, length, get_or, option_map, rules}
use Rattle.rg_tree.specs.View.{formula}
use Rattle.rg_c_plan.proofs.LastChanges.{changes_more, changes_same}
use Rattle.rg_c_plan.proofs.sites.changes_where.Goals.{then-moves+in_ok-first+in_ok-site, else-moves}
use Rattle.rg_c_plan.proofs.sites.changes_where.Goals as goal

pub loop-i-preserved : goal.loop-i-preserved
loop-i-preserved c =
    let act = c.args.act.now in
    let i = c.loop-i.i in
    let a = c.index-act-act.result in
    let less : i < length act = search rules in
    let is : get_or act (length act - 1 - i) a ≡ a = search (rules, c.index-act-act.is) in
    let before = option_map formula c.loop-i.site in
    let after = option_map formula c.if-moves.site in
    elim c.if-moves.branch [
      | then-moves+in_ok-first+in_ok-site w ↦ changes_more c.args.word act i a less is before after (search (rules, w.if-moves)) c.loop-i.invariant (search (rules, w.site-is, w.in_ok-first, w.in_ok-site, w.freed, w.either, w.change_where))
      | else-moves w ↦ changes_same c.args.word act i a less is before after (search (rules, w.if-moves)) c.loop-i.invariant (search (rules, w.site-is))
    ]
