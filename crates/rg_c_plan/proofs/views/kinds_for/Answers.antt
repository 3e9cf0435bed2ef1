use Rattle.std.proofs.Common.{◌<◌, ◌≤◌, length, arith, rules}
use Rattle.rg_tree.specs.ProgramTrees.{program as program_tree}
use Rattle.rg_c_plan.specs.Ways.{kind_at}
use Rattle.rg_c_plan.specs.Views.{others_access, seen_kind, kinds_for}
use Rattle.rg_c_plan.proofs.Places.{one_more, no_more}
use Rattle.rg_c_plan.proofs.views.kinds_for.Goals as goal

pub loop-word-preserved : goal.loop-word-preserved
loop-word-preserved c =
    let p = program_tree c.args.program.now in
    let kinds = c.args.kinds.now in
    let order = c.args.order.now in
    let part = c.args.part in
    let word = c.loop-word.word in
    let less : word < length p.words = omega (arith, c.loop-word-test.true, c.len-word-end.ensures.count) in
    one_more (λ k. seen_kind (kind_at kinds k) (others_access p order part k)) word (length p.words) c.loop-word.list.items c.push.new.self.items (kinds_for p order kinds part) c.seen_kind.result less (search rules) (search rules) c.loop-word.invariant

pub returns : goal.returns
returns c =
    let p = program_tree c.args.program.now in
    let kinds = c.args.kinds.now in
    let order = c.args.order.now in
    let part = c.args.part in
    let over : length p.words ≤ c.loop-word.word = omega (arith, c.loop-word-test.false, c.len-word-end.ensures.count) in
    no_more (λ k. seen_kind (kind_at kinds k) (others_access p order part k)) c.loop-word.word (length p.words) c.loop-word.list.items (kinds_for p order kinds part) over c.loop-word.invariant
