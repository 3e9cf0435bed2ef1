use Rattle.std.proofs.Common.{◌≡◌, ◌<◌, length, arith, rules}
use Rattle.rg_tree.specs.ProgramTrees.{program as program_tree}
use Rattle.rg_c_plan.specs.Ways.{kind_at}
use Rattle.rg_c_plan.specs.Kinds.{bare_kind, bare_kinds, kind_of, kinds_of}
use Rattle.rg_c_plan.proofs.Places.{one_more}
use Rattle.rg_c_plan.proofs.Checked.{bare_at}
use Rattle.rg_c_plan.proofs.plan.kinds_of.Goals as goal

pub loop-word-preserved : goal.loop-word-preserved
loop-word-preserved c =
    let p = program_tree c.args.program.now in
    let apart = c.args.apart.now in
    let order = c.args.order.now in
    let word = c.loop-word.word in
    let less : word < length p.words = omega (arith, c.loop-word-test.true, c.len-word-end.ensures.count) in
    let at : kind_at (bare_kinds p apart) word ≡ bare_kind p apart word = bare_at p apart word less in
    let is : c.kind_among.result ≡ kind_of p order apart word = search (rules, at) in
    one_more (kind_of p order apart) word (length p.words) c.loop-word.kinds.items c.push.new.self.items (kinds_of p order apart) c.kind_among.result less (search rules) is c.loop-word.invariant
