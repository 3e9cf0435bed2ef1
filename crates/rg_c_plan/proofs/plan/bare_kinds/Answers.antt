use Rattle.std.proofs.Common.{◌<◌, length, arith, rules}
use Rattle.rg_tree.specs.ProgramTrees.{program as program_tree}
use Rattle.rg_c_plan.specs.Kinds.{bare_kind, bare_kinds}
use Rattle.rg_c_plan.proofs.Places.{one_more}
use Rattle.rg_c_plan.proofs.plan.bare_kinds.Goals as goal

pub loop-word-preserved : goal.loop-word-preserved
loop-word-preserved c =
    let p = program_tree c.args.program.now in
    let less : c.loop-word.word < length p.words = omega (arith, c.loop-word-test.true, c.len-word-end.ensures.count) in
    one_more (bare_kind p c.args.apart.now) c.loop-word.word (length p.words) c.loop-word.list.items c.push.new.self.items (bare_kinds p c.args.apart.now) c.in_ok-bare_kind.field-0 less (search rules) (search rules) c.loop-word.invariant
