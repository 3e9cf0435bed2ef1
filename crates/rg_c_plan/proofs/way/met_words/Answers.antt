use Rattle.std.proofs.Common.{◌≡◌, ◌∙◌, ◌<◌, ◌++◌, [], ◌∷◌, true, false, length, map, sym, arith, rules}
use Rattle.rg_tree.specs.ConditionTrees.{assignment}
use Rattle.rg_c_plan.specs.View.{guard_tree}
use Rattle.rg_c_plan.specs.Changes.{moving}
use Rattle.rg_c_plan.specs.Ways.{meets_at, met_words}
use Rattle.rg_c_plan.proofs.Places.{one_kept, one_left}
use Rattle.rg_c_plan.proofs.way.met_words.Goals as goal
use Rattle.rg_c_plan.proofs.way.met_words.Goals.{then-meets_at+in_ok-push, else-meets_at}

pub loop-word-preserved : goal.loop-word-preserved
loop-word-preserved c =
    let kinds = c.args.kinds.now in
    let guard = guard_tree c.args.guard in
    let act = moving (map assignment c.args.act.now) in
    let word = c.loop-word.word in
    let less : word < length kinds = omega (arith, c.loop-word-test.true) in
    elim c.if-meets_at.branch [
      | then-meets_at+in_ok-push w ↦
          let passes : meets_at kinds guard act word ≡ true = sym c.meets_at.ensures ∙ w.if-meets_at.true in
          let went : c.if-meets_at.list.items ≡ c.loop-word.list.items ++ word ∷ [] = search rules in
          one_kept (meets_at kinds guard act) word (length kinds) c.loop-word.list.items c.if-meets_at.list.items (met_words kinds guard act) less passes went c.loop-word.invariant
      | else-meets_at w ↦
          let fails : meets_at kinds guard act word ≡ false = sym c.meets_at.ensures ∙ w.if-meets_at.false in
          let same : c.if-meets_at.list.items ≡ c.loop-word.list.items = search rules in
          one_left (meets_at kinds guard act) word (length kinds) c.loop-word.list.items c.if-meets_at.list.items (met_words kinds guard act) less fails same c.loop-word.invariant
    ]
