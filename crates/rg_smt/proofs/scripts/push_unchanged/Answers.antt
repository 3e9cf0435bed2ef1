use Rattle.std.proofs.Common.{◌≡◌, ◌++◌, ◌+◌, ◌-◌, ◌<◌, length, rules}
use Rattle.std.specs.String.{string_bytes}
use Rattle.rg_smt.specs.Scripts.{kept, unchanged}
use Rattle.rg_smt.specs.Inner.View.{reading}
use Rattle.rg_smt.proofs.Pushed.{one_more}
use Rattle.rg_smt.proofs.Rest.{unchanged_next}
use Rattle.rg_smt.proofs.scripts.push_unchanged.Goals as goal

pub loop-word-preserved : goal.loop-word-preserved
loop-word-preserved c =
    let words = c.args.layout.now in
    let r = reading c.args.moment in
    let k = c.loop-word.word in
    let less : k < length words = search rules in
    one_more (string_bytes c.loop-word.text) _ (kept words r k) (unchanged words r (k + 1) (length words - (k + 1))) _ _
    c.in_ok-push_kept.ensures (unchanged_next words r k (length words) less) c.loop-word.invariant
