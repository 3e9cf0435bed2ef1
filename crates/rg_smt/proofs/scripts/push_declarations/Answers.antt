use Rattle.std.proofs.Common.{◌≡◌, ◌++◌, ◌+◌, ◌-◌, ◌<◌, [], length, rules}
use Rattle.std.specs.String.{string_bytes}
use Rattle.rg_smt.specs.Scripts.{declaration, second_declaration, declarations}
use Rattle.rg_smt.specs.Symbols.{done}
use Rattle.rg_smt.specs.Inner.View.{reading}
use Rattle.rg_smt.proofs.Pushed.{two_more}
use Rattle.rg_smt.proofs.Rest.{declarations_next}
use Rattle.rg_smt.proofs.scripts.push_declarations.Goals as goal

pub loop-word-preserved : goal.loop-word-preserved
loop-word-preserved c =
    let words = c.args.layout.now in
    let r = reading c.args.moment in
    let k = c.loop-word.word in
    let less : k < length words = search rules in
    two_more (string_bytes c.loop-word.text) _ _ (declaration words (done []) k) (second_declaration words r k) (declarations words r (k + 1) (length words - (k + 1))) _ _
    (rw c.first.ensures at c.in_ok-push_declaration.ensures) c.in_ok-push_second_declaration.ensures (declarations_next words r k (length words) less) c.loop-word.invariant
