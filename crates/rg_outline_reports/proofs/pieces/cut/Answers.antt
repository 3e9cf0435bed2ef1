use Rattle.std.proofs.Common.{◌≡◌, ◌++◌, ◌∷◌, []}
use Rattle.std.proofs.lemmas.List.{append_assoc, append-nil, map-append, take-append-drop}
use Rattle.std.proofs.lemmas.List.Folds.{concat-append}
use Rattle.rg_outline_reports.proofs.pieces.cut.Goals as goal

pub loop-place-preserved : goal.loop-place-preserved
loop-place-preserved c =
    let items : c.push.new.self.items ≡ c.loop-place.pieces.items ++ c.split_at.result.0 ∷ [] = c.in_ok-push.ensures.items in
    let both : c.split_at.result.0.now ++ c.split_at.result.1.now ≡ c.loop-place.rest.now =
    rw (c.split_at.ensures.front, c.split_at.ensures.back) (take-append-drop _ _) in
    rw (items, map-append, concat-append, append-nil, append_assoc, both) c.loop-place.invariant

pub returns : goal.returns
returns c =
    let items : c.push-2.new.self.items ≡ c.loop-place.pieces.items ++ c.loop-place.rest ∷ [] = c.in_ok-push-2.ensures.items in
    rw (items, map-append, concat-append, append-nil) c.loop-place.invariant
