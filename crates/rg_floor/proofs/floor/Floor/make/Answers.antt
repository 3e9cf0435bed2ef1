use Rattle.std.proofs.Common.{◌≡◌, ap, ◌∙◌}
use Rattle.rg_tree.specs.Moves.{given}
use Rattle.rg_floor.proofs.OneMore.{kept_scratch, kept_try, gives_try}
use Rattle.rg_floor.proofs.floor.Floor.make.Goals as goal

pub invariant_of-self : goal.invariant_of-self
invariant_of-self g c =
    let kept = kept_scratch _ _ _ _ _ _ _ _ _ c.give.new.state _ _ _ _ c.self.invariant (c.give.ensures.widths ∙ c.replace.ensures.widths) in
    kept_try _ _ _ _ _ _ _ _ _ _ _ _ _ kept _ c.requires.program c.self.inside.more c.give.new.state.values c.try_move.result _ _ _ c.try_move.ensures

pub returns : goal.returns
returns g c =
    let old = c.self.inside in
    let given_is : c.give.new.state.values ≡ given c.args.values.now c.args.self.now.words =
    c.give.ensures.values ∙ ap (given c.args.values.now) (c.replace.ensures.values ∙ c.words.ensures.values ∙ ap (λ f. f.words) c.self.view_is) in
    gives_try _ _ _ _ _ _ _ _ _ _ _ _ _ c.self.invariant _ c.requires.program old.stopped old.more c.args.self.now c.self.view_is c.give.new.state.values _ given_is c.try_move.result _ _ _ c.try_move.ensures
