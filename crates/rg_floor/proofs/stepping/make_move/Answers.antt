use Rattle.std.proofs.Common.{List, subst, sym}
use Rattle.rg_words.specs.States.{IsPair}
use Rattle.rg_floor.proofs.Made.{move_made}
use Rattle.rg_floor.proofs.stepping.make_move.Goals as goal

pub returns-clause-config : goal.returns-clause-config
returns-clause-config c =
    let pair = subst (λ (ws : List _). IsPair ws c.args.config.now.state c.args.state.now.values) (sym c.requires.words) c.requires.pair in
    move_made c.args.config.now c.args.state.now.values c.change.result c.change.new.self c.change.ensures.done c.change.ensures.refused pair

pub returns-clause-pair : goal.returns-clause-pair
returns-clause-pair c =
    subst (λ (ws : List _). IsPair ws c.args.config.now.state c.args.state.now.values) (sym c.requires.words) c.requires.pair
