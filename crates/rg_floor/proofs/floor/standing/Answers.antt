use Rattle.std.proofs.Common.{sym, ap, ◌∙◌}
use Rattle.rg_words.specs.Layout.{widths_of}
use Rattle.rg_code.specs.Code.{zeros}
use Rattle.rg_code.specs.CodeTrees.{code_blocks}
use Rattle.rg_floor.proofs.Together.{same_words}
use Rattle.rg_floor.proofs.floor.standing.Goals as goal

pub new-requires : goal.new-requires
new-requires c =
    let words = same_words c.args.program.now c.args.code.now c.requires.law in
    ap (λ x. x.widths) c.in_ok-state.ensures ∙ c.requires.widths ∙ ap widths_of (sym words)

pub returns-clause-config : goal.returns-clause-config
returns-clause-config c =
    let words = same_words c.args.program.now c.args.code.now c.requires.law in
    c.in_ok-config.ensures ∙ (λ i. record { words = words i; codes = code_blocks c.args.code.now; state = (c.in_ok-state.ensures i).values; places = zeros (code_blocks c.args.code.now) })
