use Rattle.std.proofs.Common.{◌≡◌, ◌==◌, ◌+◌, ◌∷◌, [], ◌++◌, length, false, ap, sym, subst, ◌∙◌, rules}
use Rattle.rg_tree.specs.ProgramTrees.{program}
use Rattle.rg_machine.specs.Machine.{Configuration, IsStepOf, StepFits, block_of, line_of}
use Rattle.rg_monitor.specs.Entry.{entry_of}
use Rattle.rg_floor.specs.Changes.{change_of}
use Rattle.rg_floor.specs.Ready.{line_at}
use Rattle.rg_floor.proofs.Made.{step_did}
use Rattle.rg_floor.proofs.stepping.make_step.Goals as goal

pub returns-in-Ok : goal.returns-in-Ok
returns-in-Ok c =
    let old = c.args.config.now in
    let who = c.args.part in
    let new = c.step.new.self in
    let p = program c.args.program.now in
    let cs = c.args.changes.now.items in
    let fits = subst (λ (x : Configuration). StepFits x who c.step.result new) c.requires.ahead c.step.ensures in
    let led = step_did old who c.step.result new fits c.requires.can in
    let apart : (who == 0) ≡ false = search (rules, c.requires.part.0) in
    let plain : line_of (block_of old who) ≡ line_at old.codes old.places who = rw apart in
    let line : c.line-line.result ≡ line_at old.codes old.places who = c.line-line.ensures ∙ plain in
    let follows = c.follow.ensures in
    let step : IsStepOf old who c.follow.new.self = subst (λ (x : Configuration). IsStepOf old who x) (sym follows) led in (
      step,
      c.in-Ok.ensures.record ∙ (λ i. entry_of p (length cs + 1) who (line i) (c.words.ensures.values i) ((c.words-2.ensures.values ∙ ap (λ x. x.state) (sym follows)) i)),
      sym follows,
      c.in-Ok.ensures.ok ∙ (λ i. cs ++ change_of who (line i) (c.words.ensures.values i) ((c.words-2.ensures.values ∙ ap (λ x. x.state) (sym follows)) i) ∷ []),
    )
