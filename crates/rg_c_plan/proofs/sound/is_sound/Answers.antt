use Rattle.std.proofs.Common.{◌≡◌, ◌∙◌, Option, Some, None, true, length, sym, arith, rules}
use Rattle.rg_tree.specs.ProgramTrees.{program as program_tree}
use Rattle.rg_c_plan.specs.declared.planned.Unplanned.{Unplanned}
use Rattle.rg_c_plan.specs.Orders.{waiting}
use Rattle.rg_c_plan.specs.Views.{views}
use Rattle.rg_c_plan.specs.Kinds.{failing}
use Rattle.rg_c_plan.specs.Inner.Tests.{are_words_sound}
use Rattle.rg_c_plan.proofs.Checked.{sound_from_tests, words_pass}
use Rattle.rg_c_plan.proofs.sound.is_sound.Goals as goal

pub returns-then-not-branch : goal.returns-then-not-branch
returns-then-not-branch c =
    let p = program_tree c.args.program.now in
    let kinds = c.args.kinds.now in
    let order = c.args.order.now in
    (λ e. cc e, λ sound. sym c.if-not-branch.true ∙ c.in_ok-are_words_sound.ensures ∙ words_pass p kinds order sound)

pub returns-in-Some : goal.returns-in-Some
returns-in-Some c =
    let p = program_tree c.args.program.now in
    let kinds = c.args.kinds.now in
    let order = c.args.order.now in
    let found : failing (views p order kinds) ≡ Some c.in-Some.field-0 = search rules in
    (λ e. cc e, λ sound. let none : (let u : Option Unplanned = None in u) ≡ Some c.in-Some.field-0 = sym sound.steps ∙ found in cc none)

pub returns : goal.returns
returns c =
    let p = program_tree c.args.program.now in
    let kinds = c.args.kinds.now in
    let order = c.args.order.now in
    let size : length kinds ≡ length p.words = omega (arith, c.if-kinds-len.false, c.len.ensures.count) in
    let words : are_words_sound p kinds ≡ true = sym c.in_ok-are_words_sound.ensures ∙ c.if-not-branch.false in
    let waits : waiting p order ≡ None = search rules in
    let none : failing (views p order kinds) ≡ None = search rules in
    (λ e. sound_from_tests p kinds order size words waits none, λ sound. search rules)
