use Rattle.std.proofs.Common.{◌≡◌, ◌∙◌, ℕ, List, sym, subst}
use Rattle.rg_words.specs.Refusals.{no_memory}
use Rattle.rg_tree.specs.Statements.{ProgramTree}
use Rattle.rg_tree.specs.ProgramTrees.{program as program_tree}
use Rattle.rg_parse.specs.Programs.{SpellsProgram}
use Rattle.rgc_commands.proofs.Meant.{meant_as_read, meant_for_nothing}
use Rattle.rgc_commands.proofs.meaning.is_meant.Goals as goal

pub returns-in_ok-stands_for-in-Ok : goal.returns-in_ok-stands_for-in-Ok
returns-in_ok-stands_for-in-Ok c =
    let spells = subst (λ (bytes : List ℕ). SpellsProgram bytes (program_tree c.in-Ok.program)) c.deref.ensures.value c.in-Ok.ensures.spells in
    meant_as_read c.args.outline c.args.outlined.now (program_tree c.in-Ok.program) c.in_ok-stands_for-in-Ok.field-0 spells c.in_ok-stands_for-in-Ok.ensures.stands

pub returns-in-Err-2 : goal.returns-in-Err-2
returns-in-Err-2 c = λ _.
    let accepts = subst (λ (bytes : List ℕ). (t : ProgramTree) → SpellsProgram bytes t → c.in-Err.refusal ≡ no_memory) c.deref.ensures.value c.in-Err.ensures.accepts in
    meant_for_nothing c.args.outline c.args.outlined.now c.in-Err.refusal (sym c.is_memory.ensures ∙ c.if-is_memory.false) accepts
