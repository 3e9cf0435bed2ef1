use Rattle.std.proofs.Common.{◌∙◌, refl, ap, length, arith}
use Rattle.rg_outline_meaning.specs.View.{outline, words, knowns}
use Rattle.rg_outline_meaning.proofs.ProgramRules.{declarations_step, declarations_all}
use Rattle.rg_outline_meaning.proofs.names.Reader.know_words.Goals as goal

pub loop-declaration-preserved : goal.loop-declaration-preserved
loop-declaration-preserved c =
    let r = c.args.self.now in
    let s = c.loop-declaration.self in
    let h = c.loop-declaration.invariant in
    let same = c.in_ok-place.ensures.same in (
      (same.0 ∙ h.0.0, same.1 ∙ h.0.1),
      declarations_step (outline r) (words r) (outline s) (words s) (knowns r) (knowns s) (knowns c.know_declared.new.self) c.deref-declaration-items.result.now c.loop-declaration.declaration-index _ _ c.loop-declaration.place c.in_ok-place.place h.0.0 h.0.1 refl c.loop-declaration-test.true h.1 c.in_ok-place.ensures.declared,
    )

pub returns-clause-declared : goal.returns-clause-declared
returns-clause-declared c =
    let r = c.args.self.now in
    let s = c.loop-declaration.self in
    let h = c.loop-declaration.invariant in
    rw c.deref-declaration-items.ensures.value at (declarations_all (outline r) (words r) (knowns r) (knowns s) c.deref-declaration-items.result.now c.loop-declaration.declaration-index c.loop-declaration.place c.loop-declaration-test.false (omega (arith, ap length h.0.1)) h.1)
