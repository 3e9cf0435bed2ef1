use Rattle.std.proofs.Common.{arith, length-append}
use Rattle.std.proofs.lemmas.Result.{err_from_is_err_and}
use Rattle.rg_resolve.proofs.Declared.{so_far_start, so_far_words, so_far_faultless, declared_from-start, declared_from-end, declared_step, declared_refused}
use Rattle.rg_resolve.proofs.Layouts.{refused_of_no_layout}
use Rattle.rg_resolve.proofs.declare.declare.Goals as goal

pub loop-declaration-init : goal.loop-declaration-init
loop-declaration-init c = rw c.new-layout.ensures (record { count = omega arith; so_far = rw declared_from-start (so_far_start _) })

pub returns-in_err-declare_word-clause-fault : goal.returns-in_err-declare_word-clause-fault
returns-in_err-declare_word-clause-fault c =
    let p = err_from_is_err_and c.from_residual.result c.from_residual.ensures.1 in
    rw (p.1, p.2) (declared_refused _ _ _ _ _ c.loop-declaration-test.true c.loop-declaration.invariant.so_far c.args.file _ c.in_err-declare_word.ensures.fault)

pub returns-in_err-declare_word-clause-refused : goal.returns-in_err-declare_word-clause-refused
returns-in_err-declare_word-clause-refused c =
    let p = err_from_is_err_and c.from_residual.result c.from_residual.ensures.1 in
    rw (p.1, p.2) (refused_of_no_layout _ c.args.file _ (declared_refused _ _ _ _ _ c.loop-declaration-test.true c.loop-declaration.invariant.so_far c.args.file _ c.in_err-declare_word.ensures.fault))

pub loop-declaration-preserved : goal.loop-declaration-preserved
loop-declaration-preserved c = record {
  count = rw (c.in_ok-declare_word.ensures.word, length-append) (omega (arith, c.loop-declaration.invariant.count));
  so_far = declared_step _ _ _ _ _ c.loop-declaration-test.true c.loop-declaration.invariant.so_far _ c.in_ok-declare_word.ensures.word c.in_ok-declare_word.ensures.faultless;
}

pub returns-clause-words : goal.returns-clause-words
returns-clause-words c =
    let rest = rw (declared_from-end c.args.source.now c.args.declarations.now c.loop-declaration.declaration-index c.loop-declaration-test.false) at c.loop-declaration.invariant.so_far in
    so_far_words _ _ rest

pub returns-clause-faultless : goal.returns-clause-faultless
returns-clause-faultless c =
    let rest = rw (declared_from-end c.args.source.now c.args.declarations.now c.loop-declaration.declaration-index c.loop-declaration-test.false) at c.loop-declaration.invariant.so_far in
    so_far_faultless _ _ rest
