use Rattle.std.proofs.Common.{◌≡◌, ◌<◌, ◌+◌, drop, length, true, false, sym, arith}
use Rattle.rg_erase.specs.Erased.{first_free}
use Rattle.rg_erase.proofs.Loops.{first_here}
use Rattle.rg_erase.proofs.words.first_free.Goals as goal

pub returns-then-not-is_fixed : goal.returns-then-not-is_fixed
returns-then-not-is_fixed c =
    let inv : c.loop-word.word + first_free (drop c.loop-word.word c.args.layout.now) ≡ first_free c.args.layout.now = c.loop-word.invariant in
    let less : c.loop-word.word < length c.args.layout.now = omega (arith, c.loop-word-test.true, c.len-word-end.ensures.count) in
    let here = first_here c.args.layout.now c.loop-word.word false less (sym c.if-not-is_fixed.ensures) in
    omega (arith, inv, here)

pub loop-word-preserved : goal.loop-word-preserved
loop-word-preserved c =
    let inv : c.loop-word.word + first_free (drop c.loop-word.word c.args.layout.now) ≡ first_free c.args.layout.now = c.loop-word.invariant in
    let less : c.loop-word.word < length c.args.layout.now = omega (arith, c.loop-word-test.true, c.len-word-end.ensures.count) in
    let here = first_here c.args.layout.now c.loop-word.word true less (sym c.if-not-is_fixed.ensures) in
    let more : c.loop-word.word + 1 + first_free (drop (c.loop-word.word + 1) c.args.layout.now) ≡ first_free c.args.layout.now = omega (arith, inv, here) in
    more
