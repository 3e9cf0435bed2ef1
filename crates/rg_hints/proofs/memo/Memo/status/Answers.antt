use Rattle.std.proofs.Common.{sym, subst, Option, IfSome, ℤ}
use Rattle.std.specs.Global.{Global}
use Rattle.std.specs.declared.vec.Vec.{Vec}
use Rattle.rg_hint_lines.specs.Lines.{IsHintLiteral}
use Rattle.rg_hints.specs.Inner.Memo.{HasSame}
use Rattle.rg_hints.proofs.MemoSteps.{status_same, all_same}
use Rattle.rg_hints.proofs.memo.Memo.status.Goals as goal

pub status_under-requires-in-Some : goal.status_under-requires-in-Some
status_under-requires-in-Some g c =
    let P : Option (Vec ℤ Global) → Type 0 = λ o. IfSome o (λ v. HasSame c.args.clause.now v.items) in
    let same : HasSame c.args.clause.now c.in-Some.copy.now.items = subst P (sym c.in-Some.ensures.value) c.in_ok-copy.ensures.copied.0 in
    rw c.deref.ensures.value (all_same IsHintLiteral c.args.clause.now c.in-Some.copy.now.items same c.requires.literals)

pub returns-in-Some-clause-status : goal.returns-in-Some-clause-status
returns-in-Some-clause-status g c =
    let P : Option (Vec ℤ Global) → Type 0 = λ o. IfSome o (λ v. HasSame c.args.clause.now v.items) in
    let same : HasSame c.args.clause.now c.in-Some.copy.now.items = subst P (sym c.in-Some.ensures.value) c.in_ok-copy.ensures.copied.0 in
    status_same (g.S.LiteralSet.literals c.args.set.now) c.args.clause.now c.deref.result.now (rw c.deref.ensures.value same) c.status_under-in-Some.result c.status_under-in-Some.ensures
