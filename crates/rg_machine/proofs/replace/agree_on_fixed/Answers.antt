use Rattle.std.proofs.Common.{◌≡◌, ◌<◌, true, length, refl, ap, add-one, arith, rules}
use Rattle.std.proofs.lemmas.List.{length-map}
use Rattle.rg_machine.proofs.Replayed.{agree_at, agree_end}
use Rattle.rg_machine.proofs.replace.agree_on_fixed.Goals as goal

pub returns-then-not-same_if : goal.returns-then-not-same_if
returns-then-not-same_if c =
    let size = length-map c.args.layout.now (λ w. w.width) in
    let less : c.loop-word.word < length c.args.layout.now = search rules in
    let before = ap (λ ws. length ws) c.requires.before in
    let after = ap (λ ws. length ws) c.requires.after in
    let split = agree_at c.args.layout.now c.args.before.now.values c.args.after.now.values c.loop-word.word less (omega (arith, c.facts.ensures.widths, before, size, less)) (omega (arith, c.facts-2.ensures.widths, after, size, less)) in (
      (λ e. cc e),
      (λ agree.
          let here = (split.0 (c.loop-word.invariant.needed agree)).0 in
          let same = rw (← c.is_fixed.ensures, ← c.get.ensures.exact, ← c.get-in-loop-word.ensures.exact) at here in
          let reported = c.same_if.ensures.1 same in
          search (rules, reported, c.if-not-same_if.true)),
    )

pub loop-word-preserved : goal.loop-word-preserved
loop-word-preserved c =
    let size = length-map c.args.layout.now (λ w. w.width) in
    let less : c.loop-word.word < length c.args.layout.now = search rules in
    let before = ap (λ ws. length ws) c.requires.before in
    let after = ap (λ ws. length ws) c.requires.after in
    let split = agree_at c.args.layout.now c.args.before.now.values c.args.after.now.values c.loop-word.word less (omega (arith, c.facts.ensures.widths, before, size, less)) (omega (arith, c.facts-2.ensures.widths, after, size, less)) in
    let reported : c.same_if.result ≡ true = search (rules, c.if-not-same_if.false) in
    let same = rw (c.is_fixed.ensures, c.get.ensures.exact, c.get-in-loop-word.ensures.exact) at (c.same_if.ensures.0 reported) in
    record {
      enough = λ a. c.loop-word.invariant.enough (split.1 (same, rw (add-one c.loop-word.word) at a));
      needed = λ a. rw (add-one c.loop-word.word) (split.0 (c.loop-word.invariant.needed a)).1;
    }

pub returns : goal.returns
returns c =
    ((λ e. c.loop-word.invariant.enough (agree_end c.args.layout.now _ _ c.loop-word.word (search rules))), (λ a. refl))
