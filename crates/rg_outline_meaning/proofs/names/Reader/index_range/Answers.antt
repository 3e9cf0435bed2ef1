use Rattle.std.proofs.Common.{◌≡◌, pos, SFits, rules, arith}
use Rattle.std.specs.Int.{w128}
use Rattle.std.proofs.lemmas.Int.{to_z-of_z, ints}
use Rattle.rg_outline_meaning.proofs.Placed.{at_place}
use Rattle.rg_outline_meaning.proofs.names.Reader.index_range.Goals as goal

pub returns : goal.returns
returns c =
    let found = c.in-Some.ensures.lookup in
    let range = c.in-Some.range.now in
    let least : SFits w128 c.in_ok-first.first = search rules in
    let most : SFits w128 c.in_ok-last.last = search rules in
    rw (to_z-of_z w128 c.in_ok-first.first least, to_z-of_z w128 c.in_ok-last.last most) (record {
      first = range.first;
      last = range.last;
      but = range.without;
      span = range.span;
      range = rw c.deref.ensures.value at (at_place c.deref.result.now c.args.index range found.1 found.3.0);
      from = rw c.so_far-names.ensures at c.in_ok-first.ensures;
      to = rw c.so_far-names.ensures at c.in_ok-last.ensures;
      whole_range = c.in_ok-want_none.ensures;
      low = omega (arith, ints);
      some = omega (arith, ints);
    })
