use Rattle.std.proofs.Common.{◌+◌, ◌≤◌, ◌++◌, map, drop, length, rules, arith, subst, length-append}
use Rattle.rg_words.specs.declared.limits.TheConstants.{MOST_STATEMENTS}
use Rattle.rg_tree.specs.Numbering.{statements, statements_of_parts}
use Rattle.rg_tree.specs.ProgramView.{part, statement}
use Rattle.rg_rules.proofs.Find.{here}
use Rattle.rg_rules.proofs.fits.are_parts_derived.Goals as goal

pub size-number-requires : goal.size-number-requires
size-number-requires c =
    let e = here c.args.parts.now c.loop-part.part-index c.part-item.result (search rules) (search rules) in
    let own = statements (statement c.part-item.result.body) in
    let others = statements_of_parts (map part (drop (c.loop-part.part-index + 1) c.args.parts.now)) in
    let within : c.loop-part.number + length (own ++ others) ≤ MOST_STATEMENTS + 1 = subst (λ ps. c.loop-part.number + length (statements_of_parts (map part ps)) ≤ MOST_STATEMENTS + 1) e c.loop-part.invariant.within in
    let one : 1 ≤ c.loop-part.number = c.loop-part.invariant.some in
    omega (arith, within, length-append own others)
