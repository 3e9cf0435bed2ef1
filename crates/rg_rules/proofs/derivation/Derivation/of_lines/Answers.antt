use Rattle.std.proofs.Common.{◌≡◌, ◌≤◌, length, map, rules, subst, sym}
use Rattle.std.proofs.lemmas.List.{length-map}
use Rattle.rg_words.specs.declared.limits.TheConstants.{MOST_STATEMENTS}
use Rattle.rg_tree.specs.ProgramView.{part}
use Rattle.rg_tree.specs.Numbering.{statements, statements_of_parts}
use Rattle.rg_tree.specs.Lines.{line_tree}
use Rattle.rg_rules.specs.Inner.View.{referred}
use Rattle.rg_rules.specs.Inner.Sizes.{IsSizedInside}
use Rattle.rg_rules.proofs.Sizes.{sized_inside, all_numbered}
use Rattle.rg_rules.proofs.Demands.{derives_of, sizes_within}
use Rattle.rg_rules.proofs.derivation.Derivation.of_lines.Goals as goal

pub sizes_of-requires : goal.sizes_of-requires
sizes_of-requires c =
    let parts = map part c.args.program.now.parts.items in
    let list : map referred c.as_slice.result.now ≡ statements_of_parts parts = search rules in
    all_numbered referred (λ s. length (statements s) ≤ MOST_STATEMENTS) c.as_slice.result.now (λ n s found. sizes_within parts MOST_STATEMENTS c.args.program.now.typed.most_statements n s (rw list at found))

pub first_bad_line-requires-clause-within : goal.first_bad_line-requires-clause-within
first_bad_line-requires-clause-within c n s found =
    let parts = map part c.args.program.now.parts.items in
    let list : map referred c.as_slice-2.result.now ≡ statements_of_parts parts = search rules in
    sizes_within parts MOST_STATEMENTS c.args.program.now.typed.most_statements n s (rw list at found)

pub first_bad_line-requires-clause-sizes : goal.first_bad_line-requires-clause-sizes
first_bad_line-requires-clause-sizes c n s found =
    let parts = map part c.args.program.now.parts.items in
    let list : map referred c.as_slice-2.result.now ≡ statements_of_parts parts = search rules in
    let sizes : c.as_slice-3.result.now ≡ map (λ x. length (statements x)) (statements_of_parts parts) = search rules in
    subst (λ l. IsSizedInside l n s) (sym sizes) (sized_inside parts n s (rw list at found))

pub returns-clause-derives : goal.returns-clause-derives
returns-clause-derives c =
    let list : map referred c.as_slice-2.result.now ≡ statements_of_parts (map part c.args.program.now.parts.items) = search rules in
    let parts = map part c.args.program.now.parts.items in
    let lines = map line_tree c.args.lines.items in
    let derived = c.are_parts_derived.ensures.0 c.if-not-are_parts_derived.false in
    let before = c.in_default.ensures.none (search rules) in
    let before' = rw (list, c.as_slice-4.ensures.value, ← length-map c.args.lines.items line_tree) at before in
    derives_of parts lines before' (rw (c.as_slice-5.ensures.value, c.as_slice-parts.ensures.value) at derived)
