use Rattle.std.proofs.Common.{◌+◌, ◌-◌, List, length, map, drop, rules, subst, sym, arith}
use Rattle.std.proofs.lemmas.List.{take_all, length-drop}
use Rattle.rg_words.specs.Layout.{widths_of}
use Rattle.rg_apart.specs.Inner.View.{visit, AreTypedVisits}
use Rattle.rg_apart.specs.declared.visits.Visit.{Visit}
use Rattle.rg_apart.proofs.TypedVisits.{visit_typed, visits_from}
use Rattle.rg_apart.proofs.conditions.among.Goals as goal

pub add_pairs-requires-clause-first : goal.add_pairs-requires-clause-first
add_pairs-requires-clause-first c =
    visit_typed (widths_of c.args.layout.now) c.args.list.now c.loop-i.i c.index-list-i.result c.requires (search rules) (search rules)

pub add_pairs-requires-clause-list : goal.add_pairs-requires-clause-list
add_pairs-requires-clause-list c =
    let list = c.args.list.now in
    let rest = drop (c.loop-i.i + 1) list in
    subst (λ (vs : List Visit). AreTypedVisits (widths_of c.args.layout.now) (map visit vs)) (sym (take_all (length list - (c.loop-i.i + 1)) rest (omega (arith, length-drop (c.loop-i.i + 1) list))))
    (visits_from (widths_of c.args.layout.now) list (c.loop-i.i + 1) c.requires)
