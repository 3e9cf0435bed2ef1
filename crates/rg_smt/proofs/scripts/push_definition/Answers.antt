use Rattle.std.proofs.Common.{◌+◌, ◌++◌, codes, decimal, length, map, ℕ, List}
use Rattle.rg_tree.specs.ConditionTrees.{assignment}
use Rattle.rg_tree.specs.Printed.{name_text}
use Rattle.rg_tree.specs.View.{expression}
use Rattle.rg_smt.specs.Formulas.{value_text}
use Rattle.rg_smt.specs.Scripts.{sort_text}
use Rattle.rg_smt.specs.Symbols.{done}
use Rattle.rg_smt.proofs.Pushed.{then_pushed}
use Rattle.rg_smt.proofs.scripts.push_definition.Goals as goal

pub returns : goal.returns
returns c =
    let words = c.args.layout.now in
    let a = c.args.a.now in
    let before = done (map assignment c.args.act.now) in
    let name = name_text words a.word in
    let number : List ℕ = decimal (length (map assignment c.args.act.now) + 1) in
    let sort = sort_text words a.word in
    let value = value_text words before before (expression a.value) in
    let from_sort = sort ++ (codes " " ++ (value ++ codes ")\n")) in
    let from_number = number ++ (codes "| () " ++ from_sort) in
    then_pushed (codes "(define-fun |") (name ++ (codes "@" ++ from_number)) _ _ _ c.in_ok-push_str.ensures.bytes
    (then_pushed name (codes "@" ++ from_number) _ _ _ (rw c.name_of.ensures at c.in_ok-push_str-2.ensures.bytes)
    (then_pushed (codes "@") from_number _ _ _ c.in_ok-push_str-3.ensures.bytes
    (then_pushed number (codes "| () " ++ from_sort) _ _ _ c.in_ok-push_next_number.ensures
    (then_pushed (codes "| () ") from_sort _ _ _ c.in_ok-push_str-4.ensures.bytes
    (then_pushed sort (codes " " ++ (value ++ codes ")\n")) _ _ _ c.in_ok-push_sort.ensures
    (then_pushed (codes " ") (value ++ codes ")\n") _ _ _ c.in_ok-push_str-5.ensures.bytes
    (then_pushed value (codes ")\n") _ _ _ c.in_ok-push_value.ensures c.in_ok-push_str-6.ensures.bytes)))))))
