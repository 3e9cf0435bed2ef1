use Rattle.std.proofs.Common.{◌++◌, codes}
use Rattle.rg_smt.specs.Scripts.{sort_text}
use Rattle.rg_smt.specs.Symbols.{symbol}
use Rattle.rg_smt.specs.Inner.View.{reading}
use Rattle.rg_smt.proofs.Pushed.{then_pushed}
use Rattle.rg_smt.proofs.scripts.push_declaration.Goals as goal

pub returns : goal.returns
returns c =
    let name = symbol c.args.layout.now (reading c.args.moment) c.args.word in
    let sort = sort_text c.args.layout.now c.args.word in
    then_pushed (codes "(declare-fun ") (name ++ (codes " () " ++ (sort ++ codes ")\n"))) _ _ _ c.in_ok-push_str.ensures.bytes
    (then_pushed name (codes " () " ++ (sort ++ codes ")\n")) _ _ _ c.in_ok-push_symbol.ensures
    (then_pushed (codes " () ") (sort ++ codes ")\n") _ _ _ c.in_ok-push_str-2.ensures.bytes
    (then_pushed sort (codes ")\n") _ _ _ c.in_ok-push_sort.ensures c.in_ok-push_str-3.ensures.bytes)))
