use Rattle.std.proofs.Common.{◌++◌, codes, string_bytes}
use Rattle.std.specs.Fmt.{decimal}
use Rattle.rg_c_report.specs.Words.{counted}
use Rattle.rg_c_report.specs.Counts.{counts_first}
use Rattle.rg_c_report.proofs.Chains.{pushed_then}
use Rattle.rg_c_report.proofs.counts.push_counts_first.Goals as goal

pub returns : goal.returns
unfolding counts_first
returns c =
    let steps = decimal c.args.counts.now.steps in
    let direct = counted c.args.counts.now.direct (codes " meets no other part, ") (codes " meet no other part, ") in
    let loads = counted c.args.counts.now.loads (codes " is one load, ") (codes " are one load, ") in
    let stores = counted c.args.counts.now.stores (codes " is one store,") (codes " are one store,") in
    pushed_then (string_bytes c.args.text.now) (codes "Steps: ") (steps ++ (codes ". " ++ (direct ++ (loads ++ stores)))) _ _ c.in_ok-push_str.ensures.bytes
    (pushed_then _ steps (codes ". " ++ (direct ++ (loads ++ stores))) _ _ c.in_ok-push_number.ensures
    (pushed_then _ (codes ". ") (direct ++ (loads ++ stores)) _ _ c.in_ok-push_str-2.ensures.bytes
    (pushed_then _ direct (loads ++ stores) _ _ c.in_ok-push_counted.ensures
    (pushed_then _ loads stores _ _ c.in_ok-push_counted-2.ensures c.in_ok-push_counted-3.ensures))))
