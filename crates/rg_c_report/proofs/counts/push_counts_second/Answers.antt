use Rattle.std.proofs.Common.{◌++◌, codes, string_bytes}
use Rattle.rg_c_report.specs.Words.{counted}
use Rattle.rg_c_report.specs.Counts.{counts_second}
use Rattle.rg_c_report.proofs.Chains.{pushed_then}
use Rattle.rg_c_report.proofs.counts.push_counts_second.Goals as goal

pub returns : goal.returns
unfolding counts_second
returns c =
    let exchanges = counted c.args.counts.now.exchanges (codes " is one compare-and-exchange, ") (codes " are one compare-and-exchange, ") in
    let selects = counted c.args.counts.now.selects (codes " accesses one of several words, ") (codes " access one of several words, ") in
    let sections = counted c.args.counts.now.sections (codes " is a critical section.") (codes " are a critical section.") in
    pushed_then (string_bytes c.args.text.now) exchanges (selects ++ sections) _ _ c.in_ok-push_counted.ensures
    (pushed_then _ selects sections _ _ c.in_ok-push_counted-2.ensures c.in_ok-push_counted-3.ensures)
