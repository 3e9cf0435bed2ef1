use Rattle.std.proofs.Common.{map}
use Rattle.rg_text.specs.Text.{leaf_of}
use Rattle.rg_resolve.specs.Faults.{plain_faults}
use Rattle.rg_resolve.specs.Derivations.{leaf_number}
use Rattle.rg_resolve.proofs.Lists.{AreDone, items_from}
use Rattle.rg_resolve.proofs.resolve.line.premises_of.Given as goal

abbrev pub invariant-loop-token : goal.invariant-loop-token
invariant-loop-token l =
    let src = l.scope.source.now in
    AreDone leaf_number plain_faults (map (leaf_of src) l.written) (items_from (leaf_of src) l.written l.token-index) l.numbers.items
