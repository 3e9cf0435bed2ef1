use Rattle.std.proofs.Common.{◌≡◌, ◌++◌, map, drop}
use Rattle.std.specs.String.{string_bytes}
use Rattle.rg_tree.specs.ProgramView.{statement}
use Rattle.rg_c.specs.Operations.{operations_text}
use Rattle.rg_c.specs.View.{page, operation}
use Rattle.rg_c.proofs.operations.push_operations.Given as goal

abbrev pub invariant-loop-operation : goal.invariant-loop-operation
invariant-loop-operation l =
    string_bytes l.text ++ operations_text l.titles.name.now l.titles.part.now (page l.s) (map operation (drop l.operation-index l.operations)) (statement l.body) ≡ string_bytes l.initial.text ++ operations_text l.titles.name.now l.titles.part.now (page l.s) (map operation l.operations) (statement l.body)
