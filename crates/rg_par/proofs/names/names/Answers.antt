use Rattle.std.proofs.Common.{◌∙◌, ap, length, map, rules}
use Rattle.std.proofs.lemmas.List.{length-map}
use Rattle.rg_tree.specs.ProgramView.{specification, part}
use Rattle.rg_par.proofs.Counts.{name_count}
use Rattle.rg_par.proofs.names.names.Goals as goal

pub returns-clause-exact : goal.returns-clause-exact
returns-clause-exact c = search rules

pub returns-clause-count : goal.returns-clause-count
returns-clause-count c =
    let exact = simp length-map at (ap length (returns-clause-exact c)) in
    exact ∙ name_count (specification c.args.program.now.spec) (map part c.args.program.now.parts.items)
