use Rattle.std.proofs.Common.{◌≡◌, ◌++◌, ◌+◌, map, drop}
use Rattle.rg_tree.specs.Statements.{PartTree}
use Rattle.rg_tree.specs.ProgramView.{part}
use Rattle.rg_c_plan.specs.Accesses.{steps, part_access}
use Rattle.rg_c_report.specs.Inner.Party.{party}
use Rattle.rg_c_report.specs.Parties.{party_of}
use Rattle.rg_c_report.proofs.parties.parties.Given as goal

-- those so far, and those of the rest
abbrev pub invariant-loop-part : goal.invariant-loop-part
invariant-loop-part l = record {
  list : map party l.list.items ++ map (party_of l.word) (map part (drop l.part-index l.part-items)) ≡ map (party_of l.word) (map part l.part-items);
  known : drop l.place l.known.items ≡ map (λ (p : PartTree). part_access l.word (steps p.body)) (map part (drop l.part-index l.part-items));
  place : l.place ≡ l.part-index + 1;
}
