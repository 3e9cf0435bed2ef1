use Rattle.std.proofs.Common.{◌≡◌, ◌++◌, map, take, drop, string_bytes}
use Rattle.rg_tree.specs.ProgramView.{part}
use Rattle.rg_code.specs.Code.{program_code}
use Rattle.rg_code.specs.BlockView.{blocks}
use Rattle.rg_code.proofs.compile.part_codes.Given as goal

abbrev pub invariant-loop-part : goal.invariant-loop-part
invariant-loop-part l = record {
  names : map (λ p. string_bytes p.name) l.codes.items ≡ map (λ q. string_bytes q.name) (take l.part-index l.parts);
  so_far : map blocks l.codes.items ++ program_code (map part (drop l.part-index l.parts)) ≡ program_code (map part l.parts);
}
