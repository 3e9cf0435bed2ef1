use Rattle.std.proofs.Common.{◌≡◌, ℕ, true, length}
use Rattle.rg_tree.specs.ProgramTrees.{program as program_tree}
use Rattle.rg_accept.specs.Stages.{emitted_program, emitted_lines}
use Rattle.rg_c_plan.specs.Apart.{is_apart}
use Rattle.rg_apart.specs.Laws.{AreTrueAt}
use Rattle.rg_apart.proofs.search.find_apart.Given as goal

-- a flag for each word so far, and where it is set, its conditions are true
abbrev pub invariant-loop-word : goal.invariant-loop-word
invariant-loop-word g l =
    (length l.apart.items ≡ l.word) × ((k : ℕ) → is_apart l.apart.items k ≡ true → AreTrueAt (emitted_program l.emitted) (program_tree l.left) l.erased (emitted_lines l.emitted) k)
