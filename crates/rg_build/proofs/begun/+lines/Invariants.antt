use Rattle.std.proofs.Common.{◌≡◌, ℕ, ◌*◌, ◌+◌, List, [], ◌++◌, map, drop}
use Rattle.std.specs.List.{flat_map}
use Rattle.rg_syntax.specs.Written.{statement, listed}
use Rattle.rg_syntax.proofs.Sizes.{statement_size, block_size}
use Rattle.rg_build.specs.Inner.DraftLines.{statement_lines}
use Rattle.rg_build.proofs.begun.+lines.Given as goal

abbrev pub decreases-add_statement : goal.decreases-add_statement
decreases-add_statement l = 2 * statement_size (statement [] l.s.now)

abbrev pub decreases-add_block : goal.decreases-add_block
decreases-add_block l = 2 * block_size (listed (map (statement []) l.items.now)) + 1

abbrev pub decreases-add_items : goal.decreases-add_items
decreases-add_items l = 2 * block_size (listed (map (statement []) l.items.now))

abbrev pub invariant-add_items-loop-one : goal.invariant-add_items-loop-one
invariant-add_items-loop-one l =
    (src : List ℕ) → l.lines.items ++ flat_map (λ s. statement_lines (statement src s)) (drop l.one-index l.items)
    ≡ l.initial.lines.items ++ flat_map (λ s. statement_lines (statement src s)) l.items
