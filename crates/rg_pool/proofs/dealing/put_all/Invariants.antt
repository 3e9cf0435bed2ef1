use Rattle.std.proofs.Common.{vec_len}
use Rattle.std.specs.Prelude.{Contains}
use Rattle.rg_pool.specs.Inner.Deals.{Fills}
use Rattle.rg_pool.proofs.dealing.put_all.Given as goal

-- what is put so far, and what is left
abbrev pub invariant-loop-index : goal.invariant-loop-index
invariant-loop-index g l = record {
  filled : Fills l.fn.answers.items l.fn.places.items l.places.items;
  left : (a : _) → Contains l.answers.items a → Contains l.fn.answers.items a;
}

abbrev pub decreases-loop-index : goal.decreases-loop-index
decreases-loop-index g l = vec_len l.answers
