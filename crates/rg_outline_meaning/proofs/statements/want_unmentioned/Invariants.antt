use Rattle.std.proofs.Common.{◌≡◌, false, map, take, All}
use Rattle.rg_tree.specs.View.{expression}
use Rattle.rg_outline_meaning.specs.Members.{mentions}
use Rattle.rg_outline_meaning.specs.View.{candidate}
use Rattle.rg_outline_meaning.proofs.statements.want_unmentioned.Given as goal

-- it mentions none of the words so far
abbrev pub invariant-loop-member : goal.invariant-loop-member
invariant-loop-member l = All (λ m. mentions m.word (expression l.value) ≡ false) (map candidate (take l.member-index l.members))
