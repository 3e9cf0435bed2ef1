use Rattle.std.proofs.Common.{◌<◌, All, Some}
use Rattle.rg_pool.proofs.dealing.take_turns.Given as goal

abbrev pub invariant-loop : goal.invariant-loop
invariant-loop g l = All (λ a. (a.0 < l.count) × goal.F-post g l.f a.0 (Some a.1)) l.answers.items
