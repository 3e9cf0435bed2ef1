use Rattle.std.proofs.Common.{◌≡◌, length, map}
use Rattle.rg_syntax.specs.Written.{declared_word}
use Rattle.rg_resolve.proofs.Declared.{IsDeclaredSoFar, declared_from}
use Rattle.rg_resolve.proofs.declare.declare.Given as goal

abbrev pub invariant-loop-declaration : goal.invariant-loop-declaration
invariant-loop-declaration l = record {
  count : length l.layout ≡ l.declaration-index;
  so_far : IsDeclaredSoFar (map (declared_word l.source) l.declarations) (declared_from l.source l.declarations l.declaration-index) l.layout;
}
