-- the lemmas by which calls compose
use Rattle.rg_gates.specs.declared.Lit.{Lit}
use Rattle.std.proofs.Common.{◌≤◌, Bool, arith}
use Rattle.rg_gates.specs.Circuit.{Circuit, variable_count}
use Rattle.rg_gates.proofs.Growth.{Extends-refl, Extends-trans, IsIn-extends, IsIn-negation}
use Rattle.rg_gates.specs.And.{and_of}
use Rattle.rg_rows.specs.Build.{◌>>=◌}
use Rattle.rg_rows.specs.Literals.{or_of}
use Rattle.rg_rows.specs.Rows.{carry_of, next_of}
use Rattle.rg_rows.proofs.Means.{grows-means}
use Rattle.rg_rows.proofs.LiteralsMean.{and-grows, or-grows, xor-grows, pick-grows}
use Rattle.rg_rows.proofs.RowsMean.{carry-means, next-means}

pub carry-grows : (a b x d : Lit) (c : Circuit) → variable_count c ≤ variable_count (carry_of a b x d c).1
carry-grows a b x d c = grows-means (carry_of a b x d) _ (carry-means a b x d) c

pub next-grows : (more : Bool) (a b x d : Lit) (c : Circuit) → variable_count c ≤ variable_count (next_of more a b x d c).1
next-grows more a b x d c = grows-means (next_of more a b x d) _ (next-means more a b x d) c

-- a conjunction, and a disjunction with it
pub both-grows : (a b l : Lit) (c : Circuit) → variable_count c ≤ variable_count ((and_of a b >>= λ r. or_of l r) c).1
both-grows a b l c = let r = and_of a b c in omega (arith, and-grows a b c, or-grows l r.0 r.1)

pub ruleset steps = (Extends-refl, Extends-trans, IsIn-extends, IsIn-negation, and-grows, or-grows, xor-grows, pick-grows, carry-grows, next-grows)
