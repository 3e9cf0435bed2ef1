-- What the connectives build on two literals.
use Rattle.rg_gates.specs.declared.Lit.{Lit}
use Rattle.rg_gates.specs.Circuit.{negation}
use Rattle.rg_gates.specs.And.{and_of}
use Rattle.rg_rows.specs.Build.{Build, ◌>>=◌, give}

-- a or b
unfoldable pub or_of : Lit → Lit → Build Lit
or_of a b = do
  c ← and_of (negation a) (negation b)
  give (negation c)

-- exactly one of a and b
unfoldable pub xor_of : Lit → Lit → Build Lit
xor_of a b = do
  p ← and_of a (negation b)
  q ← and_of (negation a) b
  or_of p q

-- a where c is true, else b
unfoldable pub pick_of : Lit → Lit → Lit → Build Lit
pick_of c a b = do
  p ← and_of c a
  q ← and_of (negation c) b
  or_of p q

-- b, or not a
unfoldable pub implies_of : Lit → Lit → Build Lit
implies_of a b = do
  c ← and_of a (negation b)
  give (negation c)

-- a and b are the same
unfoldable pub iff_of : Lit → Lit → Build Lit
iff_of a b = do
  x ← xor_of a b
  give (negation x)
