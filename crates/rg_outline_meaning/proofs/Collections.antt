-- What is made of instances, one by one.
use Rattle.std.proofs.Common.{◌≡◌, ◌≢◌, List, [], ◌∷◌, ◌++◌, Option, Some, None}
use Rattle.rg_outline_syntax.specs.declared.written.Binder.{Binder}
use Rattle.rg_outline_meaning.specs.Meanings.{Meaning}
use Rattle.rg_outline_meaning.specs.Expressions.{IsCollected, of_none, of_one, of_more}
use Rattle.rg_outline_meaning.specs.Inner.{IsCollectedWith, of_all}

-- what the instances so far make, if there are any
abbrev pub IsCollectedSoFar : Binder → List Meaning → Option Meaning → Type 0
IsCollectedSoFar b ms None = ms ≡ []
IsCollectedSoFar b ms (Some m) = (ms ≢ []) × IsCollected b ms m

has_last : (ms : List Meaning) (n : Meaning) → ms ++ n ∷ [] ≢ []
has_last [] n = λ p. cc p
has_last (m ∷ ms) n = λ p. cc p

pub one_more : (b : Binder) (ms : List Meaning) (made : Option Meaning) (next m : Meaning) → IsCollectedSoFar b ms made → IsCollectedWith b made next m → IsCollectedSoFar b (ms ++ next ∷ []) (Some m)
one_more b ms None next m so is = (has_last ms next, rw (so, is) (of_one next))
one_more b ms (Some before) next m so is = (has_last ms next, of_more ms before next m so.0 so.1 is)

pub all_together : (b : Binder) (ms : List Meaning) (made : Option Meaning) (m : Meaning) → IsCollectedSoFar b ms made → m ≡ of_all b made → IsCollected b ms m
all_together b ms None m so is = rw (so, is) of_none
all_together b ms (Some n) m so is = rw is so.1
