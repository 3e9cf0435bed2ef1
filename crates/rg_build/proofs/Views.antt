-- What a step with an answer gives is there.
use Rattle.std.proofs.Common.{◌≡◌, Option, Some, None, IsSomeAnd, option_map}

pub some_view : {A B : Type 0} (view : A → B) (built : Option A) (x : B) → option_map view built ≡ Some x → IsSomeAnd built (λ r. view r ≡ x)
some_view view None x h = cc
some_view view (Some r) x h = cc
