-- Uses of names.
use Rattle.std.proofs.Common.{◌≡◌, ◌==◌, ℕ, ◌≤◌, true, sym, refl, List, [], ◌∷◌, length, Result, Ok, Err, IfOk, arith}
use Rattle.std.proofs.lemmas.Bool.{eqb-true}
use Rattle.rg_outline_syntax.specs.declared.span.Span.{Span}
use Rattle.rg_outline_meaning.specs.Names.{Outline, text_of, Sense, Names, IsAmong, IsUnbound, Knows}

-- a list of no element
none_of : (xs : List ℕ) → length xs ≡ 0 → xs ≡ []
none_of [] e = refl
none_of (x ∷ xs) e = absurd (omega (arith, e))

pub nothing_left : (xs : List ℕ) → true ≡ (length xs == 0) → xs ≡ []
nothing_left xs e = none_of xs (eqb-true (length xs) 0 (sym e))

-- what is said of a result by two clauses
pub both : {T E : Type 0} (r : Result T E) (P Q : T → Type 0) → IfOk r P → IfOk r Q → IfOk r (λ x. P x × Q x)
both (Ok x) P Q p q = (p, q)
both (Err e) P Q p q = p

-- a name that is used after its declaration
pub known_here : (o : Outline) (names : Names) (name : Span) (since : ℕ) (s : Sense) → IsAmong names.known (text_of o name) since s → since ≤ name.start → IsUnbound names (text_of o name) → Knows o names name s
known_here o names name since s among later free = ((since, among, later), free)

pub ruleset rules = (known_here)
