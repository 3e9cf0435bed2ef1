-- how calls that build compose
use Rattle.std.proofs.Common.{◌≡◌, ◌≤◌, ◌<◌, Result, Ok, Err, sym, subst, ap, ◌∙◌, arith}
use Rattle.std.specs.Result.{IfOk, IsErr, IsErrAnd}
use Rattle.std.proofs.lemmas.Result.{IfOk-from_err}
use Rattle.rg_words.specs.declared.limits.TheConstants.{MOST_VARIABLES}
use Rattle.rg_gates.specs.declared.GateError.{GateError}
use Rattle.rg_gates.specs.declared.GateError.TheVariants.{TooManyVariables, Memory}
use Rattle.rg_gates.specs.Circuit.{Circuit, variable_count}
use Rattle.rg_gates.specs.Extends.{Extends}
use Rattle.rg_gates.proofs.Growth.{Extends-refl, Extends-trans}
use Rattle.rg_rows.specs.Build.{Build, ◌>>=◌, give, Builds}

same_error : {R : Type 0} (result : Result R GateError) (e f : GateError) → IsErrAnd result (λ x. x ≡ e) → result ≡ Err f → e ≡ f
same_error (Ok x) e f is at = (cc)
same_error (Err x) e f is at = (cc)

-- a call failed, and more was to be built after it
pub stopped : {R S A B : Type 0} {first : Build A} {build : Build B} {a : S → A} {b : R → B} {IsA : Circuit → A → Type 0} {IsB : Circuit → B → Type 0} {old new : Circuit} {e : GateError} (result : Result R GateError)
    → Builds first a IsA old new (Err e) → IsErr result × IsErrAnd result (λ x. x ≡ e) → variable_count (first old).1 ≤ variable_count (build old).1 → Builds build b IsB old new result
stopped {R} {S} {A} {B} {first} {build} {a} {b} {IsA} {IsB} {old} {new} {e} result h is more = record {
  built = IfOk-from_err result _ is.0;
  within = IfOk-from_err result _ is.0;
  extends = h.extends;
  full = λ at. let past = h.full (ap (λ (x : GateError). let r : Result S GateError = Err x in r) (same_error result e TooManyVariables is.1 at)) in omega arith;
}

-- a first part is built, and the rest on what it gave
pub went_on : {R A B : Type 0} (first : Build A) (rest : A → Build B) {b : R → B} {IsB : Circuit → B → Type 0} {old mid new : Circuit} {x : A} {result : Result R GateError}
    → first old ≡ (x, mid) → Extends old mid → Builds (rest x) b IsB mid new result → Builds (first >>= rest) b IsB old new result
went_on {R} {A} {B} first rest {b} {IsB} {old} {mid} {new} {x} {result} made more h =
    let same = ap (λ (p : A × Circuit). rest p.0 p.1) made in
    record {
      built = let P : B × Circuit → Type 0 = λ p. IfOk result (λ r. p ≡ (b r, new)) in subst P (sym same) h.built;
      within = h.within;
      extends = Extends-trans more h.extends;
      full = λ at. let P : B × Circuit → Type 0 = λ p. MOST_VARIABLES < variable_count p.1 in subst P (sym same) (h.full at);
    }

-- nothing more is built
pub gave : {R B : Type 0} {b : R → B} {IsB : Circuit → B → Type 0} {c : Circuit} {x : B} (r : R) → b r ≡ x → IsB c (b r) → Builds (give x) b IsB c c (Ok r)
gave {R} {B} {b} {IsB} {c} {x} r e h = record { built = ap (λ (y : B). let p : B × Circuit = (y, c) in p) (sym e); within = h; extends = Extends-refl c; full = λ at. (cc) }

-- there was no memory
pub ran_out : {R B : Type 0} {build : Build B} {b : R → B} {IsB : Circuit → B → Type 0} {old new : Circuit} (result : Result R GateError)
    → IsErr result × IsErrAnd result (λ x. x ≡ Memory) → Extends old new → Builds build b IsB old new result
ran_out {R} {B} {build} {b} {IsB} {old} {new} result is h = record {
  built = IfOk-from_err result _ is.0;
  within = IfOk-from_err result _ is.0;
  extends = h;
  full = λ at. let same = same_error result Memory TooManyVariables is.1 at in (cc);
}

-- where nothing is built after it
pub same_count : (c : Circuit) → variable_count c ≤ variable_count c
same_count c = omega arith

-- the same circuit, where the answer is seen otherwise
pub seen_as : {R S B : Type 0} {build : Build B} {b : R → B} {d : S → B} {IsB : Circuit → B → Type 0} {old new : Circuit} {r : R} (q : S) → d q ≡ b r → Builds build b IsB old new (Ok r) → Builds build d IsB old new (Ok q)
seen_as {R} {S} {B} {build} {b} {d} {IsB} {old} {new} {r} q e h = record {
  built = h.built ∙ ap (λ (y : B). let p : B × Circuit = (y, new) in p) (sym e);
  within = subst (IsB new) (sym e) h.within;
  extends = h.extends;
  full = λ at. (cc);
}
