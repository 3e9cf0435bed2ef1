use Rattle.std.proofs.Common.{◌≡◌, Bool, false, List, length, subst, sym, Option}
use Rattle.std.specs.Prelude.{◌↔◌}
use Rattle.rg_words.specs.States.{Valuation, IsPair}
use Rattle.rg_tree.specs.ConditionTrees.{ConditionTree, condition_holds, ConditionHolds}
use Rattle.rg_bits.specs.Inputs.{first_of, second_of, state_of, own_second}
use Rattle.rg_clauses.specs.ClauseLists.{Cnf, Satisfies, IsUnsatisfiable, value_at}
use Rattle.rg_clauses.specs.Conditions.{clauses_of_condition}
use Rattle.rg_hints.specs.Lines.{Section}
use Rattle.rg_hints.specs.Verdict.{IsClosed}
use Rattle.rg_find.specs.Judged.{FailsAt}

-- closed lines over a condition's clauses show that it is true
pub condition_proved : (c : ConditionTree) (f : Cnf) (lines : Section) → f ≡ clauses_of_condition c → (IsUnsatisfiable f.clauses ↔ ConditionHolds c)
    → (lines.given ≡ length f.clauses) × IsClosed f.clauses lines × IsUnsatisfiable f.clauses
    → (lines.given ≡ length (clauses_of_condition c).clauses) × IsClosed (clauses_of_condition c).clauses lines × ConditionHolds c
condition_proved c f lines is both found =
    let P : Cnf → Type 0 = λ g. (lines.given ≡ length g.clauses) × IsClosed g.clauses lines in
    let moved = subst P is (found.0, found.1) in
    (moved.0, moved.1, both.0 found.2)

-- values that satisfy them are the bits of two states at which it fails
pub condition_refuted : (c : ConditionTree) (f : Cnf) (values seen : List Bool) (first : Valuation) (second : Option Valuation) → seen ≡ values
    → ((v : List Bool) → length v ≡ f.variables → Satisfies (value_at v) f.clauses → condition_holds c (first_of c v) (second_of c v) ≡ false)
    → (length values ≡ f.variables) × Satisfies (value_at values) f.clauses
    → first ≡ state_of c.words (first_of c seen) → second ≡ own_second c.second c.words (second_of c seen) → IsPair c.words (first_of c seen) (second_of c seen)
    → FailsAt c first second
condition_refuted c f values seen first second is fails found first_is second_is pair =
    let P : List Bool → Type 0 = λ v. condition_holds c (first_of c v) (second_of c v) ≡ false in
    record {
      before = first_of c seen;
      after = second_of c seen;
      pair = pair;
      fails = subst P (sym is) (fails values found.0 found.1);
      first_is = first_is;
      second_is = second_is;
    }
