-- clauses that can be satisfied where a condition fails
use Rattle.std.proofs.Common.{◌≡◌, ◌↔◌, ℕ, Bool, true, false, not, List, ◌++◌, refl, sym, ap, ◌∙◌, subst}
use Rattle.std.proofs.lemmas.Bool.{false≢true}
use Rattle.rg_gates.specs.declared.Lit.{Lit}
use Rattle.rg_gates.specs.Circuit.{Circuit, IsCircuit, AreGateValues, lit_value, negation}
use Rattle.rg_gates.specs.Extends.{GatesHold}
use Rattle.rg_gates.proofs.Evaluated.{values_exist}
use Rattle.rg_words.specs.States.{IsState, AgreeOnFixed}
use Rattle.rg_tree.specs.ConditionTrees.{ConditionTree, condition_holds, ConditionHolds}
use Rattle.rg_bits.specs.Inputs.{inputs_of, first_of, second_of, input_bits}
use Rattle.rg_bits.proofs.LiteralsMean.{negation_value}
use Rattle.rg_bits.proofs.Values.{pair_law, length-input_bits}
use Rattle.rg_clauses.specs.ClauseLists.{Cnf, IsUnsatisfiable}
use Rattle.rg_clauses.specs.Encoding.{IsSatisfiable, CanHold}
use Rattle.rg_clauses.specs.Conditions.{CanFail}

not_true : (b : Bool) → not b ≡ true → b ≡ false
not_true true e = absurd (false≢true e)
not_true false e = refl

-- a literal that says over the input bits whether a condition holds
module _ (c : ConditionTree) (g : Circuit) (l : Lit)
    (meaning : (values : List Bool) → GatesHold g values → lit_value values l ≡ condition_holds c (first_of c values) (second_of c values))
  where
    pub fails_at : (values : List Bool) → AreGateValues g values → lit_value values (negation l) ≡ true → condition_holds c (first_of c values) (second_of c values) ≡ false
    fails_at values are e = sym (meaning values (record { gates = are.gates })) ∙ not_true (lit_value values l) (sym (negation_value values l) ∙ e)

    module _ (circuit : IsCircuit g) (inputs : g.inputs ≡ inputs_of c)
        (pairs : (s t : List ℕ) → IsState c.words s → IsState c.words t → AgreeOnFixed c.words s t → (values rest : List Bool) → GatesHold g values → values ≡ input_bits c s t ++ rest → lit_value values l ≡ condition_holds c s t)
      where
        can_fail : CanHold g (negation l) ↔ CanFail c
        can_fail = (
          λ w. (first_of c w.0, second_of c w.0, pair_law c w.0, fails_at w.0 w.1 w.2),
          λ w.
              let bits = input_bits c w.0 w.1 in
              let exist = values_exist g bits circuit (length-input_bits c w.0 w.1 w.2.first w.2.second ∙ sym inputs) in
              let values = bits ++ exist.0 in
              let same = pairs w.0 w.1 w.2.first w.2.second w.2.fixed values exist.0 (record { gates = exist.1.gates }) refl in
              (values, exist.1, negation_value values l ∙ ap not (same ∙ w.3)),
        )

        pub can_be_satisfied : (assertion : Lit) (f : Cnf) → assertion ≡ negation l → IsSatisfiable f.clauses ↔ CanHold g assertion → IsSatisfiable f.clauses ↔ CanFail c
        can_be_satisfied assertion f e iff =
            let P : Lit → Type 0 = λ x. IsSatisfiable f.clauses ↔ CanHold g x in
            let held = subst P e iff in
            (λ s. can_fail.0 (held.0 s), λ w. held.1 (can_fail.1 w))

-- what can't fail holds
holds_or : (b : Bool) → (b ≡ false → ⊥) → b ≡ true
holds_or true h = refl
holds_or false h = absurd (h refl)

pub unsatisfiable_holds : (c : ConditionTree) (f : Cnf) → IsSatisfiable f.clauses ↔ CanFail c → IsUnsatisfiable f.clauses ↔ ConditionHolds c
unsatisfiable_holds c f iff = (
  λ none s t pair. holds_or (condition_holds c s t) (λ e. let found = iff.1 (s, t, pair, e) in none found.0 found.1),
  λ holds values sat. let w = iff.0 (values, sat) in false≢true (sym w.3 ∙ holds w.0 w.1 w.2),
)
