-- The clauses of a condition.
use Rattle.std.specs.Prelude.{◌≡◌, ℕ, false, List, []}
use Rattle.rg_gates.specs.declared.Lit.{Lit}
use Rattle.rg_gates.specs.Circuit.{Circuit, negation}
use Rattle.rg_words.specs.States.{IsPair}
use Rattle.rg_tree.specs.ConditionTrees.{ConditionTree, condition_holds}
use Rattle.rg_bits.specs.Inputs.{inputs_of}
use Rattle.rg_bits.specs.Conditions.{condition_of}
use Rattle.rg_clauses.specs.ClauseLists.{Cnf}
use Rattle.rg_clauses.specs.Encoding.{encoding}

-- the literal that is true where the condition holds, and its circuit over the input bits
abbrev pub literal_and_circuit : ConditionTree → Lit × Circuit
literal_and_circuit c = condition_of c (record { inputs = inputs_of c; gates = [] })

-- the clauses of that circuit, and the assertion that the condition fails
abbrev pub clauses_of_condition : ConditionTree → Cnf
clauses_of_condition c = encoding (literal_and_circuit c).1 (negation (literal_and_circuit c).0)

-- the condition fails at some two states that agree on the fixed words
abbrev pub CanFail : ConditionTree → Type 0
CanFail c = (s : List ℕ) × (t : List ℕ) × IsPair c.words s t × (condition_holds c s t ≡ false)
