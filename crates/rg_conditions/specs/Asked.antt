-- The conditions that a line of a derivation asks, by its rule.
use Rattle.std.specs.Prelude.{ℕ, List, [], ◌∷◌, Option, Some, None}
use Rattle.rg_tree.specs.Trees.{Proposition, Assignment, negation}
use Rattle.rg_tree.specs.Statements.{Statement, assign, await, loop, Specification}
use Rattle.rg_tree.specs.Programs.{nth}
use Rattle.rg_tree.specs.RuleConditions.{RuleCondition, reaches, makes, keeps, allows}
use Rattle.rg_tree.specs.declared.line.Rule.{Rule}
use Rattle.rg_tree.specs.declared.line.Rule.TheVariants.{Basic, Atomic, If, Loop, Conseq}
use Rattle.rg_tree.specs.Lines.{LineTree}

-- of a line whose statement makes one step, the assignments, where the given formulas hold
abbrev pub step_conditions : Specification → List Proposition → List Assignment → List RuleCondition
step_conditions l given act = reaches given act l.post ∷ makes given act l.guar ∷ keeps l.pre l.rely ∷ keeps l.post l.rely ∷ []

-- the conditions of a line of an `if`
abbrev pub choice_conditions : Specification → List RuleCondition
choice_conditions l = keeps l.pre l.rely ∷ []

-- the conditions of a line of a `while` with this test
abbrev pub loop_conditions : Specification → Proposition → List RuleCondition
loop_conditions l b = keeps l.pre l.rely ∷ reaches (l.pre ∷ negation b ∷ []) [] l.post ∷ keeps l.post l.rely ∷ []

-- of a line that follows from another of the same statement
abbrev pub conseq_conditions : Specification → Specification → List RuleCondition
conseq_conditions l from = reaches (l.pre ∷ []) [] from.pre ∷ allows l.rely from.rely ∷ allows from.guar l.guar ∷ reaches (from.post ∷ []) [] l.post ∷ []

-- the formulas of the first premise
abbrev pub spec_of_line : Option LineTree → Option Specification
spec_of_line None = None
spec_of_line (Some line) = Some line.spec

-- the formulas of the first of these premises
abbrev pub first_spec : List LineTree → List ℕ → Option Specification
first_spec lines [] = None
first_spec lines (i ∷ is) = spec_of_line (nth lines i)

-- the conditions of a line that follows from one with these formulas
abbrev pub conditions_from : Specification → Option Specification → List RuleCondition
conditions_from spec None = []
conditions_from spec (Some from) = conseq_conditions spec from

-- the conditions of a line
abbrev pub conditions_of_rule : List LineTree → Specification → List ℕ → Rule → Statement → List RuleCondition
conditions_of_rule lines spec is Basic (assign row a) = step_conditions spec (spec.pre ∷ []) (a ∷ [])
conditions_of_rule lines spec is Basic _ = step_conditions spec (spec.pre ∷ []) []
conditions_of_rule lines spec is Atomic (await row b as') = step_conditions spec (spec.pre ∷ b ∷ []) as'
conditions_of_rule lines spec is If _ = choice_conditions spec
conditions_of_rule lines spec is Loop (loop row b s) = loop_conditions spec b
conditions_of_rule lines spec is Conseq _ = conditions_from spec (first_spec lines is)
conditions_of_rule lines spec is _ _ = []
