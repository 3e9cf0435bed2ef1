-- Derivations: which lines fit, what each rule asks, and what it promises.
use Rattle.std.specs.Prelude.{◌≡◌, ℕ, ◌+◌, ◌<◌, List, [], ◌∷◌, ◌++◌, Option, Some, None, length}
use Rattle.rg_words.specs.Layout.{Word}
use Rattle.rg_words.specs.declared.operators.Connective.TheVariants.{And}
use Rattle.rg_tree.specs.Trees.{Proposition, negation, connected}
use Rattle.rg_tree.specs.Statements.{Statement, skip, assign, await, sequence, branch, loop, Items, one, more, Specification, PartTree}
use Rattle.rg_tree.specs.Numbering.{statements, statements_of_parts}
use Rattle.rg_tree.specs.Programs.{nth}
use Rattle.rg_tree.specs.Satisfaction.{StatementSatisfies}
use Rattle.rg_tree.specs.RuleConditions.{RuleCondition, AllMet}
use Rattle.rg_tree.specs.declared.line.Rule.{Rule}
use Rattle.rg_tree.specs.declared.line.Rule.TheVariants.{Basic, Atomic, Seq, If, Loop, Conseq}
use Rattle.rg_tree.specs.Lines.{LineTree}
pub use Rattle.rg_conditions.specs.Asked.{step_conditions, choice_conditions, loop_conditions, conseq_conditions, spec_of_line, first_spec, conditions_from, conditions_of_rule}

-- line i comes before line k, is of statement n, and has these formulas
pub record IsPremise (lines : List LineTree) (k i n : ℕ) (spec : Specification) : Type 0 where
  pub line : LineTree
  pub earlier : i < k
  pub found : nth lines i ≡ Some line
  pub same_number : line.number ≡ n
  pub same_spec : line.spec ≡ spec

-- one premise for each item, each post the next pre
abbrev pub ItemsFit : List LineTree → ℕ → ℕ → Specification → Items → List ℕ → Type 0
ItemsFit lines k n spec (one s) (i ∷ []) = IsPremise lines k i n spec
ItemsFit lines k n spec (more s items) (i ∷ is) =
    (mid : Proposition) × IsPremise lines k i n (record spec { post = mid }) × ItemsFit lines k (n + length (statements s)) (record spec { pre = mid }) items is
ItemsFit lines k n spec (one s) [] = ⊥
ItemsFit lines k n spec (one s) (i ∷ j ∷ is) = ⊥
ItemsFit lines k n spec (more s items) [] = ⊥

-- the premises of an `if`: its blocks, from the pre with the test and without it
abbrev pub ChoiceFits : List LineTree → ℕ → ℕ → Specification → Proposition → Statement → List ℕ → Type 0
ChoiceFits lines k n spec b s [] = ⊥
ChoiceFits lines k n spec b s (i ∷ []) = ⊥
ChoiceFits lines k n spec b s (i ∷ j ∷ []) =
    IsPremise lines k i (n + 1) (record spec { pre = connected And spec.pre b }) × IsPremise lines k j (n + 1 + length (statements s)) (record spec { pre = connected And spec.pre (negation b) })
ChoiceFits lines k n spec b s (i ∷ j ∷ h ∷ is) = ⊥

-- the premise of a `while`: its block, from the pre with the test, back to the pre
abbrev pub LoopFits : List LineTree → ℕ → ℕ → Specification → Proposition → List ℕ → Type 0
LoopFits lines k n spec b [] = ⊥
LoopFits lines k n spec b (i ∷ []) = IsPremise lines k i (n + 1) (record spec { pre = connected And spec.pre b; post = spec.pre })
LoopFits lines k n spec b (i ∷ j ∷ is) = ⊥

-- the premise of a line by consequence: a line of the same statement
abbrev pub ConseqFits : List LineTree → ℕ → ℕ → List ℕ → Type 0
ConseqFits lines k n [] = ⊥
ConseqFits lines k n (i ∷ []) = (from : Specification) × IsPremise lines k i n from
ConseqFits lines k n (i ∷ j ∷ is) = ⊥

-- line k, of this rule and of statement s with number n
abbrev pub RuleFits : List LineTree → ℕ → ℕ → Specification → List ℕ → Rule → Statement → Type 0
RuleFits lines k n spec is Basic (skip row) = is ≡ []
RuleFits lines k n spec is Basic (assign row a) = is ≡ []
RuleFits lines k n spec is Atomic (await row b as') = is ≡ []
RuleFits lines k n spec is Seq (sequence row s items) = ItemsFit lines k (n + 1) spec (more s items) is
RuleFits lines k n spec is If (branch row b s t) = ChoiceFits lines k n spec b s is
RuleFits lines k n spec is Loop (loop row b s) = LoopFits lines k n spec b is
RuleFits lines k n spec is Conseq s = ConseqFits lines k n is
RuleFits lines k n spec is _ _ = ⊥

-- the line is of a statement that is there, and its rule fits that statement and its premises
abbrev pub LineFits : List Statement → List LineTree → ℕ → LineTree → Type 0
LineFits all lines k line =
    (s : Statement) × (nth all line.number ≡ Some s) × RuleFits lines k line.number line.spec line.premises line.rule s

-- each line fits, in a program with these statements
abbrev pub DerivationFits : List Statement → List LineTree → Type 0
DerivationFits all lines = (k : ℕ) (line : LineTree) → nth lines k ≡ Some line → LineFits all lines k line

-- the conditions of a line whose statement is this one, if it has one
abbrev pub conditions_at : List LineTree → LineTree → Option Statement → List RuleCondition
conditions_at lines line None = []
conditions_at lines line (Some s) = conditions_of_rule lines line.spec line.premises line.rule s

-- the conditions of a line, in a program with these statements
abbrev pub conditions_of_line : List Statement → List LineTree → LineTree → List RuleCondition
conditions_of_line all lines line = conditions_at lines line (nth all line.number)

-- the conditions of some of the lines, one line after another
abbrev pub conditions_asked : List Statement → List LineTree → List LineTree → List RuleCondition
conditions_asked all lines [] = []
conditions_asked all lines (line ∷ rest) = conditions_of_line all lines line ++ conditions_asked all lines rest

-- each line says the truth of its statement
abbrev pub LinesHold : List Word → List PartTree → List LineTree → Type 0
LinesHold words parts lines =
    (k : ℕ) (line : LineTree) (s : Statement) → nth lines k ≡ Some line → nth (statements_of_parts parts) line.number ≡ Some s → StatementSatisfies words line.spec s

-- where the lines fit and their conditions are met, each line says the truth
abbrev pub RulesAreSound : Type 0
RulesAreSound =
    (words : List Word) (parts : List PartTree) (lines : List LineTree) → DerivationFits (statements_of_parts parts) lines
    → AllMet words (conditions_asked (statements_of_parts parts) lines lines) → LinesHold words parts lines
