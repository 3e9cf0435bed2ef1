-- Where the conditions of a derivation's lines are true, the lines and the parts say the truth.
use Rattle.std.proofs.Common.{◌≡◌, ℕ, zero, suc, ◌+◌, List, [], ◌∷◌, length, map, Option, Some, None, subst, sym, arith}
use Rattle.std.proofs.lemmas.List.{append-nil}
use Rattle.std.specs.Prelude.{slice_get}
use Rattle.rg_words.specs.Layout.{Word}
use Rattle.rg_tree.specs.Trees.{Proposition, Assignment}
use Rattle.rg_tree.specs.Statements.{Statement, assign, await, loop, Specification, PartTree, ProgramTree}
use Rattle.rg_tree.specs.Numbering.{statements, statements_of_parts}
use Rattle.rg_tree.specs.Programs.{nth, PartsSatisfy}
use Rattle.rg_tree.specs.Satisfaction.{StatementSatisfies}
use Rattle.rg_tree.specs.TypedPrograms.{IsTypedSpecification}
use Rattle.rg_tree.specs.RuleConditions.{as_condition, AllConditionsHold}
use Rattle.rg_tree.proofs.Asked.{all_met, plain_append, ArePlain}
use Rattle.rg_tree.proofs.Stands.{Stands, stands_front, stands_back}
use Rattle.rg_tree.specs.declared.line.Rule.{Rule}
use Rattle.rg_tree.specs.declared.line.Rule.TheVariants.{Basic, Atomic, If, Loop, Conseq}
use Rattle.rg_tree.specs.Lines.{LineTree, AreTypedLines}
use Rattle.rg_rules.specs.Derivations.{first_spec, step_conditions, conditions_from, conditions_of_rule, conditions_at, conditions_of_line, conditions_asked, LinesHold}
use Rattle.rg_rules.specs.Faults.{IsDerived, PartsDerived, Derives}
use Rattle.rg_rules.proofs.Places.{closed_parts}
use Rattle.rg_rules.proofs.Lines.{number_of, rules_are_sound}

-- the conditions ask formulas of one state where one state is spoken of

step_plain : (words : List Word) (spec : Specification) (given : List Proposition) (act : List Assignment) → IsTypedSpecification words spec → ArePlain (step_conditions spec given act)
step_plain words spec given act h = (tt, (tt, (h.0.1, (h.3.1, tt))))

from_plain : (spec : Specification) (from : Option Specification) → ArePlain (conditions_from spec from)
from_plain spec None = tt
from_plain spec (Some from) = (tt, (tt, (tt, (tt, tt))))

rule_plain : (words : List Word) (lines : List LineTree) (spec : Specification) (is : List ℕ) (rule : Rule) (s : Statement) → IsTypedSpecification words spec → ArePlain (conditions_of_rule lines spec is rule s)
rule_plain words lines spec is Basic (assign row a) h = step_plain words spec (spec.pre ∷ []) (a ∷ []) h
rule_plain words lines spec is Basic _ h = step_plain words spec (spec.pre ∷ []) [] h
rule_plain words lines spec is Atomic (await row b act) h = step_plain words spec (spec.pre ∷ b ∷ []) act h
rule_plain words lines spec is If _ h = (h.0.1, tt)
rule_plain words lines spec is Loop (loop row b s) h = (h.0.1, (tt, (h.3.1, tt)))
rule_plain words lines spec is Conseq _ h = from_plain spec (first_spec lines is)
rule_plain words lines spec is _ _ h = tt

at_plain : (words : List Word) (lines : List LineTree) (line : LineTree) (o : Option Statement) → IsTypedSpecification words line.spec → ArePlain (conditions_at lines line o)
at_plain words lines line None h = tt
at_plain words lines line (Some s) h = rule_plain words lines line.spec line.premises line.rule s h

pub lines_plain : (words : List Word) (all : List Statement) (lines rest : List LineTree) → AreTypedLines words rest → ArePlain (conditions_asked all lines rest)
lines_plain words all lines [] h = tt
lines_plain words all lines (line ∷ rest) h =
    plain_append (conditions_of_line all lines line) (conditions_asked all lines rest) (at_plain words lines line (nth all line.number) h.0) (lines_plain words all lines rest h.1)

-- the lines say the truth
pub lines_hold : (words : List Word) (parts : List PartTree) (lines : List LineTree) → AreTypedLines words lines → Derives parts lines → AllConditionsHold (map (as_condition words) (conditions_asked (statements_of_parts parts) lines lines)) → LinesHold words parts lines
lines_hold words parts lines typed d h =
    let all = statements_of_parts parts in
    rules_are_sound words parts lines d.lines_fit (all_met words (conditions_asked all lines lines) (lines_plain words all lines lines typed) h)

-- the number of a part's body is that of its first statement
body_at : (all : List Statement) (lines : List LineTree) (m : ℕ) (ps : List PartTree) (k : ℕ) (p : PartTree) → Stands all m (statements_of_parts ps) → PartsDerived lines (suc m) ps → slice_get ps k ≡ Some p → (n : ℕ) × IsDerived lines (suc n) p.spec × Stands all n (statements p.body)
body_at all lines m [] k p st d e = cc e
body_at all lines m (q ∷ ps) zero p st d e =
    let same : q ≡ p = cc e in
    (m, subst (λ (x : PartTree). IsDerived lines (suc m) x.spec) same d.0, subst (λ (x : PartTree). Stands all m (statements x.body)) same (stands_front all m (statements q.body) (statements_of_parts ps) st))
body_at all lines m (q ∷ ps) (suc k) p st d e =
    let num : suc m + length (statements q.body) ≡ suc (m + length (statements q.body)) = omega arith in
    body_at all lines (m + length (statements q.body)) ps k p (stands_back all m (statements q.body) (statements_of_parts ps) st) (subst (λ n. PartsDerived lines n ps) num d.1) e

-- and so do the parts
pub parts_satisfy : (program : ProgramTree) (lines : List LineTree) → Derives program.parts lines → LinesHold program.words program.parts lines → PartsSatisfy program
parts_satisfy program lines derives hold zero p e = cc e
parts_satisfy program lines derives hold (suc k) p e =
    let all = statements_of_parts program.parts in
    let b = body_at all lines 0 program.parts k p ([], sym (append-nil all)) derives.parts_derived e in
    let d = b.1 in
    let says = hold d.place d.line p.body d.found (number_of program.words all (closed_parts program.parts) lines b.0 d.line.number p.body d.same_number b.2) in
    subst (λ x. StatementSatisfies program.words x p.body) d.same_spec says
