-- The conditions on which it rests that the assertions of a derivation keep the parts of a program apart at a word. The steps are those of what is left of the program
-- where words are erased, and the assertions those of the program.
use Rattle.std.specs.Prelude.{ℕ, Bool, true, false, not, ◌&&◌, ◌||◌, nat_eq, List, [], ◌∷◌, ◌++◌, map, Option, Some, None, option_map, if◌then◌else◌}
use Rattle.std.specs.List.{filter, flat_map}
use Rattle.rg_tree.specs.Trees.{Proposition, truth}
use Rattle.rg_tree.specs.Statements.{ProgramTree}
use Rattle.rg_tree.specs.RuleConditions.{RuleCondition, reaches}
use Rattle.rg_tree.specs.Lines.{LineTree}
use Rattle.rg_tree.specs.Numbering.{numbered_parts}
use Rattle.rg_tree.specs.declared.numbered.Numbered.{Numbered}
use Rattle.rg_tree.specs.declared.numbered.StatementKind.{StatementKind}
use Rattle.rg_tree.specs.declared.numbered.StatementKind.TheVariants.{Skip, Assign, Await, If, While, Seq}
use Rattle.rg_c_plan.specs.Accesses.{StepTree, steps_of_parts, writes}
use Rattle.rg_c_plan.specs.Where.{step_where}
use Rattle.rg_accept.specs.Standing.{is_conseq}
use Rattle.rg_apart.specs.Lifted.{lifted_formula}

-- a step of a part that may access a word: what a line of the derivation says where the part stands at it, where it accesses the word, and whether it writes it
pub record VisitTree : Type 0 where
  pub part : ℕ
  pub pre : Proposition
  pub site : Proposition
  pub writes : Bool

-- a statement of this kind is no step: its items are
abbrev pub is_sequence : StatementKind → Bool
is_sequence Skip = false
is_sequence Assign = false
is_sequence Await = false
is_sequence If = false
is_sequence While = false
is_sequence Seq = true

-- a statement is a step
abbrev pub is_step : Numbered → Bool
is_step n = not (is_sequence n.kind)

-- the statements of a program that are steps, in order
abbrev pub stepping : ProgramTree → List Numbered
stepping p = filter is_step (numbered_parts 1 1 p.parts)

-- a line of the statement with this number, that doesn't follow from another by consequence
abbrev pub is_line_of : ℕ → LineTree → Bool
is_line_of n line = nat_eq line.number n && not (is_conseq line.rule)

-- what such a line says of a step of a part, which accesses the word there
abbrev pub visit_of : ℕ → Proposition → Bool → LineTree → VisitTree
visit_of part site writing line = record { part = part; pre = line.spec.pre; site = site; writes = writing }

-- the visits of a step of this statement: one for each such line, where the step accesses the word at all
abbrev pub visits_by : List LineTree → Numbered → Option Proposition → Bool → List VisitTree
visits_by lines n None writing = []
visits_by lines n (Some f) writing = map (visit_of n.part f writing) (filter (is_line_of n.number) lines)

-- of steps, which are those of these statements
abbrev pub visits : List ℕ → ℕ → List LineTree → List StepTree → List Numbered → List VisitTree
visits old k lines (s ∷ ss) (n ∷ ns) = visits_by lines n (option_map (lifted_formula old) (step_where k s.guard s.act)) (writes k s.act) ++ visits old k lines ss ns
visits old k lines ss ns = []

-- where two visits are of two parts and one of them writes, they are never made in one state
abbrev pub kept_apart : VisitTree → VisitTree → List RuleCondition
kept_apart u v = if not (nat_eq u.part v.part) && (u.writes || v.writes) then reaches (u.pre ∷ u.site ∷ v.pre ∷ v.site ∷ []) [] (truth false) ∷ [] else []

-- so it is of each visit and each of those after it
abbrev pub apart_among : List VisitTree → List RuleCondition
apart_among [] = []
apart_among (u ∷ us) = flat_map (kept_apart u) us ++ apart_among us

-- what is asked for a word of q, which is left of p, and whose words have these places in p
abbrev pub apart_asked : ProgramTree → ProgramTree → List ℕ → List LineTree → ℕ → List RuleCondition
apart_asked p q old lines k = apart_among (visits old k lines (steps_of_parts q.parts) (stepping p))
