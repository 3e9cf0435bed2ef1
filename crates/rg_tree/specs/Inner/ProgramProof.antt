-- That a program is typed in one way at most, as a fact that is kept with a value must.
use Rattle.std.specs.Prelude.{◌≡◌, Bool, List, [], ◌∷◌, length}
use Rattle.std.specs.Coded.{×_prop, Unit-prop, le_prop, Coded-set, coded_bool}
use Rattle.rg_words.specs.Layout.{Word, widths_of}
use Rattle.rg_tree.specs.Trees.{Proposition, Assignment}
use Rattle.rg_tree.specs.Inner.OneProof.{IsTyped-prop, AssignmentsTyped-prop}
use Rattle.rg_tree.specs.Statements.{Statement, skip, assign, await, sequence, branch, loop, Items, one, more, Specification, PartTree, ProgramTree}
use Rattle.rg_tree.specs.TypedPrograms.{IsTypedPredicate, TargetsFree, ValuesPlain, IsTypedAction, IsTypedStatement, AreTypedItems, IsTypedSpecification, AreTypedParts, IsTypedProgram}

same_bool : {a b : Bool} → IsProp (a ≡ b)
same_bool = Coded-set coded_bool _ _

predicate-prop : (words : List Word) (f : Proposition) → IsProp (IsTypedPredicate words f)
predicate-prop words f = ×_prop (IsTyped-prop (widths_of words) f) same_bool

targets-prop : (words : List Word) (act : List Assignment) → IsProp (TargetsFree words act)
targets-prop words [] = Unit-prop
targets-prop words (a ∷ act) = ×_prop same_bool (targets-prop words act)

plain-prop : (act : List Assignment) → IsProp (ValuesPlain act)
plain-prop [] = Unit-prop
plain-prop (a ∷ act) = ×_prop same_bool (plain-prop act)

action-prop : (words : List Word) (act : List Assignment) → IsProp (IsTypedAction words act)
action-prop words act = hlevel (AssignmentsTyped-prop (widths_of words) act, targets-prop words act, plain-prop act)

mutual
  statement-prop : (words : List Word) (s : Statement) → IsProp (IsTypedStatement words s)
  statement-prop words (skip n) = Unit-prop
  statement-prop words (assign n a) = action-prop words (a ∷ [])
  statement-prop words (await n b act) = hlevel (predicate-prop words b, action-prop words act, le_prop)
  statement-prop words (sequence n s rest) = ×_prop (statement-prop words s) (items-prop words rest)
  statement-prop words (branch n b s t) = hlevel (predicate-prop words b, statement-prop words s, statement-prop words t)
  statement-prop words (loop n b s) = ×_prop (predicate-prop words b) (statement-prop words s)

  items-prop : (words : List Word) (rest : Items) → IsProp (AreTypedItems words rest)
  items-prop words (one s) = statement-prop words s
  items-prop words (more s rest) = ×_prop (statement-prop words s) (items-prop words rest)

specification-prop : (words : List Word) (spec : Specification) → IsProp (IsTypedSpecification words spec)
specification-prop words spec =
    hlevel (predicate-prop words spec.pre, IsTyped-prop (widths_of words) spec.rely, IsTyped-prop (widths_of words) spec.guar, predicate-prop words spec.post)

parts-prop : (words : List Word) (ps : List PartTree) → IsProp (AreTypedParts words ps)
parts-prop words [] = Unit-prop
parts-prop words (p ∷ ps) = hlevel (specification-prop words p.spec, statement-prop words p.body, parts-prop words ps)

pub IsTypedProgram-prop : (program : ProgramTree) → IsProp (IsTypedProgram program)
IsTypedProgram-prop program = hlevel (specification-prop program.words program.spec, parts-prop program.words program.parts, le_prop)
