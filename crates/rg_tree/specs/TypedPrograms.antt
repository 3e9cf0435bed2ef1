-- Programs that fit their words: every formula and every assignment is of one width, no fixed word is assigned, a prime stands
-- only where two states are spoken of, and the limits are kept.
use Rattle.std.specs.Prelude.{◌≡◌, ℕ, ◌≤◌, Bool, false, List, [], ◌∷◌, length, get_or}
use Rattle.rg_words.specs.Layout.{Word, widths_of, fixed_of}
use Rattle.rg_words.specs.declared.limits.TheConstants.{MOST_PARTS, MOST_STATEMENTS, MOST_ASSIGNMENTS}
use Rattle.rg_tree.specs.Trees.{Proposition, Assignment}
use Rattle.rg_tree.specs.Typing.{IsTyped}
use Rattle.rg_tree.specs.Primes.{speaks_of_two, has_next_word}
use Rattle.rg_tree.specs.ConditionTrees.{AssignmentsTyped}
use Rattle.rg_tree.specs.Statements.{Statement, skip, assign, await, sequence, branch, loop, Items, one, more, Specification, PartTree, ProgramTree}
use Rattle.rg_tree.specs.Numbering.{statements_of_parts}

-- a formula of two states
abbrev pub IsTypedRelation : List Word → Proposition → Type 0
IsTypedRelation words f = IsTyped (widths_of words) f

-- a formula of one state
abbrev pub IsTypedPredicate : List Word → Proposition → Type 0
IsTypedPredicate words f = IsTyped (widths_of words) f × (speaks_of_two f ≡ false)

-- no target is a fixed word
abbrev pub TargetsFree : List Word → List Assignment → Type 0
TargetsFree words [] = Unit {0}
TargetsFree words (a ∷ act) = (get_or (fixed_of words) a.target false ≡ false) × TargetsFree words act

-- no primed word stands in a value
abbrev pub ValuesPlain : List Assignment → Type 0
ValuesPlain [] = Unit {0}
ValuesPlain (a ∷ act) = (has_next_word a.value ≡ false) × ValuesPlain act

-- the assignments are well typed, give no fixed word a value, and read one state alone
abbrev pub IsTypedAction : List Word → List Assignment → Type 0
IsTypedAction words act = AssignmentsTyped (widths_of words) act × TargetsFree words act × ValuesPlain act

-- a statement's formulas and assignments are well typed, and those inside it; an await has 1 to 16 assignments
abbrev mutual
  pub IsTypedStatement : List Word → Statement → Type 0
  IsTypedStatement words (skip n) = Unit {0}
  IsTypedStatement words (assign n a) = IsTypedAction words (a ∷ [])
  IsTypedStatement words (await n b act) = IsTypedPredicate words b × IsTypedAction words act × (1 ≤ length act) × (length act ≤ MOST_ASSIGNMENTS)
  IsTypedStatement words (sequence n s items) = IsTypedStatement words s × AreTypedItems words items
  IsTypedStatement words (branch n b s t) = IsTypedPredicate words b × IsTypedStatement words s × IsTypedStatement words t
  IsTypedStatement words (loop n b s) = IsTypedPredicate words b × IsTypedStatement words s

  pub AreTypedItems : List Word → Items → Type 0
  AreTypedItems words (one s) = IsTypedStatement words s
  AreTypedItems words (more s items) = IsTypedStatement words s × AreTypedItems words items

-- the four formulas are well typed, and the pre and the post are of one state
abbrev pub IsTypedSpecification : List Word → Specification → Type 0
IsTypedSpecification words spec =
    IsTypedPredicate words spec.pre × IsTypedRelation words spec.rely × IsTypedRelation words spec.guar × IsTypedPredicate words spec.post

-- the specification and the body of each part are well typed
abbrev pub AreTypedParts : List Word → List PartTree → Type 0
AreTypedParts words [] = Unit {0}
AreTypedParts words (p ∷ ps) = IsTypedSpecification words p.spec × IsTypedStatement words p.body × AreTypedParts words ps

-- the program fits its words, and keeps the limits
pub record IsTypedProgram (program : ProgramTree) : Type 0 where
  pub spec : IsTypedSpecification program.words program.spec
  pub parts : AreTypedParts program.words program.parts
  pub some_part : 1 ≤ length program.parts
  pub most_parts : length program.parts ≤ MOST_PARTS
  pub most_statements : length (statements_of_parts program.parts) ≤ MOST_STATEMENTS
