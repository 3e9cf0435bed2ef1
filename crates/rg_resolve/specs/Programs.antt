-- The faults of meaning of statements, specifications, parts and programs: lists over their tokens, in the order of the text.
use Rattle.std.specs.Prelude.{ℕ, Bool, true, false, not, List, [], ◌∷◌, ◌++◌, Option}
use Rattle.std.specs.List.{list_any, flat_map}
use Rattle.std.specs.Str.{bytes_eq}
use Rattle.rg_words.specs.declared.refusal.RefusalNumber.TheVariants.{NameTwice}
use Rattle.rg_words.specs.Layout.{Word, index_of}
use Rattle.rg_text.specs.Text.{Leaf}
use Rattle.rg_syntax.specs.Written.{AssignedTree, StatementTree, skip, assign, await, branch, loop, StatementTrees, no_more, also, SpecTree, WrittenPart, WrittenProgram}
pub use Rattle.rg_leaves.specs.Leaves.{is_fixed, target_faults}
use Rattle.rg_resolve.specs.Faults.{Fault, group_at, unless, term_faults, claim_faults, faults_in_turn}
use Rattle.rg_resolve.specs.Words.{words_of, declaration_faults}

-- the faults of an assignment: those of its target, and those of its value, whose group has the target's width
unfoldable pub assigned_faults : List Word → AssignedTree → List Fault
assigned_faults words a =
    target_faults words a.target (index_of words a.target.text) ++ term_faults words true (group_at words (index_of words a.target.text)) a.value

-- the faults of a statement, and of a block; a guard and a test speak of one state
abbrev mutual
  pub statement_faults : List Word → StatementTree → List Fault
  statement_faults words (skip t) = []
  statement_faults words (assign a) = assigned_faults words a
  statement_faults words (await t f act) = claim_faults words true f ++ flat_map (assigned_faults words) act
  statement_faults words (branch t f first second) = claim_faults words true f ++ (block_faults words first ++ block_faults words second)
  statement_faults words (loop t f body) = claim_faults words true f ++ block_faults words body

  pub block_faults : List Word → StatementTrees → List Fault
  block_faults words no_more = []
  block_faults words (also s ss) = statement_faults words s ++ block_faults words ss

-- the faults of a specification: its rely and its guarantee alone speak of two states
unfoldable pub spec_faults : List Word → SpecTree → List Fault
spec_faults words s = claim_faults words true s.pre ++ (claim_faults words false s.rely ++ (claim_faults words false s.guar ++ claim_faults words true s.post))

-- one of these parts has this name
abbrev pub has_part : List WrittenPart → List ℕ → Bool
has_part parts name = list_any (λ p. bytes_eq name p.name.text) parts

-- the faults of a part after these parts: one of them has its name, or its specification or its body has faults
unfoldable pub part_faults : List Word → List WrittenPart → WrittenPart → List Fault
part_faults words before p =
    unless (not (has_part before p.name.text)) NameTwice p.name.line ++ (spec_faults words p.spec ++ block_faults words p.body)

-- the faults of the parts of a program
abbrev pub parts_faults : List Word → List WrittenPart → List Fault
parts_faults words parts = faults_in_turn (part_faults words) [] parts

-- the faults of a program: those of its declared words, of its specification, and of its parts
abbrev pub program_faults : WrittenProgram → List Fault
program_faults p = declaration_faults p.words ++ (spec_faults (words_of p.words) p.spec ++ parts_faults (words_of p.words) p.parts)
