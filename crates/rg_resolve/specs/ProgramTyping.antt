-- When statements, specifications, parts and programs stand for trees over declared words, by rules; one of them fits at most.
use Rattle.std.specs.Prelude.{◌≡◌, ◌≢◌, true, false, List, [], ◌∷◌, ◌++◌, Some, All}
use Rattle.rg_words.specs.Layout.{Word, index_of, IsLayout}
use Rattle.rg_text.specs.Text.{Leaf}
use Rattle.rg_tree.specs.Trees.{Proposition, Assignment}
use Rattle.rg_tree.specs.Statements as tree
use Rattle.rg_tree.specs.Numbering.{line_of_statement}
use Rattle.rg_syntax.specs.Written as written
use Rattle.rg_syntax.specs.Written.{Claim, AssignedTree, StatementTree, StatementTrees, no_more, also}
use Rattle.rg_resolve.specs.Faults.{width_at}
use Rattle.rg_resolve.specs.Typing.{TermStandsFor, ClaimStandsFor}
use Rattle.rg_resolve.specs.Words.{words_of}
use Rattle.rg_resolve.specs.Programs.{is_fixed}

-- an assignment: its target is declared and isn't fixed, and its value has the target's width and speaks of one state
pub record AssignedStandsFor (words : List Word) (a : AssignedTree) (t : Assignment) : Type 0 where
  pub target : index_of words a.target.text ≡ Some t.target
  pub free : is_fixed words t.target ≡ false
  pub value : TermStandsFor words true (width_at words t.target) a.value t.value

-- assignments stand for assignments, one by one
abbrev pub AssignmentsStandFor : List Word → List AssignedTree → List Assignment → Type 0
AssignmentsStandFor words [] [] = Unit {0}
AssignmentsStandFor words (a ∷ as_) (t ∷ ts) = AssignedStandsFor words a t × AssignmentsStandFor words as_ ts
AssignmentsStandFor words [] (t ∷ ts) = ⊥
AssignmentsStandFor words (a ∷ as_) [] = ⊥

mutual
  -- a statement has the line of its first token
  pub data StatementStandsFor (words : List Word) : StatementTree → tree.Statement → Type 0 where
    skip : (t : Leaf) → StatementStandsFor words (written.skip t) (tree.skip t.line)
    assign : (a : AssignedTree) (b : Assignment) → AssignedStandsFor words a b → StatementStandsFor words (written.assign a) (tree.assign a.target.line b)
    await : (t : Leaf) (f : Claim) (p : Proposition) (act : List AssignedTree) (bs : List Assignment) → ClaimStandsFor words true f p → AssignmentsStandFor words act bs → StatementStandsFor words (written.await t f act) (tree.await t.line p bs)
    branch : (t : Leaf) (f : Claim) (p : Proposition) (first second : StatementTrees) (a b : tree.Statement) → ClaimStandsFor words true f p → BlockStandsFor words first a → BlockStandsFor words second b → StatementStandsFor words (written.branch t f first second) (tree.branch t.line p a b)
    loop : (t : Leaf) (f : Claim) (p : Proposition) (body : StatementTrees) (b : tree.Statement) → ClaimStandsFor words true f p → BlockStandsFor words body b → StatementStandsFor words (written.loop t f body) (tree.loop t.line p b)

  -- a block of one item is the item; of several, a sequence at the line of its first token
  pub data BlockStandsFor (words : List Word) : StatementTrees → tree.Statement → Type 0 where
    single : (s : StatementTree) (a : tree.Statement) → StatementStandsFor words s a → BlockStandsFor words (also s no_more) a
    several : (s : StatementTree) (a : tree.Statement) (ss : StatementTrees) (items : tree.Items) → StatementStandsFor words s a → ItemsStandFor words ss items → BlockStandsFor words (also s ss) (tree.sequence (line_of_statement a) a items)

  -- the items of a sequence after its first, one by one
  pub data ItemsStandFor (words : List Word) : StatementTrees → tree.Items → Type 0 where
    last : (s : StatementTree) (a : tree.Statement) → StatementStandsFor words s a → ItemsStandFor words (also s no_more) (tree.one a)
    next : (s : StatementTree) (a : tree.Statement) (ss : StatementTrees) (items : tree.Items) → StatementStandsFor words s a → ItemsStandFor words ss items → ItemsStandFor words (also s ss) (tree.more a items)

-- a specification: its rely and its guarantee alone may speak of two states
pub record SpecStandsFor (words : List Word) (s : written.SpecTree) (t : tree.Specification) : Type 0 where
  pub pre : ClaimStandsFor words true s.pre t.pre
  pub rely : ClaimStandsFor words false s.rely t.rely
  pub guar : ClaimStandsFor words false s.guar t.guar
  pub post : ClaimStandsFor words true s.post t.post

-- a part as written stands for a part
pub record PartStandsFor (words : List Word) (p : written.WrittenPart) (t : tree.PartTree) : Type 0 where
  pub name : p.name.text ≡ t.name
  pub spec : SpecStandsFor words p.spec t.spec
  pub body : BlockStandsFor words p.body t.body

-- after other parts, parts stand for these, one by one, and none has the name of one before
abbrev pub PartsStandAfter : List Word → List tree.PartTree → List written.WrittenPart → List tree.PartTree → Type 0
PartsStandAfter words before [] [] = Unit {0}
PartsStandAfter words before (p ∷ ps) (t ∷ ts) = PartStandsFor words p t × All (λ u. u.name ≢ t.name) before × PartsStandAfter words (before ++ t ∷ []) ps ts
PartsStandAfter words before [] (t ∷ ts) = ⊥
PartsStandAfter words before (p ∷ ps) [] = ⊥

-- a program: its words are declared so, and are a layout
pub record ProgramStandsFor (p : written.WrittenProgram) (t : tree.ProgramTree) : Type 0 where
  pub words : t.words ≡ words_of p.words
  pub layout : IsLayout t.words
  pub spec : SpecStandsFor t.words p.spec t.spec
  pub parts : PartsStandAfter t.words [] p.parts t.parts

-- a program stands for one tree at most
abbrev pub OneProgramTree : Type 0
OneProgramTree = (p : written.WrittenProgram) (s t : tree.ProgramTree) → ProgramStandsFor p s → ProgramStandsFor p t → s ≡ t
