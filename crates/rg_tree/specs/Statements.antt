-- Statements and programs, without where they lie in memory.
use Rattle.std.specs.Prelude.{ℕ, List}
use Rattle.rg_words.specs.Layout.{Word}
use Rattle.rg_tree.specs.Trees.{Proposition, Assignment}

-- a statement with the line of its first token; a sequence has two items or more
mutual
  pub data Statement : Type 0 where
    skip : ℕ → Statement
    assign : ℕ → Assignment → Statement
    await : ℕ → Proposition → List Assignment → Statement
    sequence : ℕ → Statement → Items → Statement
    branch : ℕ → Proposition → Statement → Statement → Statement
    loop : ℕ → Proposition → Statement → Statement

  -- the items of a sequence after its first
  pub data Items : Type 0 where
    one : Statement → Items
    more : Statement → Items → Items

-- what runs may begin with, what others may do, what own steps do, and where ended runs stand
pub record Specification : Type 0 where
  pub pre : Proposition
  pub rely : Proposition
  pub guar : Proposition
  pub post : Proposition

-- a part: its name, its own specification, and its body
pub record PartTree : Type 0 where
  pub name : List ℕ
  pub spec : Specification
  pub body : Statement

-- a program: its declared words, its specification, and its parts in their order
pub record ProgramTree : Type 0 where
  pub words : List Word
  pub spec : Specification
  pub parts : List PartTree
