-- Texts whose programs don't satisfy their specifications.
use Rattle.std.specs.Prelude.{ℕ, List}
use Rattle.rg_tree.specs.Statements.{ProgramTree}
use Rattle.rg_tree.specs.Programs.{IsSatisfied}
use Rattle.rg_parse.specs.Programs.{SpellsProgram}

-- the text spells a program that doesn't satisfy its specification
pub record IsRefuted (text : List ℕ) : Type 0 where
  pub program : ProgramTree
  pub spells : SpellsProgram text program
  pub unsatisfied : IsSatisfied program → ⊥
