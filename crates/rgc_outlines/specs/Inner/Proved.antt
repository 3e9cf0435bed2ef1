-- Programs all of whose conditions are proved.
use Rattle.std.specs.Prelude.{ℕ, List}
use Rattle.rg_tree.specs.Lines.{LineTree}
use Rattle.rg_tree.specs.Statements.{ProgramTree}
use Rattle.rg_tree.specs.Programs.{IsSatisfied}
use Rattle.rg_pool.specs.ProofPieces.{AreProvedBy}
use Rattle.rg_accept.specs.Accepted.{conditions_of}

-- some proofs prove all conditions of the program and these lines, so the program satisfies its specification
pub record HasProofs (program : ProgramTree) (lines : List LineTree) : Type 0 where
  pub proofs : List (List ℕ)
  pub proved : AreProvedBy (conditions_of program lines) proofs
  pub satisfied : IsSatisfied program
