-- What references lead to, without where it lies in memory.
use Rattle.rg_tree.specs.declared.statement.Stmt.{Stmt}
use Rattle.rg_tree.specs.Statements.{Statement}
use Rattle.rg_tree.specs.ProgramView.{statement}
use Rattle.std.specs.Borrow.{Bor}

-- the statement that a reference leads to
abbrev pub referred : Bor Stmt → Statement
referred r = statement r.now
