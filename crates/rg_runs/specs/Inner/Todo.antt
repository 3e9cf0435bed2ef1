-- Statements that are still to be done.
use Rattle.std.specs.Prelude.{List, [], ◌∷◌, map}
use Rattle.std.specs.Borrow.{Bor}
use Rattle.rg_words.specs.Layout.{Word}
use Rattle.rg_tree.specs.Statements.{Statement}
use Rattle.rg_tree.specs.ProgramView.{statement}
use Rattle.rg_tree.specs.TypedPrograms.{IsTypedStatement}
use Rattle.rg_tree.specs.declared.statement.Stmt.{Stmt}

-- each of these statements fits the words
abbrev pub AreTyped : List Word → List Statement → Type 0
AreTyped words [] = Unit {0}
AreTyped words (x ∷ xs) = IsTypedStatement words x × AreTyped words xs

-- statements that are still to be done, the next one first
abbrev pub todo_of : List (Bor Stmt) → List Statement
todo_of todo = map (λ (s : Bor Stmt). statement s.now) todo
