use Rattle.std.proofs.Common.{List, map, take, drop}
use Rattle.rg_tree.specs.Trees.{Proposition}
use Rattle.rg_tree.specs.View.{formula}
use Rattle.rg_outline_meaning.specs.Meanings.{IsConjunctionAfter, IsConjunction}
use Rattle.rg_outline_meaning.proofs.folded.conjunction.Given as goal

-- what is made of the others after those so far is what is made of all
abbrev pub invariant-loop-place : goal.invariant-loop-place
invariant-loop-place l = (r : Proposition) → IsConjunctionAfter (map formula (take l.place l.formulas)) (formula l.made) (map formula (drop l.place l.formulas)) r → IsConjunction (map formula l.formulas) r
