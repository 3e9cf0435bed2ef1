-- the lemmas by which the calls of formulas compose
use Rattle.std.proofs.Common.{◌≤◌, List}
use Rattle.rg_gates.specs.declared.Lit.{Lit}
use Rattle.rg_gates.specs.Circuit.{Circuit, variable_count}
use Rattle.rg_gates.proofs.Growth.{Extends-refl, Extends-trans, IsIn-extends, IsIn-negation}
use Rattle.rg_words.specs.declared.operators.Operator.{Operator}
use Rattle.rg_words.specs.declared.operators.Comparison.{Comparison}
use Rattle.rg_words.specs.declared.operators.Connective.{Connective}
use Rattle.rg_tree.specs.Trees.{Expression, Proposition}
use Rattle.rg_bits.specs.Formulas.{operated_of, less_of, compared_of, connected_of, row_of, literal_of}
use Rattle.rg_rows.proofs.Means.{grows-means}
use Rattle.rg_rows.proofs.RowsMean.{test-grows, bits-grows, sum-grows}
use Rattle.rg_rows.proofs.RowsIn.{IsRowIn-inverted, IsRowIn-number, IsIn-constant, IsRowIn-extends}
use Rattle.rg_bits.proofs.Moved.{IsRowIn-moved}
use Rattle.rg_bits.proofs.FormulasMean.{operated-means, less-means, compared-means, connected-means, row-means, literal-means}

pub operated-grows : (o : Operator) (p q : List Lit) (c : Circuit) → variable_count c ≤ variable_count (operated_of o p q c).1
operated-grows o p q c = grows-means (operated_of o p q) _ (operated-means o p q) c

pub less-grows : (p q : List Lit) (c : Circuit) → variable_count c ≤ variable_count (less_of p q c).1
less-grows p q c = grows-means (less_of p q) _ (less-means p q) c

pub compared-grows : (k : Comparison) (p q : List Lit) (c : Circuit) → variable_count c ≤ variable_count (compared_of k p q c).1
compared-grows k p q c = grows-means (compared_of k p q) _ (compared-means k p q) c

pub connected-grows : (k : Connective) (p q : Lit) (c : Circuit) → variable_count c ≤ variable_count (connected_of k p q c).1
connected-grows k p q c = grows-means (connected_of k p q) _ (connected-means k p q) c

pub row-grows : (e : Expression) (s t : List (List Lit)) (c : Circuit) → variable_count c ≤ variable_count (row_of e s t c).1
row-grows e s t c = grows-means (row_of e s t) _ (row-means e s t) c

pub literal-grows : (f : Proposition) (s t : List (List Lit)) (c : Circuit) → variable_count c ≤ variable_count (literal_of f s t c).1
literal-grows f s t c = grows-means (literal_of f s t) _ (literal-means f s t) c

pub ruleset formula_steps = (Extends-refl, Extends-trans, IsIn-extends, IsIn-negation, IsRowIn-extends, IsRowIn-inverted, IsRowIn-number, IsRowIn-moved, IsIn-constant, test-grows, bits-grows, sum-grows, operated-grows, less-grows, compared-grows, connected-grows, row-grows, literal-grows)
