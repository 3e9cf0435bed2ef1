-- The rules of expressions, with what stands for an expression up to equations.
use Rattle.std.proofs.Common.{◌≡◌, ℕ, ℤ, Bool, true, false, sym, subst, List, [], ◌∷◌, map, Some}
use Rattle.rg_words.specs.Layout.{Word}
use Rattle.rg_tree.specs.Trees.{Expression, Proposition, inverse}
use Rattle.rg_outline_syntax.specs.declared.span.Span.{Span}
use Rattle.rg_outline_syntax.specs.declared.written.List as written
use Rattle.rg_outline_syntax.specs.declared.written.Binder.{Binder}
use Rattle.rg_outline_syntax.specs.declared.written.Conditional.{Conditional}
use Rattle.rg_outline_syntax.specs.declared.written.Junction.{Junction}
use Rattle.rg_outline_syntax.specs.declared.written.Comparison.{Comparison}
use Rattle.rg_outline_syntax.specs.declared.written.Operator.{Operator}
use Rattle.rg_outline_syntax.specs.declared.written.ExpressionKind.TheVariants.{Number, Truth, Name, Group, Not, Keeps, Inverse, Unchanged, UnchangedBut, Bound, Choice, Compare, Operate, Join, Imply}
use Rattle.rg_outline_meaning.specs.Meanings.{Meaning, whole, value, claim, value_of, negated, joined, implied, keeping, operated, comparing, choosing, is_primed, same_word, IsConjunction}
use Rattle.rg_outline_meaning.specs.Names.{Outline, text_of, listed, HasKind, Names}
use Rattle.rg_outline_meaning.specs.Expressions as rule
use Rattle.rg_outline_meaning.specs.Expressions.{StandsFor, WordsStandFor, IsUnchanged, IsValue}
use Rattle.rg_outline_meaning.specs.Inner.{StandForInstances}

module _ (o : Outline) (words : List Word) (names : Names) (i : ℕ) where
  pub of_not : (j : ℕ) (p q : Proposition) → HasKind o i (Not j) → StandsFor o words names j (claim p) → q ≡ negated p → StandsFor o words names i (claim q)
  of_not j p q made inner same = subst (λ x. StandsFor o words names i (claim x)) (sym same) (rule.negation names i j p made inner)

  pub of_keeps : (j : ℕ) (p q : Proposition) → HasKind o i (Keeps j) → StandsFor o words names j (claim p) → is_primed (claim p) ≡ false → q ≡ keeping p → StandsFor o words names i (claim q)
  of_keeps j p q made inner plain same = subst (λ x. StandsFor o words names i (claim x)) (sym same) (rule.keeps names i j p made inner plain)

  pub of_inverse : (j : ℕ) (m : Meaning) (e x : Expression) → HasKind o i (Inverse j) → StandsFor o words names j m → value_of m ≡ Some e → x ≡ inverse 0 e → StandsFor o words names i (value x)
  of_inverse j m e x made inner is same = subst (λ y. StandsFor o words names i (value y)) (sym same) (rule.inverted names i j m e made inner is)

  pub of_implied : (j k : ℕ) (c : Conditional) (p q r : Proposition) → HasKind o i (Imply c j k) → StandsFor o words names j (claim p) → StandsFor o words names k (claim q) → r ≡ implied c p q → StandsFor o words names i (claim r)
  of_implied j k c p q r made first second same = subst (λ x. StandsFor o words names i (claim x)) (sym same) (rule.conditional names i j k c p q made first second)

  pub of_joined : (j k : ℕ) (c : Junction) (p q r : Proposition) → HasKind o i (Join c j k) → StandsFor o words names j (claim p) → StandsFor o words names k (claim q) → r ≡ joined c p q → StandsFor o words names i (claim r)
  of_joined j k c p q r made first second same = subst (λ x. StandsFor o words names i (claim x)) (sym same) (rule.junction names i j k c p q made first second)

  pub of_instances : (b : Binder) (index : Span) (range body : ℕ) (m : Meaning) → HasKind o i (Bound b index range body) → StandForInstances o words names b (text_of o index) range body m → StandsFor o words names i m
  of_instances b index range body m made h = rule.instances names i b index range body h.zs h.ms m made h.fresh h.numbers h.each h.made

  pub of_unchanged : (l : written.List) (ks : List ℕ) (p : Proposition) → HasKind o i (Unchanged l) → WordsStandFor o words names (listed o l) ks → IsConjunction (map same_word ks) p → StandsFor o words names i (claim p)
  of_unchanged l ks p made all is = rule.unchanged names i l ks p made all is

  pub of_unchanged_but : (l : written.List) (but : List ℕ) (p : Proposition) → HasKind o i (UnchangedBut l) → WordsStandFor o words names (listed o l) but → IsUnchanged words but p → StandsFor o words names i (claim p)
  of_unchanged_but l but p made all is = rule.unchanged_but names i l but p made all is

pub ruleset rules = (of_not, of_keeps, of_inverse, of_implied, of_joined, of_instances, of_unchanged, of_unchanged_but, rule.number, rule.truth_value, rule.group, rule.operation, rule.comparison, rule.choice)
