-- Where a step accesses a word: a formula of the state in which it is made. There is none where it never does.
use Rattle.std.specs.Prelude.{◌≡◌, ℕ, Bool, true, not, nat_eq, List, [], ◌∷◌, map, Option, Some, None, if◌then◌else◌}
use Rattle.rg_words.specs.Layout.{Word}
use Rattle.rg_words.specs.declared.operators.Connective.TheVariants.{And, Or}
use Rattle.rg_tree.specs.Trees.{Expression, Proposition, Assignment, number, word, next_word, inverse, binary, shifted, choice, truth, negation, connected, compared}
use Rattle.rg_tree.specs.Traces.{State, holds_at}
use Rattle.rg_c_plan.specs.Changes.{change_of}
use Rattle.rg_c_plan.specs.Accesses.{StepTree, stands_in_formula, places}
use Rattle.rg_c_plan.specs.Made.{step_made}
use Rattle.rg_c_plan.specs.declared.kind.Kind.{Kind}
use Rattle.rg_c_plan.specs.declared.kind.Kind.TheVariants.{Own, Atomic}

-- where one of two accesses is made
abbrev pub either : Option Proposition → Option Proposition → Option Proposition
either None o = o
either (Some f) None = Some f
either (Some f) (Some g) = Some (connected Or f g)

-- where an access is made that is made only where this formula holds
abbrev pub under : Proposition → Option Proposition → Option Proposition
under f None = None
under f (Some g) = Some (connected And f g)

-- everywhere, where it is the same word
abbrev pub at_word : ℕ → ℕ → Option Proposition
at_word k j = if nat_eq k j then Some (truth true) else None

-- where the evaluation of an expression, and of a formula, reads a word: of a choice the test is evaluated, and one side
abbrev mutual
  pub read_where : ℕ → Expression → Option Proposition
  read_where k (number w n) = None
  read_where k (word j) = at_word k j
  read_where k (next_word j) = at_word k j
  read_where k (inverse w a) = read_where k a
  read_where k (binary o w a b) = either (read_where k a) (read_where k b)
  read_where k (shifted d w a n) = read_where k a
  read_where k (choice f a b) = either (tested_where k f) (either (under f (read_where k a)) (under (negation f) (read_where k b)))

  pub tested_where : ℕ → Proposition → Option Proposition
  tested_where k (truth b) = None
  tested_where k (negation f) = tested_where k f
  tested_where k (connected c f g) = either (tested_where k f) (tested_where k g)
  tested_where k (compared c a b) = either (read_where k a) (read_where k b)

-- where a test reads it, or what comes after accesses it where the test holds
abbrev pub after_test : ℕ → Option Proposition → Option Proposition → Option Proposition
after_test k None o = o
after_test k (Some f) o = either (tested_where k f) (under f o)

-- where an assignment accesses it
abbrev pub change_where : ℕ → Assignment → Option Proposition
change_where k a = after_test k (change_of a).test (either (read_where k (change_of a).value) (at_word k a.target))

-- what is said of the state after an assignment to a word, as a formula of the state before: where it speaks of that word, nothing is known
abbrev pub freed : ℕ → Option Proposition → Option Proposition
freed j None = None
freed j (Some f) = Some (if stands_in_formula j f then truth true else f)

-- where assignments do, one after another
abbrev pub changes_where : ℕ → List Assignment → Option Proposition
changes_where k [] = None
changes_where k (a ∷ act) = either (change_where k a) (freed a.target (changes_where k act))

-- where a step does
abbrev pub step_where : ℕ → Option Proposition → List Assignment → Option Proposition
step_where k guard act = after_test k guard (changes_where k act)

-- the kinds of words where accesses to this word alone are counted
abbrev pub alone : List Word → ℕ → List Kind
alone words k = map (λ j. if nat_eq k j then Atomic else Own) (places words)

-- a step accesses a word in a state
abbrev pub accesses_at : List Word → ℕ → State → StepTree → Bool
accesses_at words k state s = not (nat_eq (step_made (alone words k) state s.guard s.act) 0)

-- where it does, its formula holds
abbrev pub AccessesAreWhere : Type 0
AccessesAreWhere =
    (words : List Word) (k : ℕ) (state : State) (s : StepTree) → accesses_at words k state s ≡ true →
    (f : Proposition) × (step_where k s.guard s.act ≡ Some f) × (holds_at f state ≡ true)
