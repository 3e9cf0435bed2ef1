-- What it means that a statement, and a program, satisfies its specification.
use Rattle.std.specs.Prelude.{◌≡◌, Bool, true, List}
use Rattle.rg_words.specs.Layout.{Word}
use Rattle.rg_tree.specs.Statements.{Statement, Specification}
use Rattle.rg_tree.specs.Meaning.{holds}
use Rattle.rg_tree.specs.Traces.{State, holds_at}
use Rattle.rg_tree.specs.Traces.{ViewStep, last, IsTrace, EnvInside, OwnInside}
use Rattle.rg_tree.specs.Runs.{runs}

-- from p, with steps of the environment inside R, own steps are inside G, and the last state of an ended run is in q
pub record BehaviorSatisfies (words : List Word) (p : State → Bool) (R G : State → State → Bool) (q : State → Bool) (B : State → List ViewStep → Bool → Type 0) : Type 0 where
  pub steps : (s : State) (ms : List ViewStep) (ended : Bool) → B s ms ended → IsTrace words s ms → p s ≡ true → EnvInside R s ms → OwnInside G s ms
  pub end : (s : State) (ms : List ViewStep) → B s ms true → IsTrace words s ms → p s ≡ true → EnvInside R s ms → q (last s ms) ≡ true

-- the runs of the statement satisfy the specification
abbrev pub StatementSatisfies : List Word → Specification → Statement → Type 0
StatementSatisfies words spec s = BehaviorSatisfies words (holds_at spec.pre) (holds spec.rely) (holds spec.guar) (holds_at spec.post) (runs s)
