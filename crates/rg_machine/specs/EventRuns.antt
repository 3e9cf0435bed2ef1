-- Events that are replayed from the first places, as a run of the code.
use Rattle.std.specs.Prelude.{◌≡◌, ℕ, ◌<◌, ◌≤◌, List, [], ◌∷◌, length, map}
use Rattle.rg_words.specs.States.{IsState}
use Rattle.rg_tree.specs.Traces.{Step, last_of}
use Rattle.rg_code.specs.Code.{IsCodeRun, all_at_end, zeros}
use Rattle.rg_machine.specs.Machine.{Configuration}
use Rattle.rg_machine.specs.Replay.{Happening, by_part, by_environment, Replays}

-- who makes an event: a part, or 0 for the environment
abbrev pub who_of : Happening → ℕ
who_of (by_part i) = i
who_of (by_environment t) = 0

-- each by one of n parts, or by the environment
abbrev pub AreMade : ℕ → List Happening → Type 0
AreMade n [] = Unit {0}
AreMade n (by_part i ∷ es) = ((0 < i) × (i ≤ n)) × AreMade n es
AreMade n (by_environment t ∷ es) = Unit {0} × AreMade n es

-- steps by the makers of these events are a run of the code, up to the state that is left; it has ended where all places are ends
pub record IsRunOf (c : Configuration) (es : List Happening) (d : Configuration) : Type 0 where
  pub steps : List Step
  pub makers : map (λ (x : Step). x.who) steps ≡ map who_of es
  pub last : last_of c.state steps ≡ d.state
  pub run : IsCodeRun c.words c.codes c.state steps (all_at_end c.codes d.places)

-- what is replayed from the first places is a run
abbrev pub ReplaysAreRuns : Type 0
ReplaysAreRuns =
    (c d : Configuration) (es : List Happening) → IsState c.words c.state → c.places ≡ zeros c.codes → AreMade (length c.codes) es → Replays c es d → IsRunOf c es d
