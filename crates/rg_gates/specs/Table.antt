-- Where a gate stands among gates in order of building.
use Rattle.std.specs.Prelude.{◌≡◌, ◌≢◌, ◌⊎◌, ℕ, ◌<◌, List, [], ◌∷◌, ◌++◌, length, get_or}
use Rattle.rg_gates.specs.declared.Gate.{Gate}
use Rattle.rg_gates.specs.Circuit.{no_gate}

-- no gate has these operands
abbrev pub IsMissing : List Gate → Gate → Type 0
IsMissing gates gate = (j : ℕ) → j < length gates → get_or gates j no_gate ≢ gate

-- the first gate with these operands stands at this place
abbrev pub IsFirst : List Gate → Gate → ℕ → Type 0
IsFirst gates gate k = (k < length gates) × (get_or gates k no_gate ≡ gate) × ((j : ℕ) → j < k → get_or gates j no_gate ≢ gate)

-- the place of the gate with these operands, which goes last where it is missing
abbrev pub IsPlaced : List Gate → Gate → ℕ → List Gate → Type 0
IsPlaced old gate k new = (IsFirst old gate k × (new ≡ old)) ⊎ (IsMissing old gate × (k ≡ length old) × (new ≡ old ++ gate ∷ []))

-- no two gates have the same operands
abbrev pub AreDistinct : List Gate → Type 0
AreDistinct gates = (j k : ℕ) → j < k → k < length gates → get_or gates j no_gate ≢ get_or gates k no_gate
