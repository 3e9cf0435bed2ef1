-- States as JSON.
use Rattle.std.specs.Prelude.{ℕ, List, [], ◌∷◌}
use Rattle.serde_json.specs.Data.{Data, Members, put, object, no_members, number, unsigned}
use Rattle.rg_words.specs.Layout.{Word, names_of}
use Rattle.rg_words.specs.States.{Valuation}

-- the members, with each value at its name
abbrev pub with_values : List (List ℕ) → List ℕ → Members → Members
with_values (name ∷ names) (value ∷ values) ms = with_values names values (put name (number (unsigned value)) ms)
with_values [] values ms = ms
with_values (name ∷ names) [] ms = ms

-- an object with each word's value
abbrev pub state_data : List Word → Valuation → Data
state_data words s = object (with_values (names_of words) s.values no_members)
