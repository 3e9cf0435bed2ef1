-- States: for each word a value below 2 to the power of its width.
use Rattle.std.specs.Prelude.{◌≡◌, ℕ, ◌<◌, ◌^◌, Bool, true, false, List, [], ◌∷◌}
use Rattle.rg_words.specs.Layout.{Word, widths_of}

-- the values of the words, and their widths
pub record Valuation : Type 0 where
  pub widths : List ℕ
  pub values : List ℕ

-- one value for each width, below 2 to its power
abbrev pub AreValues : List ℕ → List ℕ → Type 0
AreValues [] [] = Unit {0}
AreValues (w ∷ ws) (x ∷ xs) = (x < 2 ^ w) × AreValues ws xs
AreValues [] (x ∷ xs) = ⊥
AreValues (w ∷ ws) [] = ⊥

-- a state of these words
abbrev pub IsState : List Word → List ℕ → Type 0
IsState words s = AreValues (widths_of words) s

-- where the word is fixed, both have the same value
abbrev pub SameIf : Bool → ℕ → ℕ → Type 0
SameIf true x y = x ≡ y
SameIf false x y = Unit {0}

-- the fixed words have the same values in both
unfoldable pub AgreeOnFixed : List Word → List ℕ → List ℕ → Type 0
AgreeOnFixed (w ∷ ws) (x ∷ xs) (y ∷ ys) = SameIf w.fixed x y × AgreeOnFixed ws xs ys
AgreeOnFixed [] xs ys = Unit {0}
AgreeOnFixed (w ∷ ws) [] ys = Unit {0}
AgreeOnFixed (w ∷ ws) (x ∷ xs) [] = Unit {0}

-- two states of the same words, which a step may lead from one to the other
pub record IsPair (words : List Word) (s t : List ℕ) : Type 0 where
  pub first : IsState words s
  pub second : IsState words t
  pub fixed : AgreeOnFixed words s t
