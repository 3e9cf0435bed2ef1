-- What C computes of the expressions that are made, over words within the limits.
use Rattle.std.specs.Prelude.{◌≡◌, ℕ, ◌<◌, ◌^◌, List}
use Rattle.rg_words.specs.Layout.{Word, widths_of, IsLayout}
use Rattle.rg_words.specs.States.{IsState}
use Rattle.rg_tree.specs.Trees.{Expression, Proposition}
use Rattle.rg_tree.specs.Meaning.{value_of, holds}
use Rattle.rg_tree.specs.Typing.{HasWidth, IsTyped}
use Rattle.rg_c_values.specs.Arithmetic.{c_value, c_holds}
use Rattle.rg_c_values.specs.WellFormed.{c_bits, IsBeside, IsC, IsCTest}
use Rattle.rg_c_values.specs.Translation.{container, computed, value_in_c, test_in_c, stored_in_c}

-- C computes the value of each expression
abbrev pub ValuesAreRight : Type 0
ValuesAreRight = (words : List Word) (s : List ℕ) → IsLayout words → IsState words s → (e : Expression) (w : ℕ) → HasWidth (widths_of words) e w →
    c_value (value_in_c (widths_of words) e) s ≡ value_of e s s

-- C computes the truth of each formula
abbrev pub TestsAreRight : Type 0
TestsAreRight = (words : List Word) (s : List ℕ) → IsLayout words → IsState words s → (f : Proposition) → IsTyped (widths_of words) f →
    c_holds (test_in_c (widths_of words) f) s ≡ holds f s s

-- what is stored is the value, which the word holds
abbrev pub StoresAreRight : Type 0
StoresAreRight = (words : List Word) (s : List ℕ) → IsLayout words → IsState words s → (e : Expression) (w : ℕ) → HasWidth (widths_of words) e w →
    (c_value (stored_in_c (widths_of words) w e) s ≡ value_of e s s) × (c_value (stored_in_c (widths_of words) w e) s < 2 ^ w)

-- each value is well formed, and of the type in which it is computed
abbrev pub ValuesAreC : Type 0
ValuesAreC = (words : List Word) → IsLayout words → (e : Expression) (w : ℕ) → HasWidth (widths_of words) e w →
    IsC (widths_of words) (value_in_c (widths_of words) e) × (c_bits (value_in_c (widths_of words) e) ≡ computed w)

-- each test is well formed
abbrev pub TestsAreC : Type 0
TestsAreC = (words : List Word) → IsLayout words → (f : Proposition) → IsTyped (widths_of words) f → IsCTest (widths_of words) (test_in_c (widths_of words) f)

-- what is stored is well formed, and of the word's type or a literal within it
abbrev pub StoresAreC : Type 0
StoresAreC = (words : List Word) → IsLayout words → (e : Expression) (w : ℕ) → HasWidth (widths_of words) e w →
    IsC (widths_of words) (stored_in_c (widths_of words) w e) × IsBeside (container w) (stored_in_c (widths_of words) w e)
