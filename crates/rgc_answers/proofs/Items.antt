-- Texts of items, one after another.
use Rattle.std.proofs.Common.{◌≡◌, ◌<◌, ◌+◌, ◌∙◌, ◌++◌, [], ◌∷◌, ℕ, List, length, map, take, get_or, false, Option, Result, Ok, Err, ap, refl, sym, subst}
use Rattle.std.specs.Prelude.{String, string_bytes, IfOk}
use Rattle.std.specs.Global.{Global}
use Rattle.std.specs.List.{flat_map}
use Rattle.std.specs.Io.KnownBytes.{Appends}
use Rattle.serde_json.specs.Data.{Data}
use Rattle.serde_json.specs.Written.{has_float}
use Rattle.rg_words.proofs.Written.{items_more, appends_both}
use Rattle.rgc_answers.specs.Lines.{json_line}

-- the texts of some items, and of the next
pub item_added : {X : Type 0} (f : X → List ℕ) (xs : List X) (i : ℕ) (d : X) (before line after : List ℕ) → i < length xs → before ≡ flat_map f (take i xs) → line ≡ f (get_or xs i d) → after ≡ before ++ line → after ≡ flat_map f (take (i + 1) xs)
item_added f xs i d before line after within was is added =
    added ∙ ap (λ l. l ++ line) was ∙ ap (λ l. flat_map f (take i xs) ++ l) is ∙ sym (items_more f xs i d within)

-- two texts that went out, one after the other, under other names
pub both_went : (old middle new : Option (List ℕ)) (a b c d : List ℕ) → Appends old middle a → Appends middle new b → a ≡ c → b ≡ d → Appends old new (c ++ d)
both_went old middle new a b c d h k e f =
    subst (λ t. Appends old new (t ++ d)) e (subst (λ t. Appends old new (a ++ t)) f (appends_both old middle new a b h k))

-- the texts of some items went out, and then that of the next
pub went_more : (old middle new : Option (List ℕ)) (before line after : List ℕ) → Appends old middle before → Appends middle new line → before ++ line ≡ after → Appends old new after
went_more old middle new before line after h k e = subst (λ t. Appends old new t) e (appends_both old middle new before line h k)

-- the texts of items that are made of others
pub flat_map_made : {X Y : Type 0} (f : Y → List ℕ) (g : X → Y) (xs : List X) → flat_map (λ x. f (g x)) xs ≡ flat_map f (map g xs)
flat_map_made f g [] = refl
flat_map_made f g (x ∷ xs) = ap (λ t. f (g x) ++ t) (flat_map_made f g xs)

-- the line of a value without a float
pub lined : {E : Type 0} (r : Result (String Global) E) (v d : Data) → has_float d ≡ false → v ≡ d → IfOk r (λ s. has_float v ≡ false → string_bytes s ≡ json_line v) → IfOk r (λ s. string_bytes s ≡ json_line d)
lined (Ok s) v d exact is h = h (ap (λ x. has_float x) is ∙ exact) ∙ ap (λ x. json_line x) is
lined (Err e) v d exact is h = tt
