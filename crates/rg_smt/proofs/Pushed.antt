-- Texts that are added one after another.
use Rattle.std.proofs.Common.{◌≡◌, ℕ, List, ◌++◌, ap, sym, ◌∙◌, append_assoc}

-- a text, and then all that follows
pub then_pushed : (a b old middle new : List ℕ) → middle ≡ old ++ a → new ≡ middle ++ b → new ≡ old ++ (a ++ b)
then_pushed a b old middle new e f = f ∙ ap (λ (t : List ℕ). t ++ b) e ∙ append_assoc old a b

-- the first of those that are left is added
pub one_more : (old new a rest left whole : List ℕ) → new ≡ old ++ a → left ≡ a ++ rest → old ++ left ≡ whole → new ++ rest ≡ whole
one_more old new a rest left whole e is h =
    ap (λ (t : List ℕ). t ++ rest) e ∙ append_assoc old a rest ∙ ap (λ (t : List ℕ). old ++ t) (sym is) ∙ h

-- the first two are
pub two_more : (old middle new a b rest left whole : List ℕ) → middle ≡ old ++ a → new ≡ middle ++ b → left ≡ a ++ (b ++ rest) → old ++ left ≡ whole → new ++ rest ≡ whole
two_more old middle new a b rest left whole e f is h =
    ap (λ (t : List ℕ). t ++ rest) f ∙ append_assoc middle b rest ∙ one_more old middle a (b ++ rest) left whole e is h
