-- What is pushed in turn is pushed together.
use Rattle.std.proofs.Common.{◌≡◌, ℕ, List, ◌++◌, ap, ◌∙◌, append_assoc}

-- a text, and then another
pub then_pushed : (a b old middle new : List ℕ) → middle ≡ old ++ a → new ≡ middle ++ b → new ≡ old ++ (a ++ b)
then_pushed a b old middle new e f = f ∙ ap (λ t. t ++ b) e ∙ append_assoc old a b
