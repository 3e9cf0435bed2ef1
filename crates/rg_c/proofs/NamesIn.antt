-- A name that is made of texts stands in others.
use Rattle.std.proofs.Common.{◌≡◌, ℕ, List, ◌++◌, ap, ◌∙◌, append_assoc}

pub name_in : (title role part rest : List ℕ) → (title ++ (role ++ part)) ++ rest ≡ title ++ (role ++ (part ++ rest))
name_in title role part rest = append_assoc title (role ++ part) rest ∙ ap (λ t. title ++ t) (append_assoc role part rest)
