-- Names of parts by their numbers.
use Rattle.std.proofs.Common.{◌≡◌, ℕ, zero, suc, ◌<◌, List, [], ◌∷◌, length, map, get_or, subst, sym, refl, arith}
use Rattle.std.specs.Prelude.{string_bytes}
use Rattle.rg_tree.specs.ProgramView.{part}
use Rattle.rg_tree.specs.declared.part.Part.{Part}
use Rattle.rgc_answers.specs.Numbers.{part_name}

pub part_name_at : (parts : List Part) (i : ℕ) (p : Part) → i < length parts → p ≡ get_or parts i p → part_name (map part parts) (suc i) ≡ string_bytes p.name
part_name_at [] i p less at = absurd (omega arith)
part_name_at (q ∷ parts) zero p less at = subst (λ (x : Part). string_bytes q.name ≡ string_bytes x.name) (sym at) refl
part_name_at (q ∷ parts) (suc i) p less at = part_name_at parts i p (omega arith) at
