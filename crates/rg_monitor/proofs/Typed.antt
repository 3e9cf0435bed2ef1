-- Each part of a typed program is typed.
use Rattle.std.proofs.Common.{◌≡◌, ℕ, zero, suc, ◌<◌, List, [], ◌∷◌, length, map, get_or, subst, sym, arith}
use Rattle.rg_words.specs.Layout.{Word}
use Rattle.rg_tree.specs.ProgramView.{specification, part}
use Rattle.rg_tree.specs.TypedPrograms.{IsTypedSpecification, AreTypedParts}
use Rattle.rg_tree.specs.declared.part.Part.{Part}

pub part_typed : (words : List Word) (parts : List Part) (i : ℕ) (p : Part) → AreTypedParts words (map part parts) → i < length parts → p ≡ get_or parts i p → IsTypedSpecification words (specification p.spec)
part_typed words [] i p h less at = absurd (omega arith)
part_typed words (q ∷ parts) zero p h less at = subst (λ (x : Part). IsTypedSpecification words (specification x.spec)) (sym at) h.0
part_typed words (q ∷ parts) (suc i) p h less at = part_typed words parts i p h.2 (omega arith) at
