-- One of a list of operations, and one of a list of stores.
use Rattle.std.proofs.Common.{◌≡◌, ℕ, zero, suc, ◌<◌, ◌≤◌, max, List, [], ◌∷◌, length, map, get_or, subst, sym, arith}
use Rattle.rg_words.specs.Layout.{Word}
use Rattle.rg_code.specs.declared.operation.Operation.{Operation}
use Rattle.rg_code.specs.declared.block.Store.{Store}
use Rattle.rg_code.specs.BlockView.{store}
use Rattle.rg_code.specs.Legal.{OperationFits, OperationsFit, IsLegalStore, AreLegalStores}
use Rattle.rg_machine.specs.Kept.{stores_room}

pub fits_at : (n : ℕ) (os : List Operation) (i : ℕ) (o : Operation) → OperationsFit n os → i < length os → o ≡ get_or os i o → OperationFits n o
fits_at n [] i o h less at = absurd (omega arith)
fits_at n (p ∷ os) zero o h less at = subst (λ (x : Operation). OperationFits n x) (sym at) h.0
fits_at n (p ∷ os) (suc i) o h less at = fits_at n os i o h.1 (omega arith) at

pub store_at : (words : List Word) (act : List Store) (i : ℕ) (a : Store) → AreLegalStores words (map store act) → i < length act → a ≡ get_or act i a → IsLegalStore words (store a)
store_at words [] i a h less at = absurd (omega arith)
store_at words (b ∷ act) zero a h less at = subst (λ (x : Store). IsLegalStore words (store x)) (sym at) h.0
store_at words (b ∷ act) (suc i) a h less at = store_at words act i a h.1 (omega arith) at

pub room_at : (act : List Store) (i : ℕ) (a : Store) → i < length act → a ≡ get_or act i a → length a.value.items ≤ stores_room (map store act)
room_at [] i a less at = absurd (omega arith)
room_at (b ∷ act) zero a less at = subst (λ (x : Store). length x.value.items ≤ max (length b.value.items) (stores_room (map store act))) (sym at) (omega arith)
room_at (b ∷ act) (suc i) a less at = let h = room_at act i a (omega arith) at in omega (arith, h)
