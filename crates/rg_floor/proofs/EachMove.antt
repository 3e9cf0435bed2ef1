-- Each of the moves is a change of the words.
use Rattle.std.proofs.Common.{◌≡◌, ℕ, zero, suc, ◌<◌, List, [], ◌∷◌, length, map, get_or, subst, sym, arith}
use Rattle.rg_words.specs.Layout.{Word}
use Rattle.rg_tree.specs.declared.moves.Move.{Move}
use Rattle.rg_tree.specs.Moves.{move, IsChange, AreMoves}

pub change_at : (words : List Word) (ms : List Move) (i : ℕ) (m : Move) → AreMoves words (map move ms) → m ≡ get_or ms i m → i < length ms → IsChange words m.values.items
change_at words [] i m h at less = absurd (omega arith)
change_at words (x ∷ ms) zero m h at less = subst (λ (y : Move). IsChange words y.values.items) (sym at) h.0
change_at words (x ∷ ms) (suc i) m h at less = change_at words ms i m h.1 at (omega arith)
