-- The places of words that stay, one after another.
use Rattle.std.proofs.Common.{◌≡◌, ◌∙◌, ℕ, ◌+◌, ◌<◌, Bool, false, cond, List, [], ◌∷◌, ◌++◌, take, get_or, ap, arith}
use Rattle.std.specs.List.{range_with_len}
use Rattle.std.proofs.lemmas.List.FromFn.{length-range_with_len, get_or-range_with_len}
use Rattle.rg_erase.specs.Erased.{staying}
use Rattle.rg_erase.proofs.Loops.{staying_more}

pub kept_more : (erased : List Bool) (n k : ℕ) → k < n → staying erased (take (k + 1) (range_with_len 0 n)) ≡ staying erased (take k (range_with_len 0 n)) ++ cond (get_or erased k false) [] (k ∷ [])
kept_more erased n k less =
    let there : get_or (range_with_len 0 n) k 0 ≡ k = get_or-range_with_len 0 n k 0 less ∙ omega arith in
    staying_more erased (range_with_len 0 n) k 0 (omega (arith, less, length-range_with_len 0 n))
    ∙ ap (λ x. staying erased (take k (range_with_len 0 n)) ++ cond (get_or erased k false) [] (x ∷ [])) there
