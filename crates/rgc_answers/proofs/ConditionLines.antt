-- Lines of conditions, one after another.
use Rattle.std.proofs.Common.{◌≡◌, ℕ, suc, ◌+◌, ◌<◌, List, [], ◌∷◌, ◌++◌, length, map, take, get_or, ap, sym, ◌∙◌, append_assoc, append-nil, arith}
use Rattle.std.proofs.lemmas.List.{map-append, length-map, length-take-le}
use Rattle.std.proofs.lemmas.Grind.{take_at_read}
use Rattle.rgc_line.specs.declared.command.Format.{Format}
use Rattle.rgc_answers.specs.Conditions.{condition_line, condition_lines}

module _ (format : Format) where
  -- the lines of some names, and of one more
  pub one_more : (k : ℕ) (names : List (List ℕ)) (name : List ℕ) → condition_lines format k (names ++ name ∷ []) ≡ condition_lines format k names ++ condition_line format (k + length names) name
  one_more k [] name = append-nil (condition_line format k name) ∙ ap (λ n. condition_line format n name) (omega arith)
  one_more k (first ∷ names) name =
      ap (λ l. condition_line format k first ++ l) (one_more (k + 1) names name)
      ∙ ap (λ n. condition_line format k first ++ (condition_lines format (k + 1) names ++ condition_line format n name)) (omega arith)
      ∙ sym (append_assoc (condition_line format k first) (condition_lines format (k + 1) names) (condition_line format (k + suc (length names)) name))

  -- the lines of the first items of a list, and of the next
  pub lines_taken : {X : Type 0} (f : X → List ℕ) (xs : List X) (i : ℕ) (x : X) → i < length xs → x ≡ get_or xs i x → condition_lines format 1 (map f (take (i + 1) xs)) ≡ condition_lines format 1 (map f (take i xs)) ++ condition_line format (i + 1) (f x)
  lines_taken f xs i x less at =
      let count : length (map f (take i xs)) ≡ i = length-map (take i xs) f ∙ length-take-le i xs (omega arith) in
      ap (λ l. condition_lines format 1 (map f l)) ((take_at_read xs i x less).1 ∙ ap (λ y. take i xs ++ y ∷ []) (sym at))
      ∙ ap (λ l. condition_lines format 1 l) (map-append f (take i xs) (x ∷ []))
      ∙ one_more 1 (map f (take i xs)) (f x)
      ∙ ap (λ n. condition_lines format 1 (map f (take i xs)) ++ condition_line format n (f x)) (omega (arith, count))
