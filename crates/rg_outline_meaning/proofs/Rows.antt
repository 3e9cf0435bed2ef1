-- What stands for rows of expressions, words and statements, one by one and all at once.
use Rattle.std.proofs.Common.{◌≡◌, ℕ, ◌+◌, ◌<◌, ℤ, refl, sym, ◌∙◌, ap, subst, List, [], ◌∷◌, ◌++◌, map, take, length, slice_index_or}
use Rattle.std.proofs.lemmas.List.{map-append, append_assoc}
use Rattle.rg_words.specs.Layout.{Word}
use Rattle.rg_outline_syntax.specs.declared.written.Binder.{Binder}
use Rattle.rg_outline_meaning.specs.Meanings.{Meaning, whole}
use Rattle.rg_outline_meaning.specs.Names.{Outline, Names, with_number}
use Rattle.rg_outline_meaning.specs.Expressions.{StandsFor, AllStandFor, none, also, InstancesStandFor, no_number, number_and_more, IsInstance, WordsStandFor, no_words, words_and_more}
use Rattle.rg_outline_meaning.proofs.Placed.{take_next}

module _ (o : Outline) (words : List Word) where
  -- expressions, and one more
  pub all_and_one : (names : Names) (is : List ℕ) (ms : List Meaning) (i : ℕ) (m : Meaning) → AllStandFor o words names is ms → StandsFor o words names i m → AllStandFor o words names (is ++ i ∷ []) (ms ++ m ∷ [])
  all_and_one _ _ _ i m (none names) h = also names i [] m [] h (none names)
  all_and_one _ _ _ i m (also names j js n ns first rest) h = also names j (js ++ i ∷ []) n (ns ++ m ∷ []) first (all_and_one names js ns i m rest h)

  -- the numbers that expressions stand for, up to one, and that one
  pub wholes_next : (names : Names) (is : List ℕ) (zs : List ℤ) (k i : ℕ) (z : ℤ) → i ≡ slice_index_or is k i → k < length is → AllStandFor o words names (take k is) (map (λ y. whole y) zs) → StandsFor o words names i (whole z) → AllStandFor o words names (take (k + 1) is) (map (λ y. whole y) (zs ++ z ∷ []))
  wholes_next names is zs k i z at low all one = rw (take_next is k i at low, map-append (λ y. whole y) zs (z ∷ [])) (all_and_one names (take k is) (map (λ y. whole y) zs) i (whole z) all one)

  -- instances, and one more
  pub instances_and_one : (names : Names) (b : Binder) (index : List ℕ) (body : ℕ) (zs : List ℤ) (ms : List Meaning) (z : ℤ) (m : Meaning) → InstancesStandFor o words names b index body zs ms → StandsFor o words (with_number names index z) body m → IsInstance b m → InstancesStandFor o words names b index body (zs ++ z ∷ []) (ms ++ m ∷ [])
  instances_and_one _ _ _ _ _ _ z m (no_number names b index body) h is = number_and_more names b index body z [] m [] h is (no_number names b index body)
  instances_and_one _ _ _ _ _ _ z m (number_and_more names b index body y ys n ns first is_n rest) h is = number_and_more names b index body y (ys ++ z ∷ []) n (ns ++ m ∷ []) first is_n (instances_and_one names b index body ys ns z m rest h is)

  -- words of lists, and those of more
  pub words_and_words : (names : Names) (is js ks ls : List ℕ) → WordsStandFor o words names is ks → WordsStandFor o words names js ls → WordsStandFor o words names (is ++ js) (ks ++ ls)
  words_and_words _ _ js _ ls (no_words names) h = h
  words_and_words _ _ js _ ls (words_and_more names i is name l ranges zs ks rest made known given within members others) h =
      subst (λ ns. WordsStandFor o words names (i ∷ (is ++ js)) ns) (sym (append_assoc ks rest ls)) (words_and_more names i (is ++ js) name l ranges zs ks (rest ++ ls) made known given within members (words_and_words names is js rest ls others h))
