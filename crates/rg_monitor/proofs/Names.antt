-- The names of parts, and the texts of changed words one by one.
use Rattle.std.proofs.Common.{◌≡◌, ℕ, zero, suc, ◌+◌, ◌<◌, ◌≤◌, List, [], ◌∷◌, ◌++◌, map, length, drop, get_or, refl, add-one, arith}
use Rattle.std.proofs.lemmas.List.{append_assoc}
use Rattle.std.specs.Prelude.{codes, string_bytes, slice_index, slice_index_or}
use Rattle.std.proofs.lemmas.Option.{slice_get-map, slice_get_read, slice_get_past}
use Rattle.rg_words.specs.Layout.{Word, names_of}
use Rattle.rg_words.specs.States.{IsState}
use Rattle.rg_tree.specs.ProgramView.{part}
use Rattle.rg_tree.specs.declared.part.Part.{Part}
use Rattle.rg_monitor.specs.Lines.{name_of, change_if, changes_text}

-- the name of a part that is there
pub name_there : (ps : List Part) (k who : ℕ) (p : Part) → who ≡ suc k → p ≡ get_or ps k p → k < length ps → string_bytes p.name ≡ name_of (map part ps) who
name_there ps k who p e at less = rw (e, slice_get-map part ps k, slice_get_read ps (length ps) k p refl less at) refl

-- past the last part there is none
pub no_name : (ps : List Part) (k who : ℕ) → who ≡ suc k → length ps ≤ k → codes "env" ≡ name_of (map part ps) who
no_name ps k who e past = rw (e, slice_get-map part ps k, slice_get_past ps k past) refl

-- the first of the words that are left
pub changes_step : (words : List Word) (s t : List ℕ) (i : ℕ) → IsState words s → IsState words t → i < length words
    → changes_text (drop i words) (drop i s) (drop i t) ≡ change_if (slice_index_or (names_of words) i []) (slice_index s i) (slice_index t i) ++ changes_text (drop (suc i) words) (drop (suc i) s) (drop (suc i) t)
changes_step [] s t i first second less = absurd (omega arith)
changes_step (w ∷ ws) (x ∷ xs) (y ∷ ys) zero first second less = refl
changes_step (w ∷ ws) (x ∷ xs) (y ∷ ys) (suc i) first second less = changes_step ws xs ys i first.1 second.1 (omega arith)
changes_step (w ∷ ws) [] t i first second less = absurd first
changes_step (w ∷ ws) (x ∷ xs) [] i first second less = absurd second

-- where it was added, the rest makes the same whole
pub changes_more : (words : List Word) (s t : List ℕ) (i : ℕ) (old new name : List ℕ) (x y : ℕ) → IsState words s → IsState words t → i < length words
    → new ≡ old ++ change_if name x y → name ≡ slice_index_or (names_of words) i [] → x ≡ slice_index s i → y ≡ slice_index t i
    → new ++ changes_text (drop (i + 1) words) (drop (i + 1) s) (drop (i + 1) t) ≡ old ++ changes_text (drop i words) (drop i s) (drop i t)
changes_more words s t i old new name x y first second less added named before after =
    let step = changes_step words s t i first second less in
    rw (add-one i, added, named, before, after, step) (append_assoc old (change_if (slice_index_or (names_of words) i []) (slice_index s i) (slice_index t i)) (changes_text (drop (suc i) words) (drop (suc i) s) (drop (suc i) t)))
