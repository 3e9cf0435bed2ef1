-- Values without a float.
use Rattle.std.proofs.Common.{◌≡◌, ℕ, List, [], ◌∷◌, false, map, refl}
use Rattle.std.proofs.lemmas.Bool.{or_from}
use Rattle.serde_json.specs.Data.{string}
use Rattle.serde_json.specs.View.{items_of}
use Rattle.serde_json.specs.Written.{has_float, items_have_float}
use Rattle.rg_words.specs.Layout.{names_of}
use Rattle.rg_tree.specs.Statements.{PartTree, ProgramTree}
use Rattle.rg_monitor.specs.Entry.{Entry}
use Rattle.rg_monitor.specs.Lines.{name_of}
use Rattle.rgc_answers.specs.Records.{words_data, record_data}

words_exact : (names : List (List ℕ)) (xs ys : List ℕ) → items_have_float (items_of (words_data names xs ys)) ≡ false
words_exact (name ∷ names) (x ∷ xs) (y ∷ ys) = words_exact names xs ys
words_exact [] xs ys = refl
words_exact (name ∷ names) [] ys = refl
words_exact (name ∷ names) (x ∷ xs) [] = refl

cover_exact : (parts : List PartTree) (numbers : List ℕ) → items_have_float (items_of (map (λ k. string (name_of parts k)) numbers)) ≡ false
cover_exact parts [] = refl
cover_exact parts (k ∷ numbers) = cover_exact parts numbers

-- a record
pub record_exact : (program : ProgramTree) (r : Entry) → has_float (record_data program r) ≡ false
record_exact program r =
    or_from (items_have_float (items_of (map (λ k. string (name_of program.parts k)) r.cover))) _ (cover_exact program.parts r.cover)
    (or_from (items_have_float (items_of (words_data (names_of program.words) r.before r.after))) false (words_exact (names_of program.words) r.before r.after) refl)
