-- Listings: their words, one after another, and that no float stands in them.
use Rattle.std.proofs.Common.{◌≡◌, ℕ, zero, suc, ◌+◌, ◌<◌, Bool, true, false, ◌||◌, List, [], ◌∷◌, ◌++◌, length, map, take, codes, refl, sym, ap, ◌∙◌, add-one, arith}
use Rattle.std.specs.Prelude.{slice_index, slice_index_or, if◌then◌else◌}
use Rattle.serde_json.specs.Data.{Data, string}
use Rattle.serde_json.specs.Written.{has_float, items_have_float}
use Rattle.serde_json.specs.View.{items_of}
use Rattle.rg_words.specs.Layout.{Word, names_of, widths_of, fixed_of}
use Rattle.rg_code.specs.declared.operation.Operation.{Operation}
use Rattle.rg_code.specs.declared.code.PartCode.{PartCode}
use Rattle.rg_code.specs.declared.code.Code.{Code}
use Rattle.rg_code.specs.Code.{StoreTree, BlockTree, do_block, await_block, test_block, end_block}
use Rattle.rg_code.specs.BlockView.{blocks}
use Rattle.rgc_answers.specs.Listing.{operation_text, operations_data, store_data, stores_data, block_data, part_data, word_data, listing_data}

-- the word at a place, by what is known of it
word_at : (words : List Word) (i : ℕ) → i < length words → map word_data (take (suc i) words) ≡ map word_data (take i words) ++ word_data (record { name = slice_index_or (names_of words) i []; width = slice_index (widths_of words) i; fixed = slice_index_or (fixed_of words) i false }) ∷ []
word_at [] i less = absurd (omega arith)
word_at (w ∷ ws) zero less = refl
word_at (w ∷ ws) (suc i) less = ap (λ ds. word_data w ∷ ds) (word_at ws i (omega arith))

pub word_pushed : (words : List Word) (i : ℕ) (ds : List Data) (d : Data) (name : List ℕ) (width : ℕ) (fixed : Bool) → i < length words → ds ≡ map word_data (take i words) → d ≡ word_data (record { name = name; width = width; fixed = fixed }) → name ≡ slice_index_or (names_of words) i [] → width ≡ slice_index (widths_of words) i → fixed ≡ slice_index_or (fixed_of words) i false → ds ++ d ∷ [] ≡ map word_data (take (i + 1) words)
word_pushed words i ds d name width fixed less h k a b c =
    rw (h, k, a, b, c) (sym (word_at words i less) ∙ ap (λ n. map word_data (take n words)) (sym (add-one i)))

-- no item is a float
none : {A : Type 0} → (f : A → Data) → ((a : A) → has_float (f a) ≡ false) → (xs : List A) → items_have_float (items_of (map f xs)) ≡ false
none f h [] = refl
none f h (x ∷ xs) = ap (λ b. b || items_have_float (items_of (map f xs))) (h x) ∙ none f h xs

or_false : (a b : Bool) → a ≡ false → b ≡ false → (a || b) ≡ false
or_false a b h k = rw (h, k) refl

operations_none : (os : List Operation) → has_float (operations_data os) ≡ false
operations_none os = none (λ o. string (operation_text o)) (λ o. refl) os

store_none : (a : StoreTree) → has_float (store_data a) ≡ false
store_none a = or_false (has_float (operations_data a.value)) false (operations_none a.value) refl

stores_none : (act : List StoreTree) → has_float (stores_data act) ≡ false
stores_none act = none store_data store_none act

block_none : (b : BlockTree) → has_float (block_data b) ≡ false
block_none (do_block row next act) = or_false (has_float (stores_data act)) false (stores_none act) refl
block_none (await_block row next b act) =
    or_false (has_float (operations_data b)) _ (operations_none b) (or_false (has_float (stores_data act)) false (stores_none act) refl)
block_none (test_block row yes_place no_place b) = or_false (has_float (operations_data b)) false (operations_none b) refl
block_none end_block = refl

part_none : (p : PartCode) → has_float (part_data p) ≡ false
part_none p = or_false _ false (none block_data block_none (blocks p)) refl

fixed_none : (fixed : Bool) → items_have_float (items_of (if fixed then string (codes "fixed") ∷ [] else [])) ≡ false
fixed_none true = refl
fixed_none false = refl

word_none : (w : Word) → has_float (word_data w) ≡ false
word_none w = fixed_none w.fixed

pub listing_none : (c : Code) → has_float (listing_data c) ≡ false
listing_none c = or_false _ _ (none part_data part_none c.parts.items) (or_false _ false (none word_data word_none c.layout) refl)
