-- What is seen of words and locals.
use Rattle.std.proofs.Common.{◌≡◌, ℕ, zero, suc, Bool, true, false, List, [], ◌∷◌, length, get_or, refl, ap, sym, ◌∙◌, map, arith}
use Rattle.std.specs.Prelude.{slice_index, slice_set}
use Rattle.std.specs.List.{list_any}
use Rattle.std.proofs.lemmas.Bool.{or_parts}
use Rattle.std.proofs.lemmas.List.{length-set}
use Rattle.rg_c_values.specs.declared.print.Read.{Read}
use Rattle.rg_c_values.specs.declared.print.Read.TheVariants.{Plain, Load, Local}
use Rattle.rg_c_values.specs.Items.{read_of}
use Rattle.rg_c.specs.Reads.{with_locals}
use Rattle.rg_c.specs.Meaning.{read_from, seen}
use Rattle.rg_c.specs.Together.{is_local}

read_plain : (r : Read) (x y : ℕ) → is_local r ≡ false → read_from r x y ≡ x
read_plain Plain x y h = refl
read_plain Load x y h = refl
read_plain Local x y h = cc h

read_same : (r : Read) (x : ℕ) → read_from r x x ≡ x
read_same Plain x = refl
read_same Load x = refl
read_same Local x = refl

-- without locals the words are seen
pub seen_plain : (reads : List Read) (s ls : List ℕ) → list_any is_local reads ≡ false → seen reads s ls ≡ s
seen_plain [] s ls h = refl
seen_plain (r ∷ reads) [] ls h = refl
seen_plain (r ∷ reads) (x ∷ s) [] h = refl
seen_plain (r ∷ reads) (x ∷ s) (y ∷ ls) h =
    let d = or_parts _ _ h in
    ap (λ z. z ∷ seen reads s ls) (read_plain r x y d.0) ∙ ap (λ t. x ∷ t) (seen_plain reads s ls d.1)

-- and so is a word that isn't read from its local
pub seen_word : (reads : List Read) (s ls : List ℕ) (k : ℕ) → is_local (read_of reads k) ≡ false → slice_index (seen reads s ls) k ≡ slice_index s k
seen_word [] s ls k h = refl
seen_word (r ∷ reads) [] ls k h = refl
seen_word (r ∷ reads) (x ∷ s) [] k h = refl
seen_word (r ∷ reads) (x ∷ s) (y ∷ ls) zero h = read_plain r x y h
seen_word (r ∷ reads) (x ∷ s) (y ∷ ls) (suc k) h = seen_word reads s ls k h

-- of one that is, the local
pub seen_local : (reads : List Read) (s ls : List ℕ) (k : ℕ) → read_of reads k ≡ Local → length ls ≡ length s → slice_index (seen reads s ls) k ≡ slice_index ls k
seen_local [] s ls zero h e = cc h
seen_local [] s ls (suc k) h e = cc h
seen_local (r ∷ reads) [] [] k h e = refl
seen_local (r ∷ reads) [] (y ∷ ls) k h e = absurd (omega (arith, e))
seen_local (r ∷ reads) (x ∷ s) [] k h e = absurd (omega (arith, e))
seen_local (r ∷ reads) (x ∷ s) (y ∷ ls) zero h e = ap (λ q. read_from q x y) h
seen_local (r ∷ reads) (x ∷ s) (y ∷ ls) (suc k) h e = seen_local reads s ls k h (omega (arith, e))

-- a local that is set is seen
pub seen_set : (reads : List Read) (s ls : List ℕ) (k x : ℕ) → read_of reads k ≡ Local → length ls ≡ length s → seen reads s (slice_set ls k x) ≡ slice_set (seen reads s ls) k x
seen_set [] s ls zero x h e = cc h
seen_set [] s ls (suc k) x h e = cc h
seen_set (r ∷ reads) [] ls zero x h e = refl
seen_set (r ∷ reads) [] ls (suc k) x h e = refl
seen_set (r ∷ reads) (y ∷ s) [] k x h e = absurd (omega (arith, e))
seen_set (r ∷ reads) (y ∷ s) (l ∷ ls) zero x h e = ap (λ q. read_from q y x ∷ seen reads s ls) h
seen_set (r ∷ reads) (y ∷ s) (l ∷ ls) (suc k) x h e = ap (λ t. read_from r y l ∷ t) (seen_set reads s ls k x h (omega (arith, e)))

-- so is a word that is written, and isn't read from its local
pub seen_written : (reads : List Read) (s ls : List ℕ) (k x : ℕ) → is_local (read_of reads k) ≡ false → seen reads (slice_set s k x) ls ≡ slice_set (seen reads s ls) k x
seen_written [] s ls k x h = refl
seen_written (r ∷ reads) [] ls zero x h = refl
seen_written (r ∷ reads) [] ls (suc k) x h = refl
seen_written (r ∷ reads) (y ∷ s) [] zero x h = refl
seen_written (r ∷ reads) (y ∷ s) [] (suc k) x h = refl
seen_written (r ∷ reads) (y ∷ s) (l ∷ ls) zero x h = ap (λ z. z ∷ seen reads s ls) (read_plain r x l h)
seen_written (r ∷ reads) (y ∷ s) (l ∷ ls) (suc k) x h = ap (λ t. read_from r y l ∷ t) (seen_written reads s ls k x h)

-- a local with the value of its word makes no difference
copy_seen : (reads : List Read) (s ls : List ℕ) (k : ℕ) → length reads ≡ length s → length ls ≡ length s → seen reads s ls ≡ s → seen (slice_set reads k Local) s (slice_set ls k (slice_index s k)) ≡ s
copy_seen [] [] ls zero d e h = refl
copy_seen [] [] ls (suc k) d e h = refl
copy_seen [] (x ∷ s) ls k d e h = absurd (omega (arith, d))
copy_seen (r ∷ reads) [] ls k d e h = absurd (omega (arith, d))
copy_seen (r ∷ reads) (x ∷ s) [] k d e h = absurd (omega (arith, e))
copy_seen (r ∷ reads) (x ∷ s) (l ∷ ls) zero d e h = let tail : seen reads s ls ≡ s = cc in ap (λ t. x ∷ t) tail
copy_seen (r ∷ reads) (x ∷ s) (l ∷ ls) (suc k) d e h =
    let head : read_from r x l ≡ x = cc in
    let tail : seen reads s ls ≡ s = cc in
    ap (λ z. z ∷ seen (slice_set reads k Local) s (slice_set ls k (slice_index s k))) head ∙ ap (λ t. x ∷ t) (copy_seen reads s ls k (omega (arith, d)) (omega (arith, e)) tail)

-- locals that get the values of these words
abbrev pub copied : List ℕ → List ℕ → List ℕ → List ℕ
copied [] s ls = ls
copied (k ∷ ks) s ls = copied ks s (slice_set ls k (slice_index s k))

pub copies_seen : (ks : List ℕ) (reads : List Read) (s ls : List ℕ) → length reads ≡ length s → length ls ≡ length s → seen reads s ls ≡ s → seen (with_locals reads ks) s (copied ks s ls) ≡ s
copies_seen [] reads s ls d e h = h
copies_seen (k ∷ ks) reads s ls d e h =
    copies_seen ks (slice_set reads k Local) s (slice_set ls k (slice_index s k)) (length-set reads k Local ∙ d) (length-set ls k (slice_index s k) ∙ e) (copy_seen reads s ls k d e h)

pub length_copied : (ks s ls : List ℕ) → length (copied ks s ls) ≡ length ls
length_copied [] s ls = refl
length_copied (k ∷ ks) s ls = length_copied ks s (slice_set ls k (slice_index s k)) ∙ length-set ls k (slice_index s k)

-- a word that gets its local's value is seen as the local was
moved_seen : (reads : List Read) (s ls : List ℕ) (k : ℕ) → length reads ≡ length s → length ls ≡ length s → seen (slice_set reads k Local) s ls ≡ seen reads (slice_set s k (slice_index ls k)) ls
moved_seen [] [] ls zero d e = refl
moved_seen [] [] ls (suc k) d e = refl
moved_seen [] (x ∷ s) ls k d e = absurd (omega (arith, d))
moved_seen (r ∷ reads) [] ls k d e = absurd (omega (arith, d))
moved_seen (r ∷ reads) (x ∷ s) [] k d e = absurd (omega (arith, e))
moved_seen (r ∷ reads) (x ∷ s) (l ∷ ls) zero d e = ap (λ z. z ∷ seen reads s ls) (sym (read_same r l))
moved_seen (r ∷ reads) (x ∷ s) (l ∷ ls) (suc k) d e = ap (λ t. read_from r x l ∷ t) (moved_seen reads s ls k (omega (arith, d)) (omega (arith, e)))

-- the same is set at two places, in any order
set_both : {A : Type 0} → (xs : List A) (j k : ℕ) (x : A) → slice_set (slice_set xs j x) k x ≡ slice_set (slice_set xs k x) j x
set_both [] zero zero x = refl
set_both [] zero (suc k) x = refl
set_both [] (suc j) zero x = refl
set_both [] (suc j) (suc k) x = refl
set_both (y ∷ xs) zero zero x = refl
set_both (y ∷ xs) zero (suc k) x = refl
set_both (y ∷ xs) (suc j) zero x = refl
set_both (y ∷ xs) (suc j) (suc k) x = ap (λ t. y ∷ t) (set_both xs j k x)

moved_first : (ks : List ℕ) (reads : List Read) (s ls : List ℕ) (k : ℕ) → length reads ≡ length s → length ls ≡ length s →
    seen (with_locals (slice_set reads k Local) ks) s ls ≡ seen (with_locals reads ks) (slice_set s k (slice_index ls k)) ls
moved_first [] reads s ls k d e = moved_seen reads s ls k d e
moved_first (j ∷ ks) reads s ls k d e =
    ap (λ rs. seen (with_locals rs ks) s ls) (set_both reads k j Local) ∙ moved_first ks (slice_set reads j Local) s ls k (length-set reads j Local ∙ d) e

-- words that get their locals' values
abbrev pub returned : List ℕ → List ℕ → List ℕ → List ℕ
returned [] s ls = s
returned (k ∷ ks) s ls = returned ks (slice_set s k (slice_index ls k)) ls

-- where no other word is read from a local, they have what was seen
pub returned_seen : (ks : List ℕ) (reads : List Read) (s ls : List ℕ) → length reads ≡ length s → length ls ≡ length s → list_any is_local reads ≡ false → returned ks s ls ≡ seen (with_locals reads ks) s ls
returned_seen [] reads s ls d e h = sym (seen_plain reads s ls h)
returned_seen (k ∷ ks) reads s ls d e h =
    let size = length-set s k (slice_index ls k) in
    returned_seen ks reads (slice_set s k (slice_index ls k)) ls (d ∙ sym size) (e ∙ sym size) h ∙ sym (moved_first ks reads s ls k d e)

-- no locals
abbrev pub no_locals : List ℕ → List ℕ
no_locals s = map (λ x. 0) s
