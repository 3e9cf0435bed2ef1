use Rattle.std.proofs.Common.{◌≡◌, ℕ, ◌+◌, ◌<◌, ◌∙◌, ◌∷◌, Bool, false, cond, drop, ap, sym, refl, true, is_some, [], List, Option, Some, None, map, length, get_or, option_map}
use Rattle.std.proofs.lemmas.Bool.{cond-true, cond-false}
use Rattle.std.proofs.lemmas.List.{at_drop_more, length-map}
use Rattle.std.proofs.lemmas.Option.{slice_get-map, slice_get-get_or}
use Rattle.std.specs.Prelude.{find, option_and_then, slice_get}
use Rattle.std.specs.Str.{bytes_eq}
use Rattle.std.specs.Borrow.{Bor}
use Rattle.clap.specs.Words.{Row as Given, Text, all_of, first_of}
use Rattle.rgc_line.specs.App.{kinds, row_of}
use Rattle.rgc_line.specs.Inner.Table.{HasOption}
use Rattle.rgc_line.specs.Values.{HasValue, file, optional}
use Rattle.rgc_line.specs.declared.commands.Row.{Row}
use Rattle.rgc_line.specs.declared.commands.Kind.{Kind}
use Rattle.rgc_line.specs.declared.commands.Kind.TheVariants.{Number}

-- an option that may be left out has its value
pub option_value : (rows : List Given) (id : Text) (o : Option (Bor Text)) → HasOption rows id o → HasValue rows id (optional file o)
option_value rows id None has = has
option_value rows id (Some name) has = has

-- the texts of a list of files, and the one at a place
pub file_read : (rows : List Given) (id : Text) (names : List (Bor Text)) (place : ℕ) (d : Bor Text) → all_of id rows ≡ Some (map (λ v. v.now) names) → place < length names
    → (texts : List Text) × (all_of id rows ≡ Some texts) × (length texts ≡ length names) × (slice_get texts place ≡ Some (get_or names place d).now)
file_read rows id names place d all within =
    let now : Bor Text → Text = λ v. v.now in
    (map now names, all, length-map names now, slice_get-map now names place ∙ ap (option_map now) (slice_get-get_or names place d within))

-- what is there has all its texts
pub all_there : (rows : List Given) (id text : Text) → first_of id rows ≡ Some text → (texts : List Text) × (all_of id rows ≡ Some texts)
all_there rows id text is = there (find (λ r. bytes_eq r.id id) rows) is
  where
    there : (o : Option Given) → option_and_then (λ (r : Given). slice_get r.values 0) o ≡ Some text → (texts : List Text) × (option_map (λ (r : Given). r.values) o ≡ Some texts)
    there None e = cc e
    there (Some row) e = (row.values, refl)

pub mapped_some : {A B : Type 0} (f : A → B) (o : Option A) (b : B) → option_map f o ≡ Some b → is_some o ≡ true
mapped_some f None b e = cc e
mapped_some f (Some a) b e = refl

-- the first row from an index on that passes a test: it is here, or after
module _ (P : Row → Bool) (rows : List Row) (i : ℕ) (d : Row) (within : i < length rows) where
  pub found_here : P (get_or rows i d) ≡ true → find P (drop i rows) ≡ Some (get_or rows i d)
  found_here h = at_drop_more (find P) rows i d within ∙ cond-true (P (get_or rows i d)) (Some (get_or rows i d)) (find P (drop (i + 1) rows)) h

  pub found_after : P (get_or rows i d) ≡ false → find P (drop (i + 1) rows) ≡ find P (drop i rows)
  found_after h = sym (at_drop_more (find P) rows i d within ∙ cond-false (P (get_or rows i d)) (Some (get_or rows i d)) (find P (drop (i + 1) rows)) h)

-- the kind of the first row whose name passes a test is the first kind whose name does
pub kind_found : (P : Text → Bool) (rows : List Row) (ks : List Kind) → map {B = Kind × Text} (λ (row : Row). (row.kind, row.name.now)) rows ≡ map (λ k. (k, (row_of k).name)) ks
    → option_map (λ (row : Row). row.kind) (find (λ (row : Row). P row.name.now) rows) ≡ find (λ k. P (row_of k).name) ks
kind_found P [] [] e = refl
kind_found P [] (k ∷ ks) e = cc e
kind_found P (row ∷ rows) [] e = cc e
kind_found P (row ∷ rows) (k ∷ ks) e =
    let head : (row.kind, row.name.now) ≡ (k, (row_of k).name) = cc in
    of_cond (P row.name.now) ∙ ap (λ o. cond (P row.name.now) (Some row.kind) o) (kind_found P rows ks cc)
    ∙ ap (λ (p : Kind × Text). cond (P p.1) (Some p.0) (find (λ k. P (row_of k).name) ks)) head
  where
    of_cond : (b : Bool) → option_map (λ (row : Row). row.kind) (cond b (Some row) (find (λ (row : Row). P row.name.now) rows))
        ≡ cond b (Some row.kind) (option_map (λ (row : Row). row.kind) (find (λ (row : Row). P row.name.now) rows))
    of_cond true = refl
    of_cond false = refl

-- the kind of a kind's name is the kind
named_first : (kind : Kind) → find (λ k. bytes_eq (row_of k).name (row_of kind).name) kinds ≡ Some kind
named_first Number = refl
named_first _ = refl

-- the kind that is found of a kind's name is the kind
pub kind_is : (o : Option Kind) (name : Text) (kind : Kind) → o ≡ find (λ k. bytes_eq (row_of k).name name) kinds → name ≡ (row_of kind).name → o ≡ Some kind
kind_is o name kind found named = found ∙ ap (λ n. find (λ k. bytes_eq (row_of k).name n) kinds) named ∙ named_first kind
