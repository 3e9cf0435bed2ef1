-- What is so at the end of a level of a parse where clap finds no fault: a required argument and one with a default have a value, a number is one, and the subcommand that is met isn't `help`.
use Rattle.std.proofs.Common.{◌≡◌, ◌&&◌, ◌||◌, Bool, true, false, not, List, [], ◌∷◌, ◌++◌, Option, Some, None, is_some, refl, ap, subst, inl, inr, ◌⊎◌}
use Rattle.std.specs.Prelude.{find, fold, slice_get, option_map, option_and_then}
use Rattle.std.specs.List.{list_any}
use Rattle.std.specs.Option.{option_map_or}
use Rattle.std.specs.Str.{bytes_eq}
use Rattle.std.proofs.lemmas.Bool.{and_cases, and_parts, and_right, cond_both, not-false, not_from_false, or_cases, or_left, or_right, or_parts}
use Rattle.std.proofs.lemmas.List.Folds.{fold_along}
use Rattle.std.proofs.lemmas.Slice.Eq.{bytes_eq-Decides}
use Rattle.clap.specs.Facts.{explicit_source}
use Rattle.clap.specs.Kinds.{Kinds, check_kinds}
use Rattle.clap.specs.Values.{read_as}
use Rattle.clap.specs.Takes.{is_given}
use Rattle.clap.specs.Walk.{Row, Rule, Text, Names, is_empty, reading_by, at_row, more_values, with_values, first_of, has_row, row_text}
use Rattle.clap.specs.Walk.{settled, walk_from, walk, default_rows, with_default, nothing_held, rows_after, stop_after}
use Rattle.clap.specs.Faults.{settle_fault, walk_fault, defaults_fault, level_fault}
use Rattle.clap.specs.Simple.{Shape}
use Rattle.clap.specs.declared.builder.value_parser.Reading.{Reading}
use Rattle.clap.specs.declared.parser.matches.ValueSource.{ValueSource}
use Rattle.clap.specs.declared.parser.matches.ValueSource.TheVariants.{DefaultValue}
use Rattle.rgc_line.specs.Inner.Table.{IsNumberIf, IsNumberText}
use Rattle.rgc_line.proofs.Sound.{Fits, AllSound, IsNoHelp, is_number_id, are_sound, kinds_parts, walk_good, settled_sound, defaults_sound}

-- ---- required arguments

-- some rule of this id is required
abbrev pub is_required : Text → List Rule → Bool
is_required id c = list_any (λ a. bytes_eq a.id id && a.required) c

second_false : (a b : Bool) → (a && b) ≡ false → a ≡ true → b ≡ false
second_false true b h e = h
second_false false b h e = cc e

required_given : (id : Text) (c : List Rule) (rows : List Row) → is_required id c ≡ true → list_any (λ a. a.required && not (is_given a.id rows)) c ≡ false → is_given id rows ≡ true
required_given id [] rows h missing = cc h
required_given id (a ∷ c) rows h missing =
    let parts = or_parts (a.required && not (is_given a.id rows)) _ missing in
    elim (or_cases (bytes_eq a.id id && a.required) (is_required id c) h) [
      | inl here ↦
          let both = and_parts (bytes_eq a.id id) a.required here in
          subst (λ t. is_given t rows ≡ true) ((bytes_eq-Decides a.id id).0 both.0) (not-false (is_given a.id rows) (second_false a.required (not (is_given a.id rows)) parts.0 both.1))
      | inr after ↦ required_given id c rows after parts.1
    ]

-- ---- defaults

-- some rule of this id has defaults
abbrev pub has_default : Text → List Rule → Bool
has_default id c = list_any (λ a. bytes_eq a.id id && not (is_empty a.defaults)) c

-- values are put at some id: each row that was there is there
values_keep : (id other : Text) (s : ValueSource) (values : List Text) (missing : List Row) (rows : List Row) → has_row id rows ≡ true → has_row id (at_row other (more_values s values) missing rows) ≡ true
values_keep id other s values missing [] h = cc h
values_keep id other s values missing (r ∷ rs) h =
    cond_both (bytes_eq r.id other) (more_values s values r ++ rs) (r ∷ at_row other (more_values s values) missing rs) (λ rows. has_row id rows ≡ true) (λ _. h)
    (λ _. elim (or_cases (bytes_eq r.id id) (has_row id rs) h) [
      | inl here ↦ or_left _ _ here
      | inr after ↦ or_right (bytes_eq r.id id) _ (values_keep id other s values missing rs after)
    ])

default_rows_keep : (id other : Text) (how : Reading) (values : List Text) (rows : List Row) → has_row id rows ≡ true → has_row id (default_rows other how values rows) ≡ true
default_rows_keep id other how [] rows h = h
default_rows_keep id other how (v ∷ vs) rows h = values_keep id other DefaultValue (v ∷ vs) _ rows h

default_keeps : (id : Text) (rows : List Row) (a : Rule) → has_row id rows ≡ true → has_row id (with_default rows a) ≡ true
default_keeps id rows a h =
    cond_both (has_row a.id rows) rows (default_rows a.id (reading_by a) a.defaults rows) (λ rows. has_row id rows ≡ true) (λ _. h)
    (λ _. default_rows_keep id a.id (reading_by a) a.defaults rows h)

values_put : (id : Text) (how : Reading) (s : ValueSource) (values : List Text) (rows : List Row) → has_row id (with_values id how s values rows) ≡ true
values_put id how s values [] = or_left (bytes_eq id id) false ((bytes_eq-Decides id id).1 refl)
values_put id how s values (r ∷ rs) =
    cond_both (bytes_eq r.id id) (more_values s values r ++ rs) (r ∷ with_values id how s values rs) (λ rows. has_row id rows ≡ true) (λ same. or_left _ _ same)
    (λ _. or_right (bytes_eq r.id id) _ (values_put id how s values rs))

default_rows_put : (id : Text) (how : Reading) (values : List Text) (rows : List Row) → not (is_empty values) ≡ true → has_row id (default_rows id how values rows) ≡ true
default_rows_put id how [] rows h = cc h
default_rows_put id how (v ∷ vs) rows h = values_put id how DefaultValue (v ∷ vs) rows

defaults_have : (id : Text) (c : List Rule) (rows : List Row) → has_default id c ≡ true → has_row id (fold with_default rows c) ≡ true
defaults_have id [] rows h = cc h
defaults_have id (a ∷ c) rows h =
    elim (or_cases (bytes_eq a.id id && not (is_empty a.defaults)) (has_default id c) h) [
      | inl here ↦
          let both = and_parts (bytes_eq a.id id) (not (is_empty a.defaults)) here in
          let put : has_row a.id (with_default rows a) ≡ true =
          cond_both (has_row a.id rows) rows (default_rows a.id (reading_by a) a.defaults rows) (λ rows. has_row a.id rows ≡ true) (λ e. e)
          (λ _. default_rows_put a.id (reading_by a) a.defaults rows both.1) in
          fold_along with_default (λ (u : Bool) _. u) (λ rows _. has_row id rows ≡ true) (λ rows _ b. default_keeps id rows b) (with_default rows a) true c
          (subst (λ t. has_row t (with_default rows a) ≡ true) ((bytes_eq-Decides a.id id).0 both.0) put)
      | inr after ↦ defaults_have id c (with_default rows a) after
    ]

-- ---- a row that is looked up

-- it has values of its id, where there is one
abbrev FitsIf : Text → Option Row → Type 0
FitsIf id None = Unit {0}
FitsIf id (Some r) = Fits id r.reading r.values

found_fits : (id : Text) (rows : List Row) → AllSound rows → FitsIf id (find (λ r. bytes_eq r.id id) rows)
found_fits id [] h = tt
found_fits id (r ∷ rows) h =
    cond_both (bytes_eq r.id id) (Some r) (find (λ r. bytes_eq r.id id) rows) (FitsIf id)
    (λ same. subst (λ t. Fits t r.reading r.values) ((bytes_eq-Decides r.id id).0 same) h.0) (λ _. found_fits id rows h.1)

row_some : (id : Text) (rows : List Row) → has_row id rows ≡ true → is_some (find (λ r. bytes_eq r.id id) rows) ≡ true
row_some id [] h = cc h
row_some id (r ∷ rows) h =
    cond_both (bytes_eq r.id id) (Some r) (find (λ r. bytes_eq r.id id) rows) (λ o. is_some o ≡ true) (λ _. refl)
    (λ other. row_some id rows (rw other at h))

given_some : (o : Option Row) → option_map_or (λ r. explicit_source r.source) o false ≡ true → is_some o ≡ true
given_some None h = cc h
given_some (Some r) h = refl

first_some : (id : Text) (o : Option Row) → FitsIf id o → is_some o ≡ true → is_some (option_and_then (λ r. slice_get r.values 0) o) ≡ true
first_some id None fits some = cc some
first_some id (Some r) fits some = of_fit r.values fits
  where
    of_fit : (vs : List Text) → Fits id r.reading vs → is_some (slice_get vs 0) ≡ true
    of_fit [] fits = absurd fits
    of_fit (v ∷ vs) fits = refl

-- there is none, or its first value is a number
abbrev IsNumberAt : Option Row → Type 0
IsNumberAt o = (option_and_then (λ r. slice_get r.values 0) o ≡ None) ⊎ (text : Text) × (option_and_then row_text o ≡ Some text) × IsNumberText text

number_at : (id : Text) → is_number_id id ≡ true → (o : Option Row) → FitsIf id o → IsNumberAt o
number_at id is None fits = inl refl
number_at id is (Some r) fits = inr (of_fit r.reading r.values fits)
  where
    of_fit : (how : Reading) (vs : List Text) → Fits id how vs → (text : Text) × (option_map (read_as how) (slice_get vs 0) ≡ Some text) × IsNumberText text
    of_fit how [] fits = absurd fits
    of_fit how (v ∷ vs) fits = (v, ap (λ h. Some (read_as h v)) (fits is).0, (fits is).1)

-- ---- one level of a parse

-- what is so at the end of a level where no fault was found: where there is no subcommand, an argument that is required or has a default has a value
pub record IsComplete (s : Shape) (names : Names) (words : List Text) (has_subcommand : Bool) : Type 0 where
  pub past_help : IsNoHelp s (stop_after s.rules names words)
  pub number : (id : Text) → is_number_id id ≡ true → IsNumberIf (rows_after s.rules names words) id
  pub there : (id : Text) → (is_required id s.rules || has_default id s.rules) ≡ true → has_subcommand ≡ false
      → is_some (first_of id (rows_after s.rules names words)) ≡ true
  pub subcommand : s.subcommand_required ≡ true → has_subcommand ≡ true

wants_none : (help wants_subcommand wants_argument : Bool) → check_kinds help wants_subcommand wants_argument ≡ [] → (wants_subcommand ≡ false) × (wants_argument ≡ false)
wants_none false false false h = (refl, refl)
wants_none _ _ _ h = cc h

pub level_complete : (s : Shape) (names : Names) (words : List Text) (has_subcommand : Bool) (below : Kinds) → are_sound s.rules ≡ true
    → level_fault s names nothing_held words has_subcommand below ≡ [] → IsComplete s names words has_subcommand
level_complete s names words has_subcommand below sound fault =
    let end = (walk s.rules names nothing_held words).held in
    let rows = rows_after s.rules names words in
    let at_walk = kinds_parts (walk_fault s names (walk_from nothing_held) words) _ fault in
    let at_settle = kinds_parts (settle_fault s.rules s.args_override_self end) _ (kinds_parts below _ at_walk.1).1 in
    let at_defaults = kinds_parts (defaults_fault (settled s.rules end).rows s.rules) _ at_settle.1 in
    let good = walk_good s sound names words (walk_from nothing_held) at_walk.0 (tt, tt) in
    let full : AllSound rows = defaults_sound s.rules (settled s.rules end).rows sound at_defaults.0 (settled_sound s sound end at_settle.0 good.0) in
    let wants = wants_none _ _ _ at_defaults.1 in
    record {
      past_help = good.1;
      number = λ id is. number_at id is (find (λ r. bytes_eq r.id id) rows) (found_fits id rows full);
      there = λ id is none. first_some id (find (λ r. bytes_eq r.id id) rows) (found_fits id rows full)
          (elim (or_cases (is_required id s.rules) (has_default id s.rules) is) [
            | inl required ↦ given_some (find (λ r. bytes_eq r.id id) rows)
                (required_given id s.rules rows required
                (second_false (not (s.subcommand_negates_reqs && has_subcommand)) _ wants.1 (not_from_false _ (and_right s.subcommand_negates_reqs has_subcommand none))))
            | inr default ↦ row_some id rows (defaults_have id s.rules (settled s.rules end).rows default)
          ]);
      subcommand = λ required. elim (and_cases (not has_subcommand) s.subcommand_required wants.0) [
        | inl met ↦ not-false has_subcommand met
        | inr other ↦ cc (required, other)
      ];
    }
