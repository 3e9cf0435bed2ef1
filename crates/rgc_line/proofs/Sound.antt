-- What is so of the walk over words in which clap finds no fault: each row has a value, the values of a number are numbers, and the subcommand that is met isn't `help`.
use Rattle.std.proofs.Common.{◌≡◌, ◌==◌, ◌&&◌, ◌||◌, ℕ, zero, suc, Bool, true, false, not, List, [], ◌∷◌, ◌++◌, length, Option, Some, None, is_some, refl, arith}
use Rattle.std.specs.Prelude.{find, fold, drop, nat_lt, encode_utf8, slice_get, if◌then◌else◌}
use Rattle.std.specs.List.{list_all, list_any}
use Rattle.std.specs.Option.{option_map_or}
use Rattle.std.specs.Str.{bytes_eq, chars}
use Rattle.std.proofs.lemmas.Bool.{ne_eqb, and_parts, cond_both}
use Rattle.clap.specs.Lexer.{long_of, short_of}
use Rattle.clap.specs.Facts.{parser_of_value, unwrap_or_range}
use Rattle.clap.specs.Kinds.{Kinds, or_else, range_kinds, request_kinds, value_kinds, values_kinds}
use Rattle.clap.specs.Values.{is_request, reading_of}
use Rattle.clap.specs.ValueTests.{accepts}
use Rattle.clap.proofs.ValueTestLemmas.{accepts-Accepts}
use Rattle.clap.specs.Walk.{Row, Rule, Text, Held, Names, Walk, Waiting, option, Step, trailing, subcommand, value, Outcome, done, waits, plain}
use Rattle.clap.specs.Walk.{is_empty, action_of, reading_by, most_values, takes_values, takes_several, is_pending, arg_by_id, arg_by_long, arg_by_short, arg_by_index, without, more_values, with_values, has_row, nothing_held}
use Rattle.clap.specs.Walk.{values_or_missing, used_as, used, used_by_id, settled_rows, settled, reacted, option_met, flag_met, long_met, short_met, attached_value, bundle_step, bundle_met, bundle, option_word, plain_word, after_flag, short_or_plain, long_or_other, subcommand_met, subcommand_or_other, word_met, to_positional, after_step, walked_from, walked, default_rows, with_default}
use Rattle.clap.specs.Faults.{values_fault, repeat_fault, set_fault, action_fault, given_default_fault, default_fault, use_fault, settle_fault, react_fault, option_fault, long_fault, short_fault, bundle_step_fault, flags_fault, bundle_fault, flag_word_fault, other_fault, word_fault, positional_fault, stray_fault, step_fault, turn_fault, walk_fault, defaults_fault}
use Rattle.clap.specs.Simple.{Shape}
use Rattle.clap.specs.declared.builder.action.ArgAction.{ArgAction}
use Rattle.clap.specs.declared.builder.action.ArgAction.TheVariants.{Set, Append, SetTrue, SetFalse, Count}
use Rattle.clap.specs.declared.builder.value_parser.ValueParser.{ValueParser}
use Rattle.clap.specs.declared.builder.value_parser.ValueParser.TheVariants as parser
use Rattle.clap.specs.declared.builder.value_parser.Reading.{Reading}
use Rattle.clap.specs.declared.builder.value_parser.Reading.TheVariants.{AsWritten}
use Rattle.clap.specs.declared.error.kind.ErrorKind.{ErrorKind}
use Rattle.clap.specs.declared.error.kind.ErrorKind.TheVariants as kind
use Rattle.clap.specs.declared.parser.matches.ValueSource.{ValueSource}
use Rattle.clap.specs.declared.parser.matches.ValueSource.TheVariants.{DefaultValue, CommandLine}
use Rattle.rgc_line.specs.App.{kinds, row_of}
use Rattle.rgc_line.specs.Inner.Table.{IsNumberText}

-- it is the id of a number, at some command of the table
unfoldable pub is_number_id : Text → Bool
is_number_id id = list_any (λ kind. list_any (λ (rule : Rule). is_some rule.parser && bytes_eq rule.id id) (row_of kind).rules) kinds

-- the parser takes the numbers of a range
abbrev pub is_unsigned : Option ValueParser → Bool
is_unsigned (Some (parser.Unsigned low high)) = true
is_unsigned _ = false

-- a use of the argument has a value: one at least is wanted, or some stand for none; or it is a fault, as help is
abbrev pub is_valued : Rule → Bool
is_valued a = nat_lt 0 (unwrap_or_range a.range).start_inclusive || (not (is_empty a.missing) || is_request (action_of a))

-- and a number's parser takes numbers
abbrev pub is_sound : Rule → Bool
is_sound a = is_valued a && (not (is_number_id a.id) || is_unsigned a.parser)

abbrev pub are_sound : List Rule → Bool
are_sound = list_all is_sound

-- the values of an id: there is a first one, and a number's is a number, and read as it is written
abbrev pub Fits : Text → Reading → List Text → Type 0
Fits id how [] = ⊥
Fits id how (v ∷ vs) = is_number_id id ≡ true → (how ≡ AsWritten) × IsNumberText v

-- each row has values of its id
abbrev pub AllSound : List Row → Type 0
AllSound [] = Unit {0}
AllSound (r ∷ rs) = Fits r.id r.reading r.values × AllSound rs

-- ---- kinds and tests

pub kinds_parts : (a b : Kinds) → or_else a b ≡ [] → (a ≡ []) × (b ≡ [])
kinds_parts [] b h = (refl, h)
kinds_parts (k ∷ ks) b h = cc h

passed : (b : Bool) (k : ErrorKind) → (if b then [] else k ∷ []) ≡ [] → b ≡ true
passed true k h = refl
passed false k h = cc h

pub implied : (a b : Bool) → (not a || b) ≡ true → a ≡ true → b ≡ true
implied true b h e = h
implied false b h e = cc e

-- a choice between two kinds of fault, and what follows from each
choice : {X : Type 0} (P : Kinds → X → Type 0) (t : Bool) (f g : Kinds) (x y : X) → P f x → P g y → P (if t then f else g) (if t then x else y)
choice P true f g x y a b = a
choice P false f g x y a b = b

-- ---- values

-- what a parser that takes the numbers of a range makes of the first value
parsed_number : (p : Option ValueParser) (ignore_case : Bool) (v : Text) (vs : List Text) → is_unsigned p ≡ true → values_kinds ignore_case (parser_of_value p) (v ∷ vs) ≡ []
    → (reading_of (parser_of_value p) ≡ AsWritten) × IsNumberText v
parsed_number (Some (parser.Unsigned low high)) ignore_case v vs is h =
    let first = kinds_parts (value_kinds ignore_case (parser.Unsigned low high) v) _ h in
    let fits = accepts-Accepts ignore_case (parser.Unsigned low high) v (passed (accepts ignore_case (parser.Unsigned low high) v) _ first.0) in
    (refl, (fits.0, fits.1))
parsed_number _ ignore_case v vs is h = cc is

-- there is one at least
abbrev IsFull : List Text → Type 0
IsFull [] = ⊥
IsFull (v ∷ vs) = Unit {0}

-- values that passed the parser of the argument
fits_read : (a : Rule) (values : List Text) → is_sound a ≡ true → IsFull values → values_fault a values ≡ [] → Fits a.id (reading_by a) values
fits_read a [] sound full h = full
fits_read a (v ∷ vs) sound full h = λ number. parsed_number a.parser a.ignore_case v vs (implied (is_number_id a.id) (is_unsigned a.parser) (and_parts (is_valued a) _ sound).1 number) h

fits_more : (id : Text) (how : Reading) (xs ys : List Text) → Fits id how xs → Fits id how (xs ++ ys)
fits_more id how [] ys h = absurd h
fits_more id how (x ∷ xs) ys h = h

-- ---- rows

with_values_sound : (id : Text) (how : Reading) (s : ValueSource) (values : List Text) → Fits id how values → (rows : List Row) → AllSound rows → AllSound (with_values id how s values rows)
with_values_sound id how s values v [] h = (v, tt)
with_values_sound id how s values v (r ∷ rs) h =
    cond_both (bytes_eq r.id id) (more_values s values r ++ rs) (r ∷ with_values id how s values rs) AllSound
    (λ _. (fits_more r.id r.reading r.values values h.0, h.1)) (λ _. (h.0, with_values_sound id how s values v rs h.1))

without_sound : (id : Text) (rows : List Row) → AllSound rows → AllSound (without id rows)
without_sound id [] h = tt
without_sound id (r ∷ rs) h = cond_both (bytes_eq r.id id) rs (r ∷ without id rs) AllSound (λ _. h.1) (λ _. (h.0, without_sound id rs h.1))

-- ---- one use

missing_full : (b : Bool) (missing : List Text) (q : Bool) (rest : Kinds) → (if b && (0 == 0) then kind.InvalidValue ∷ [] else rest) ≡ []
    → (b || (not (is_empty missing) || q)) ≡ true → q ≡ false → IsFull missing
missing_full true missing q rest h valued none = cc h
missing_full false [] q rest h valued none = cc (valued, none)
missing_full false (v ∷ vs) q rest h valued none = tt

values_full : (a : Rule) (values : List Text) → is_valued a ≡ true → range_kinds (unwrap_or_range a.range).start_inclusive (most_values a) (length values) ≡ []
    → is_request (action_of a) ≡ false → IsFull (values_or_missing a values)
values_full a [] valued range none = missing_full (nat_lt 0 (unwrap_or_range a.range).start_inclusive) a.missing (is_request (action_of a)) _ range valued none
values_full a (v ∷ vs) valued range none = tt

set_sound : (again : Bool) (a : Rule) (values : List Text) (rows : List Row) → is_sound a ≡ true → IsFull values → set_fault again a values rows ≡ []
    → AllSound rows → AllSound (with_values a.id (reading_by a) CommandLine values (without a.id rows))
set_sound again a values rows sound full fault h =
    with_values_sound a.id (reading_by a) CommandLine values (fits_read a values sound full (kinds_parts (repeat_fault again a.id rows) _ fault).1) _ (without_sound a.id rows h)

used_as_sound : (act : ArgAction) (again : Bool) (a : Rule) (values : List Text) (rows : List Row) → is_sound a ≡ true → (is_request act ≡ false → IsFull values)
    → action_fault act again a values rows ≡ [] → AllSound rows → AllSound (used_as act a.id (reading_by a) values rows)
used_as_sound Set again a values rows sound full fault h = set_sound again a values rows sound (full refl) fault h
used_as_sound SetTrue again a values rows sound full fault h = set_sound again a values rows sound (full refl) fault h
used_as_sound SetFalse again a values rows sound full fault h = set_sound again a values rows sound (full refl) fault h
used_as_sound Append again a values rows sound full fault h = with_values_sound a.id (reading_by a) CommandLine values (fits_read a values sound (full refl) fault) rows h
used_as_sound Count again a [] rows sound full fault h = absurd (full refl)
used_as_sound Count again a (v ∷ vs) rows sound full fault h =
    with_values_sound a.id (reading_by a) CommandLine (v ∷ vs) (fits_read a (v ∷ vs) sound tt fault) _ (without_sound a.id rows h)
used_as_sound _ again a values rows sound full fault h = h

used_sound : (again : Bool) (a : Rule) (values : List Text) (rows : List Row) → is_sound a ≡ true → use_fault again a values rows ≡ [] → AllSound rows → AllSound (used a values rows)
used_sound again a values rows sound fault h =
    let parts = kinds_parts (range_kinds (unwrap_or_range a.range).start_inclusive (most_values a) (length values)) _ fault in
    used_as_sound (action_of a) again a (values_or_missing a values) rows sound (values_full a values (and_parts (is_valued a) _ sound).0 parts.0) parts.1 h

-- ---- arguments that are looked up

abbrev IsSoundIf : Option Rule → Type 0
IsSoundIf None = Unit {0}
IsSoundIf (Some a) = is_sound a ≡ true

find_sound : (P : Rule → Bool) (c : List Rule) → are_sound c ≡ true → IsSoundIf (find P c)
find_sound P [] h = tt
find_sound P (a ∷ c) h =
    let parts = and_parts (is_sound a) _ h in
    cond_both (P a) (Some a) (find P c) IsSoundIf (λ _. parts.0) (λ _. find_sound P c parts.1)

by_id_sound : (again : Bool) (o : Option Rule) (values : List Text) (rows : List Row) → IsSoundIf o
    → option_map_or (λ a. use_fault again a values rows) o [] ≡ [] → AllSound rows → AllSound (used_by_id o values rows)
by_id_sound again None values rows sound fault h = h
by_id_sound again (Some a) values rows sound fault h = used_sound again a values rows sound fault h

-- ---- the walk

-- no subcommand, or one at which no fault is found
abbrev pub IsNoHelp : Shape → Option (Text × List Text) → Type 0
IsNoHelp s None = Unit {0}
IsNoHelp s (Some p) = other_fault s (Some p.0) [] nothing_held ≡ []

abbrev StepsPastHelp : Shape → Step → Type 0
StepsPastHelp s (subcommand name) = IsNoHelp s (Some (name, []))
StepsPastHelp s _ = Unit {0}

module _ (s : Shape) (sound : are_sound s.rules ≡ true) where
  abbrev c : List Rule
  c = s.rules

  abbrev again : Bool
  again = s.args_override_self

  -- where no fault is found, the rows stay sound
  abbrev Keeps : List Row → Kinds → List Row → Type 0
  Keeps old fault new = fault ≡ [] → AllSound old → AllSound new

  -- and so do those held after a flag
  abbrev KeepsMet : List Row → Kinds → Held × Outcome → Type 0
  KeepsMet old fault met = Keeps old fault met.0.rows

  -- and those held after a word, which doesn't ask for help
  abbrev Good : Held × Step → Type 0
  Good met = AllSound met.0.rows × StepsPastHelp s met.1

  settled_rows_sound : (p : Option (Text × List Text)) (rows : List Row) → Keeps rows (option_map_or (λ p. option_map_or (λ a. use_fault again a p.1 rows) (arg_by_id c p.0) []) p []) (settled_rows c p rows)
  settled_rows_sound None rows fault h = h
  settled_rows_sound (Some p) rows fault h = by_id_sound again (arg_by_id c p.0) p.1 rows (find_sound _ c sound) fault h

  pub settled_sound : (h : Held) → Keeps h.rows (settle_fault c again h) (settled c h).rows
  settled_sound h = settled_rows_sound h.pending h.rows

  reacted_sound : (a : Rule) (values : List Text) (h : Held) → is_sound a ≡ true → Keeps h.rows (react_fault c again a values h) (reacted c a values h).rows
  reacted_sound a values h is fault full =
      let parts = kinds_parts (settle_fault c again h) _ fault in
      used_sound again a values (settled c h).rows is parts.1 (settled_sound h parts.0 full)

  option_sound : (a : Rule) (v : Option Text) (h : Held) → is_sound a ≡ true → KeepsMet h.rows (option_fault c again a v h) (option_met c a v h)
  option_sound a (Some v) h is = reacted_sound a (v ∷ []) h is
  option_sound a None h is = settled_sound h

  flag_sound : (a : Rule) (v : Option Text) (h : Held) → is_sound a ≡ true → KeepsMet h.rows (if is_some v then kind.TooManyValues ∷ [] else react_fault c again a [] h) (flag_met c a v h)
  flag_sound a (Some v) h is fault full = full
  flag_sound a None h is fault full = reacted_sound a [] h is fault full

  long_sound : (o : Option Rule) (v : Option Text) (h : Held) → IsSoundIf o → KeepsMet h.rows (long_fault c again o v h) (long_met c o v h)
  long_sound None v h is = λ fault full. full
  long_sound (Some a) v h is = choice (KeepsMet h.rows) (takes_values a) _ _ (option_met c a v h) (flag_met c a v h) (option_sound a v h is) (flag_sound a v h is)

  -- the part of a bundle from a flag on
  abbrev Continues : (Held → Kinds) → (Held → Held × Outcome) → Type 0
  Continues fault met = (h : Held) → KeepsMet h.rows (fault h) (met h)

  short_sound : (o : Option Rule) (rest : Text) (h : Held) (fault_next : Held → Kinds) (met_next : Held → Held × Outcome) → Continues fault_next met_next → IsSoundIf o
      → KeepsMet h.rows (short_fault c again o rest h fault_next) (short_met c o rest h met_next)
  short_sound None rest h fault_next met_next go is = λ fault full. full
  short_sound (Some a) rest h fault_next met_next go is =
      choice (KeepsMet h.rows) (takes_values a) _ _ (option_met c a (attached_value rest) h) (met_next (reacted c a [] h)) (option_sound a (attached_value rest) h is)
      (λ fault full.
      let parts = kinds_parts (react_fault c again a [] h) _ fault in
      go (reacted c a [] h) parts.1 (reacted_sound a [] h is parts.0 full))

  bundle_step_sound : (x : Option ℕ) (flags : Text) (skip : ℕ) (so_far : Outcome) (h : Held) (fault_next : Text → ℕ → Held → Kinds) (met_next : Text → ℕ → Outcome → Held → Held × Outcome)
      → ((rest : Text) (k : ℕ) (o : Outcome) → Continues (fault_next rest k) (met_next rest k o))
      → KeepsMet h.rows (bundle_step_fault c again x flags skip h fault_next) (bundle_step c x flags skip so_far h met_next)
  bundle_step_sound None flags skip so_far h fault_next met_next go = λ fault full. full
  bundle_step_sound (Some x) flags zero so_far h fault_next met_next go =
      let rest = drop (length (encode_utf8 x)) flags in
      short_sound (arg_by_short c x) rest h (fault_next rest 0) (met_next rest 0 done) (go rest 0 done) (find_sound _ c sound)
  bundle_step_sound (Some x) flags (suc skip) so_far h fault_next met_next go = go (drop (length (encode_utf8 x)) flags) skip so_far h

  bundle_sound : (k : ℕ) (flags : Text) (skip : ℕ) (so_far : Outcome) (h : Held) → KeepsMet h.rows (flags_fault c again k flags skip h) (bundle_met c k flags skip so_far h)
  unfolding bundle_met flags_fault
  bundle_sound zero flags skip so_far h = λ fault full. full
  bundle_sound (suc k) flags skip so_far h =
      bundle_step_sound (slice_get (chars flags) 0) flags skip so_far h (flags_fault c again k) (bundle_met c k) (λ rest n o g. bundle_sound k rest n o g)

  option_word_sound : (o : Option Rule) (id word : Text) (h : Held) → AllSound h.rows → AllSound (option_word o id word h).0.rows
  option_word_sound None id word h full = full
  option_word_sound (Some a) id word h full = full

  plain_good : (waiting : Waiting) (word : Text) (h : Held) → AllSound h.rows → Good (plain_word c waiting word h)
  plain_good (option id) word h full = (option_word_sound (arg_by_id c id) id word h full, tt)
  plain_good _ word h full = (full, tt)

  flag_good : (waiting : Waiting) (word : Text) (h : Held) (o : Outcome) → AllSound h.rows → Good (after_flag c waiting word h o)
  flag_good waiting word h done full = (full, tt)
  flag_good waiting word h (waits id) full = (full, tt)
  flag_good waiting word h _ full = plain_good waiting word h full

  short_good : (waiting : Waiting) (word : Text) (o : Option Text) (h : Held) → option_map_or (λ flags. bundle_fault c again flags h) o [] ≡ []
      → AllSound h.rows → Good (short_or_plain c waiting word o h)
  short_good waiting word None h fault full = plain_good waiting word h full
  short_good waiting word (Some flags) h fault full =
      flag_good waiting word (bundle c flags h).0 (bundle c flags h).1 (bundle_sound (length flags) flags h.skip plain (record h { skip = 0 }) fault full)

  long_good : (waiting : Waiting) (word : Text) (o : Option (Text × Option Text)) (h : Held) → flag_word_fault c again o word h ≡ [] → AllSound h.rows → Good (long_or_other c waiting word o h)
  long_good waiting word None h fault full = short_good waiting word (short_of word) h fault full
  long_good waiting word (Some p) h fault full =
      let met = long_met c (arg_by_long c p.0) p.1 h in
      flag_good waiting word met.0 met.1 (long_sound (arg_by_long c p.0) p.1 h (find_sound _ c sound) fault full)

  other_good : (o : Option Text) (waiting : Waiting) (position : ℕ) (word : Text) (h : Held) → other_fault s o word h ≡ [] → AllSound h.rows → Good (subcommand_or_other c o waiting position word h)
  other_good (Some name) waiting position word h = λ fault full. (full, fault)
  other_good None waiting position word h =
      choice (λ fault met. fault ≡ [] → AllSound h.rows → Good met) (bytes_eq word (45 ∷ 45 ∷ [])) [] _ (h, trailing position) (long_or_other c waiting word (long_of word) h)
      (λ fault full. (full, tt)) (long_good waiting word (long_of word) h)

  -- where the walk stands between two words
  abbrev Stands : Walk → Type 0
  Stands w = AllSound w.held.rows × IsNoHelp s w.stopped

  positional_good : (o : Option Rule) (word : Text) (w : Walk) (h : Held) → option_map_or (λ a. positional_fault c again a h) o (stray_fault s) ≡ []
      → AllSound h.rows → IsNoHelp s w.stopped → Stands (to_positional c o word w h)
  positional_good None word w h fault full before = (full, before)
  positional_good (Some a) word w h fault full before =
      (choice (λ f (g : Held). Keeps h.rows f g.rows) (is_pending a h.pending && takes_several a) [] _ h (settled c h) (λ e k. k) (settled_sound h) fault full, tt)

  step_good : (step : Step) (word : Text) (w : Walk) (h : Held) → step_fault s w.position h step ≡ [] → Good (h, step) → IsNoHelp s w.stopped → Stands (after_step c word w h step)
  step_good value word w h fault good before = positional_good (arg_by_index c w.position) word w h fault good.0 before
  step_good (subcommand name) word w h fault good before = good
  step_good _ word w h fault good before = (good.0, before)

  module _ (names : Names) where
    walked_good : (stopped : Option (Text × List Text)) (w : Walk) (word : Text)
        → (if is_some stopped then []
        else or_else (word_fault s names w.is_trailing w.waiting word w.held)
        (step_fault s w.position (word_met c names w.is_trailing w.waiting w.position word w.held).0 (word_met c names w.is_trailing w.waiting w.position word w.held).1)) ≡ []
        → IsNoHelp s stopped → Stands w → Stands (walked_from c names stopped w word)
    walked_good (Some p) w word fault here before = (before.0, here)
    walked_good None w word fault here before =
        let met = word_met c names w.is_trailing w.waiting w.position word w.held in
        let parts = kinds_parts (word_fault s names w.is_trailing w.waiting word w.held) _ fault in
        let good = choice (λ fault met. fault ≡ [] → AllSound w.held.rows → Good met) w.is_trailing [] _ (w.held, value)
        (subcommand_or_other c (subcommand_met names w.waiting word) w.waiting w.position word w.held) (λ _ full. (full, tt))
        (other_good (subcommand_met names w.waiting word) w.waiting w.position word w.held) in
        step_good met.1 word w met.0 parts.1 (good parts.0 before.0) before.1

    pub walk_good : (words : List Text) (w : Walk) → walk_fault s names w words ≡ [] → Stands w → Stands (fold (walked c names) w words)
    unfolding walk_fault walked
    walk_good [] w fault before = before
    walk_good (word ∷ words) w fault before =
        let parts = kinds_parts (turn_fault s names w word) _ fault in
        walk_good words (walked c names w word) parts.1 (walked_good w.stopped w word parts.0 before.1 before)

-- ---- defaults

default_sound : (b : Bool) (values : List Text) (a : Rule) (rows : List Row) → is_sound a ≡ true → (if b || is_empty values then [] else given_default_fault a values) ≡ []
    → AllSound rows → AllSound (if b then rows else default_rows a.id (reading_by a) values rows)
default_sound true values a rows sound fault h = h
default_sound false [] a rows sound fault h = h
default_sound false (v ∷ vs) a rows sound fault h =
    let some : is_empty (v ∷ vs) ≡ false = ne_eqb _ _ (λ e. omega arith) in
    let given : given_default_fault a (v ∷ vs) ≡ [] = rw some at fault in
    with_values_sound a.id (reading_by a) DefaultValue (v ∷ vs) (fits_read a (v ∷ vs) sound tt (kinds_parts (request_kinds (action_of a)) _ given).1) rows h

pub defaults_sound : (c : List Rule) (rows : List Row) → are_sound c ≡ true → defaults_fault rows c ≡ [] → AllSound rows → AllSound (fold with_default rows c)
unfolding defaults_fault
defaults_sound [] rows sound fault h = h
defaults_sound (a ∷ c) rows sound fault h =
    let parts = kinds_parts (default_fault rows a) _ fault in
    let rules = and_parts (is_sound a) _ sound in
    defaults_sound c (with_default rows a) rules.1 parts.1 (default_sound (has_row a.id rows) a.defaults a rows rules.0 parts.0 h)
