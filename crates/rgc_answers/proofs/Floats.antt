-- Values without a float.
use Rattle.std.proofs.Common.{◌≡◌, ℕ, List, [], ◌∷◌, false, Option, Some, None, Ordering, Less, Equal, Greater, refl}
use Rattle.std.proofs.lemmas.Bool.{or_parts, or_from}
use Rattle.std.specs.Ordering.{nat_cmp, match_ordering}
use Rattle.std.specs.Cmp.Lexicographic.{slice_cmp}
use Rattle.std.specs.Prelude.{codes}
use Rattle.serde_json.specs.Data.{Data, Members, no_members, member, put, number, string, unsigned}
use Rattle.serde_json.specs.Written.{has_float, members_have_float}
use Rattle.rg_words.specs.Layout.{Word, names_of}
use Rattle.rg_words.specs.States.{Valuation}
use Rattle.rg_find.specs.declared.judgement.Judged.{Judged}
use Rattle.rg_find.specs.declared.judgement.Judged.TheVariants.{Holds, Fails, GaveUp, TooLarge}
use Rattle.rgc.specs.declared.proofs_found.Unproved.{Unproved}
use Rattle.rgc_answers.specs.States.{with_values, state_data}
use Rattle.rgc_answers.specs.Proofs.{why_text, with_pair, with_states, unproved_members, unproved_data}

chosen : (o : Ordering) (below at above : Members) → members_have_float below ≡ false → members_have_float at ≡ false → members_have_float above ≡ false → members_have_float (match_ordering o below at above) ≡ false
chosen Less below at above b a c = b
chosen Equal below at above b a c = a
chosen Greater below at above b a c = c

-- a member more
pub put_exact : (k : List ℕ) (d : Data) (ms : Members) → has_float d ≡ false → members_have_float ms ≡ false → members_have_float (put k d ms) ≡ false
put_exact k d no_members whole none = or_from (has_float d) false whole refl
put_exact k d (member l e ms) whole none =
    let parts = or_parts (has_float e) (members_have_float ms) none in
    chosen (slice_cmp nat_cmp k l) (member k d (member l e ms)) (member l d ms) (member l e (put k d ms))
    (or_from (has_float d) (members_have_float (member l e ms)) whole none)
    (or_from (has_float d) (members_have_float ms) whole parts.1)
    (or_from (has_float e) (members_have_float (put k d ms)) parts.0 (put_exact k d ms whole parts.1))

-- a member more, whose value is a text or a count
text_exact : (k t : List ℕ) (ms : Members) → members_have_float ms ≡ false → members_have_float (put k (string t) ms) ≡ false
text_exact k t ms none = put_exact k (string t) ms refl none

count_exact : (k : List ℕ) (n : ℕ) (ms : Members) → members_have_float ms ≡ false → members_have_float (put k (number (unsigned n)) ms) ≡ false
count_exact k n ms none = put_exact k (number (unsigned n)) ms refl none

values_exact : (names : List (List ℕ)) (values : List ℕ) (ms : Members) → members_have_float ms ≡ false → members_have_float (with_values names values ms) ≡ false
values_exact (name ∷ names) (value ∷ values) ms none = values_exact names values (put name (number (unsigned value)) ms) (count_exact name value ms none)
values_exact [] values ms none = none
values_exact (name ∷ names) [] ms none = none

-- a state
state_exact : (words : List Word) (s : Valuation) → has_float (state_data words s) ≡ false
state_exact words s = values_exact (names_of words) s.values no_members refl

pair_exact : (words : List Word) (first : Valuation) (second : Option Valuation) (ms : Members) → members_have_float ms ≡ false → members_have_float (with_pair words first second ms) ≡ false
pair_exact words first (Some second) ms none =
    put_exact (codes "after") (state_data words second) (put (codes "before") (state_data words first) ms) (state_exact words second)
    (put_exact (codes "before") (state_data words first) ms (state_exact words first) none)
pair_exact words first None ms none = put_exact (codes "before") (state_data words first) ms (state_exact words first) none

states_exact : (words : List Word) (judged : Judged) (ms : Members) → members_have_float ms ≡ false → members_have_float (with_states words judged ms) ≡ false
states_exact words (Fails first second) ms none = pair_exact words first second ms none
states_exact words GaveUp ms none = none
states_exact words TooLarge ms none = none
states_exact words (Holds lines) ms none = none

members_exact : (name : List ℕ) (u : Unproved) (ms : Members) → members_have_float ms ≡ false → members_have_float (unproved_members name u ms) ≡ false
members_exact name u ms none =
    let kind = put (codes "kind") (string (codes "unproved")) ms in
    let named = put (codes "name") (string name) kind in
    let numbered = put (codes "number") (number (unsigned u.number)) named in
    text_exact (codes "why") (why_text u.judged) numbered
    (count_exact (codes "number") u.number named
    (text_exact (codes "name") name kind
    (text_exact (codes "kind") (codes "unproved") ms none)))

-- a condition without a proof
pub unproved_exact : (words : List Word) (name : List ℕ) (u : Unproved) → has_float (unproved_data words name u) ≡ false
unproved_exact words name u = states_exact words u.judged (unproved_members name u no_members) (members_exact name u no_members refl)
