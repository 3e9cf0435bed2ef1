use Rattle.std.proofs.Common.{◌≡◌, ◌∙◌, ℕ, ap, ap₂, sym, refl, List, Option, Some, None, option_map, is_some, true, subst, [], Ok, Err}
use Rattle.std.specs.Prelude.{Result, Box}
use Rattle.std.specs.Str.Parse.{ParsesUnsigned}
use Rattle.std.specs.Box.{box_value}
use Rattle.std.specs.Borrow.{Bor}
use Rattle.std.proofs.lemmas.Option.{same_Some}
use Rattle.clap.specs.Words.{App, Text, Row, subcommand_rows, subcommand_rows_of, subcommand_of, fault_of, HasMatchesOf, is_simple, is_simple_and_free, ReadsOne, found_of, rows_of}
use Rattle.clap.proofs.OnLiterals.{clap_on_literals}
use Rattle.clap.specs.declared.parser.matches.ArgMatches.TheViews.{out-SubCommand}
use Rattle.clap.specs.declared.parser.matches.SubCommand.{SubCommand}
use Rattle.clap.specs.declared.parser.matches.ArgMatches.{ArgMatches}
use Rattle.rgc_line.specs.App.{rgc_app}
use Rattle.rgc_line.specs.Inner.Table.{IsNumberText}
use Rattle.rgc_line.proofs.Whole.{IsListedAt, faultless}

-- a number's text is read as its number
pub number_read : {E : Type 0} (gives : Text → Result ℕ E → Type 0) (text : Text) (r : Option ℕ) → ReadsOne gives text r → IsNumberText text → ((x : Result ℕ E) → gives text x → ParsesUnsigned 64 10 text x)
    → (n : ℕ) × (r ≡ Some n) × ParsesUnsigned {E = Unit {0}} 64 10 text (Ok n)
number_read gives text None reads is parses = absurd (parses (Err reads.0) reads.1 is)
number_read gives text (Some n) reads is parses = (n, refl, parses (Ok n) reads)

-- a subcommand's name and rows, from two readings of it
pub rows_read : {Z : Type 0} (o : Option (Box SubCommand Z)) (read : Option (Bor Text × Bor ArgMatches)) (given : Bor Text × Bor ArgMatches)
    → option_map (λ (p : Bor Text × Bor ArgMatches). p.0.now) read ≡ option_map (λ b. (out-SubCommand (box_value b)).name.now) o
    → option_map (λ (p : Bor Text × Bor ArgMatches). rows_of (found_of p.1.now)) read ≡ option_map (λ p. p.1) (subcommand_rows o) → read ≡ Some given
    → subcommand_rows o ≡ Some (given.0.now, rows_of (found_of given.1.now))
rows_read o None given e h is = cc is
rows_read None (Some p) given e h is = cc e
rows_read (Some b) (Some p) given e h is =
    ap₂ (λ (n : Text) (r : List Row). Some (n, r)) (sym (same_Some _ _ e)) (sym (same_Some _ _ h)) ∙ ap (λ (q : Bor Text × Bor ArgMatches). Some (q.0.now, rows_of (found_of q.1.now))) (same_Some _ _ is)

-- what the walk of the words needs of the command, which is computed
pub rgc_is_free : is_simple_and_free rgc_app ≡ true
unfolding clap_on_literals rgc_app
rgc_is_free = refl

rgc_is_simple : is_simple rgc_app ≡ true
unfolding clap_on_literals rgc_app
rgc_is_simple = refl

-- what a parse says where it finds matches: there is no fault in the words, and their subcommand is one of the table
pub record IsParsedAt (words : List Text) (given : Option (Text × List Row)) : Type 0 where
  pub clean : fault_of rgc_app words ≡ []
  pub at : subcommand_of rgc_app words ≡ given
  pub listed : IsListedAt given

pub parsed : (a : App) (words : List Text) (m : ArgMatches) → a ≡ rgc_app → HasMatchesOf a words m → (is_simple_and_free a ≡ true → fault_of a words ≡ []) → IsParsedAt words (subcommand_rows_of m)
parsed a words m is matches kinds =
    let clean = subst (λ (a : App). is_simple_and_free a ≡ true → fault_of a words ≡ []) is kinds rgc_is_free in
    let at = sym (subst (λ (a : App). HasMatchesOf a words m) is matches rgc_is_simple).1 in
    record { clean = clean; at = at; listed = subst IsListedAt at (faultless words clean) }

pub listed_some : {Z : Type 0} (o : Option (Box SubCommand Z)) → IsListedAt (subcommand_rows o) → is_some o ≡ true
listed_some None h = absurd h
listed_some (Some b) h = refl
