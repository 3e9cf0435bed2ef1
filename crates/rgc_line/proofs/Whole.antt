-- Where clap finds no fault in the words, they name a subcommand of the table, and it has what its command needs.
use Rattle.std.proofs.Common.{◌≡◌, ◌&&◌, ◌||◌, Bool, true, false, not, List, [], ◌∷◌, Option, Some, None, is_some, refl, sym, subst, codes, inl, inr}
use Rattle.std.specs.Prelude.{find, option_map}
use Rattle.std.specs.Option.{option_map_or}
use Rattle.std.specs.Str.{bytes_eq}
use Rattle.std.proofs.lemmas.Bool.{and_parts, cond_both, or_cases}
use Rattle.std.proofs.lemmas.Slice.Eq.{bytes_eq-Decides}
use Rattle.clap.specs.Words.{Row, Rule, Shape, Text, first_of, fault_of, subcommand_of}
use Rattle.clap.specs.Walk.{answers_to, nothing_held, stop_after, walk_from}
use Rattle.clap.specs.Faults.{entered_fault, level_fault, walk_fault}
use Rattle.clap.specs.Simple.{argument_words, built, entered, label_of, names_of, rows_at}
use Rattle.clap.proofs.OnLiterals.{clap_on_literals}
use Rattle.rgc_line.specs.App.{rgc_app, row_of, number_settings}
use Rattle.rgc_line.specs.Inner.Table.{IsListed, IsNumber, IsNumberIf, is_wanted, IsSound, AreSound}
use Rattle.rgc_line.specs.declared.commands.Kind.{Kind}
use Rattle.rgc_line.specs.declared.commands.Kind.TheVariants.{Number, Check, Conditions, Prove, Emit, Accesses, Run, Valid, Clauses, Find, Outline, Verify, Complete, Challenge, Explain}
use Rattle.rgc_line.proofs.Sound.{IsNoHelp, is_number_id, are_sound, implied, kinds_parts}
use Rattle.rgc_line.proofs.Complete.{IsComplete, is_required, has_default, level_complete}

-- the shape has the argument where it is wanted, and a number's id is one
abbrev has_rule : Shape → Rule → Bool
has_rule s rule = (not (is_wanted rule) || (is_required rule.id s.rules || has_default rule.id s.rules)) && (not (is_some rule.parser) || is_number_id rule.id)

abbrev has_rules : Shape → List Rule → Bool
has_rules s [] = true
has_rules s (rule ∷ rules) = has_rule s rule && has_rules s rules

some_there : (o : Option Text) → is_some o ≡ true → (text : Text) × (o ≡ Some text)
some_there None h = cc h
some_there (Some text) h = (text, refl)

some_number : (rows : List Row) (id : Text) → is_some (first_of id rows) ≡ true → IsNumberIf rows id → IsNumber rows id
some_number rows id h (inl none) = let bad : false ≡ true = rw none at h in cc
some_number rows id h (inr number) = number

-- what the words have at an argument, where they have one that is wanted, and a number at a number's
rule_sound : (wanted is_number : Bool) (rows : List Row) (id : Text) → (wanted ≡ true → is_some (first_of id rows) ≡ true) → (is_number ≡ true → IsNumberIf rows id) → IsSound wanted is_number rows id
rule_sound true true rows id there number = some_number rows id (there refl) (number refl)
rule_sound true false rows id there number = some_there (first_of id rows) (there refl)
rule_sound false true rows id there number = number refl
rule_sound false false rows id there number = tt

rules_sound : (s : Shape) (words : List Text) → IsComplete s [] words false → (rules : List Rule) → has_rules s rules ≡ true
    → AreSound (rows_at s words).1 rules
rules_sound s words complete [] has = tt
rules_sound s words complete (rule ∷ rules) has =
    let parts = and_parts (has_rule s rule) _ has in
    let rule_parts = and_parts (not (is_wanted rule) || (is_required rule.id s.rules || has_default rule.id s.rules)) _ parts.0 in (
      rule_sound (is_wanted rule) (is_some rule.parser) (rows_at s words).1 rule.id
          (λ wanted. complete.there rule.id (implied (is_wanted rule) _ rule_parts.0 wanted) refl)
          (λ is. complete.number rule.id (implied (is_some rule.parser) _ rule_parts.1 is)),
      rules_sound s words complete rules parts.1,
    )

-- the shape is that of a command of the table
pub record IsOf (s : Shape) : Type 0 where
  pub kind : Kind
  pub name : s.name ≡ (row_of kind).name
  pub has : (has_rules s number_settings && has_rules s (row_of kind).rules) ≡ true
  pub sound : are_sound s.rules ≡ true

abbrev IsOfIf : Option Shape → Type 0
IsOfIf None = Unit {0}
IsOfIf (Some s) = IsOf s

-- each shape that answers is that of a command of the table
abbrev AreOf : Text → List Shape → Type 0
AreOf met [] = Unit {0}
AreOf met (s ∷ ss) = (answers_to met (label_of s) ≡ true → IsOf s) × AreOf met ss

found_is_of : (met : Text) (ss : List Shape) → AreOf met ss → IsOfIf (find (λ s. answers_to met (label_of s)) ss)
found_is_of met [] are = tt
found_is_of met (s ∷ ss) are =
    cond_both (answers_to met (label_of s)) (Some s) (find (λ s. answers_to met (label_of s)) ss) IsOfIf are.0 (λ _. found_is_of met ss are.1)

-- `help` isn't met
help_not_met : (met : Text) (after : List Text) → IsNoHelp (built rgc_app).top (Some (met, after)) → (bytes_eq (codes "help") met || false) ≡ true → ⊥
unfolding clap_on_literals rgc_app
help_not_met met after past h =
    let is : codes "help" ≡ met = elim (or_cases (bytes_eq (codes "help") met) false h) [ inl e ↦ (bytes_eq-Decides (codes "help") met).0 e | inr e ↦ cc e ] in
    let bad : IsNoHelp (built rgc_app).top (Some (codes "help", after)) = subst (λ m. IsNoHelp (built rgc_app).top (Some (m, after))) (sym is) past in
    cc bad

shapes_are_of : (met : Text) (after : List Text) → IsNoHelp (built rgc_app).top (Some (met, after)) → AreOf met (built rgc_app).subs
unfolding clap_on_literals rgc_app is_number_id
shapes_are_of met after past =
    (of Number refl refl refl, (of Check refl refl refl, (of Conditions refl refl refl, (of Prove refl refl refl, (of Emit refl refl refl, (of Accesses refl refl refl, (of Run refl refl refl, (of Valid refl refl refl, (of Clauses refl refl refl, (of Find refl refl refl, (of Outline refl refl refl, (of Verify refl refl refl, (of Complete refl refl refl, (of Challenge refl refl refl, (of Explain refl refl refl, ((λ h. absurd (help_not_met met after past h)), tt))))))))))))))))
  where
    of : {A : Type 0} {s : Shape} (kind : Kind) → s.name ≡ (row_of kind).name → (has_rules s number_settings && has_rules s (row_of kind).rules) ≡ true → are_sound s.rules ≡ true → A → IsOf s
    of kind name has sound h = record { kind = kind; name = name; has = has; sound = sound }

-- there is a subcommand, which is one of the table, and `clap` finds no fault in its words
abbrev pub IsListedAt : Option (Text × List Row) → Type 0
IsListedAt None = ⊥
IsListedAt (Some p) = IsListed p.0 p.1

shape_listed : (words : List Text) (o : Option Shape) → IsOfIf o → option_map_or (λ s. level_fault s [] nothing_held words false []) o [] ≡ []
    → is_some (option_map (λ s. rows_at s words) o) ≡ true → IsListedAt (option_map (λ s. rows_at s words) o)
shape_listed words None of fault met = cc met
shape_listed words (Some s) of fault met =
    let complete = level_complete s [] words false [] of.sound fault in
    let has = and_parts (has_rules s number_settings) _ of.has in
    record {
      kind = of.kind;
      named = of.name;
      whole = (rules_sound s words complete number_settings has.0, rules_sound s words complete (row_of of.kind).rules has.1);
    }

stop_listed : (stop : Option (Text × List Text)) → IsNoHelp (built rgc_app).top stop → entered_fault (built rgc_app) stop ≡ [] → is_some (entered (built rgc_app) stop) ≡ true
    → IsListedAt (entered (built rgc_app) stop)
stop_listed None past fault met = cc met
stop_listed (Some p) past fault met =
    shape_listed p.1 (find (λ s. answers_to p.0 (label_of s)) (built rgc_app).subs) (found_is_of p.0 (built rgc_app).subs (shapes_are_of p.0 p.1 past)) fault met

top_wants : (built rgc_app).top.subcommand_required ≡ true
unfolding clap_on_literals rgc_app
top_wants = refl

top_sound : are_sound (built rgc_app).top.rules ≡ true
unfolding clap_on_literals rgc_app is_number_id
top_sound = refl

pub faultless : (words : List Text) → fault_of rgc_app words ≡ [] → IsListedAt (subcommand_of rgc_app words)
faultless words fault =
    let b = built rgc_app in
    let arguments = argument_words rgc_app words in
    let stop = stop_after b.top.rules (names_of b) arguments in
    let level = level_complete b.top (names_of b) arguments (is_some (entered b stop)) (entered_fault b stop) top_sound fault in
    let below = kinds_parts (entered_fault b stop) _ (kinds_parts (walk_fault b.top (names_of b) (walk_from nothing_held) arguments) _ fault).1 in
    stop_listed stop level.past_help below.0 (level.subcommand top_wants)
