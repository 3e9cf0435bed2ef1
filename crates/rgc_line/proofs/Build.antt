use Rattle.std.proofs.Common.{◌≡◌, ℕ, ◌+◌, ◌<◌, ◌∙◌, ap, sym, List, [], ◌∷◌, ◌++◌, map, drop, length, get_or, append_assoc, false, rules}
use Rattle.std.proofs.lemmas.List.{at_drop_more}
use Rattle.clap.specs.Words.{App, Rule, Text, AddsArg, AddsSubcommand, app_of, rule_of, with_rule, with_subcommand}
use Rattle.clap.specs.declared.builder.arg.Arg.{Arg}
use Rattle.clap.specs.declared.builder.command.Command.{Command}
use Rattle.rgc_line.specs.App.{leaf}
use Rattle.rgc_line.specs.Inner.Table.{rule_at, shape_at, with_subcommands, IsLeafOf}
use Rattle.rgc_line.specs.declared.commands.Field.{Field}
use Rattle.rgc_line.specs.declared.commands.Row.{Row}

-- the command with these arguments added in turn
abbrev pub with_rules : App → List Rule → App
with_rules a [] = a
with_rules a (rule ∷ rest) = with_rules (with_rule a rule) rest

-- the arguments that are added to a command of one name stand in their order
pub with_rules-leaf : (name : Text) (before rules : List Rule) → with_rules (record { top = leaf name before; subs = [] }) rules ≡ record { top = leaf name (before ++ rules); subs = [] }
with_rules-leaf name before [] = ap (λ rs. record { top = leaf name rs; subs = [] }) (search rules)
with_rules-leaf name before (rule ∷ rest) =
    let together : (before ++ rule ∷ []) ++ rest ≡ before ++ rule ∷ rest = simp append_assoc in
    with_rules-leaf name (before ++ rule ∷ []) rest ∙ ap (λ rs. record { top = leaf name rs; subs = [] }) together

-- one more argument is added
pub field_added : (old new : Command) (argument : Arg) (fields : List Field) (i : ℕ) (d : Field) → i < length fields → rule_of argument ≡ rule_at (get_or fields i d) → argument.global ≡ false
    → AddsArg old argument new → with_rules (app_of new) (map rule_at (drop (i + 1) fields)) ≡ with_rules (app_of old) (map rule_at (drop i fields))
field_added old new argument fields i d within is local adds =
    ap (λ a. with_rules a (map rule_at (drop (i + 1) fields))) (adds.shape local ∙ ap (with_rule (app_of old)) is)
    ∙ sym (at_drop_more (λ left. with_rules (app_of old) (map rule_at left)) fields i d within)

-- one more subcommand is added
pub row_added : (old sub new : Command) (rows : List Row) (i : ℕ) (d : Row) → i < length rows → IsLeafOf (get_or rows i d) sub → AddsSubcommand old sub new
    → with_subcommands (app_of new) (map shape_at (drop (i + 1) rows)) ≡ with_subcommands (app_of old) (map shape_at (drop i rows))
row_added old sub new rows i d within is adds =
    ap (λ a. with_subcommands a (map shape_at (drop (i + 1) rows))) (adds.shape is.1 ∙ ap (λ (a : App). with_subcommand (app_of old) a.top) is.0)
    ∙ sym (at_drop_more (λ left. with_subcommands (app_of old) (map shape_at left)) rows i d within)
