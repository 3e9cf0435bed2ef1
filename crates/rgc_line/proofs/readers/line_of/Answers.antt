use Rattle.std.proofs.Common.{◌≡◌, ◌∙◌, ap, is_some, sym, subst}
use Rattle.std.proofs.lemmas.Option.{same_Some}
use Rattle.clap.specs.Words.{found_of, rows_of}
use Rattle.rgc_line.specs.App.{row_of}
use Rattle.rgc_line.specs.Values.{HasValues}
use Rattle.rgc_line.specs.Line.{contents_of}
use Rattle.rgc_line.specs.Inner.Table.{IsWhole}
use Rattle.rgc_line.specs.declared.commands.Kind.{Kind}
use Rattle.rgc_line.proofs.Reading.{kind_is}
use Rattle.rgc_line.proofs.readers.line_of.Goals as goal

pub unwrap-kind-requires : goal.unwrap-kind-requires
unwrap-kind-requires c = ap is_some (kind_is c.kind_named.result c.args.name.now c.requires.kind c.kind_named.ensures c.requires.named)

pub command_of-requires : goal.command_of-requires
command_of-requires c =
    let is : c.requires.kind ≡ c.unwrap-kind.result = same_Some _ _ (sym (kind_is c.kind_named.result c.args.name.now c.requires.kind c.kind_named.ensures c.requires.named) ∙ c.unwrap-kind.ensures) in
    subst (λ (k : Kind). IsWhole k (rows_of (found_of c.args.matches.now))) is c.requires.whole

pub returns-in-Ok-clause-contents : goal.returns-in-Ok-clause-contents
returns-in-Ok-clause-contents c =
    let is : c.requires.kind ≡ c.unwrap-kind.result = same_Some _ _ (sym (kind_is c.kind_named.result c.args.name.now c.requires.kind c.kind_named.ensures c.requires.named) ∙ c.unwrap-kind.ensures) in
    let reads = c.in-Ok.ensures.reads in
    let same : c.unwrap-kind.result ≡ (contents_of c.in-Ok.command).0 = sym reads.0 in
    let rows = rows_of (found_of c.args.matches.now) in
    (c.requires.named ∙ ap (λ (k : Kind). (row_of k).name) (is ∙ same), subst (λ (k : Kind). HasValues rows (row_of k).rules (contents_of c.in-Ok.command).1) same reads.1)

pub returns-in-Err-clause-fault : goal.returns-in-Err-clause-fault
returns-in-Err-clause-fault c =
    let is : c.requires.kind ≡ c.unwrap-kind.result = same_Some _ _ (sym (kind_is c.kind_named.result c.args.name.now c.requires.kind c.kind_named.ensures c.requires.named) ∙ c.unwrap-kind.ensures) in
    record { kind = c.unwrap-kind.result; named = c.requires.named ∙ ap (λ (k : Kind). (row_of k).name) is; why = c.in-Err.ensures.fault }
