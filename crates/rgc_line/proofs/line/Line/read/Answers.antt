use Rattle.std.proofs.Common.{◌≡◌, ◌∙◌, ap, map, subst, true, Some}
use Rattle.clap.specs.Words.{App, HasKind, app_of, fault_of, found_of, is_simple_and_free, rows_of}
use Rattle.clap.specs.declared.parser.matches.ArgMatches.TheViews.{out-ArgMatches}
use Rattle.rgc_line.proofs.Apps.{rows_read, rgc_is_free, parsed, listed_some}
use Rattle.rgc_line.proofs.Whole.{IsListedAt}
use Rattle.rgc_line.proofs.line.Line.read.Goals as goal

pub returns-in-Err-try_get_matches_from-clause-fault : goal.returns-in-Err-try_get_matches_from-clause-fault
returns-in-Err-try_get_matches_from-clause-fault g c =
    let refused = c.in-Err-try_get_matches_from in
    subst (λ (a : App). is_simple_and_free a ≡ true → HasKind (fault_of a (map g.S.AsStr.text c.args.words.now)) refused.error) c.in-Ok.ensures refused.ensures.kinds rgc_is_free

pub unwrap-requires : goal.unwrap-requires
unwrap-requires g c =
    let read = c.in-Ok-try_get_matches_from in
    let at = parsed (app_of c.in-Ok.command) (map g.S.AsStr.text c.args.words.now) read.matches c.in-Ok.ensures read.ensures.matches read.ensures.kinds in
    c.subcommand.ensures.variant ∙ listed_some (out-ArgMatches read.matches).subcommand at.listed

pub line_of-requires : goal.line_of-requires
line_of-requires g c =
    let read = c.in-Ok-try_get_matches_from in
    let at = parsed (app_of c.in-Ok.command) (map g.S.AsStr.text c.args.words.now) read.matches c.in-Ok.ensures read.ensures.matches read.ensures.kinds in
    subst IsListedAt (rows_read (out-ArgMatches read.matches).subcommand c.subcommand.result c.unwrap.result c.subcommand.ensures.name c.subcommand.ensures.rows c.unwrap.ensures) at.listed

pub returns-in-Ok-line_of-clause-line : goal.returns-in-Ok-line_of-clause-line
returns-in-Ok-line_of-clause-line g c =
    let read = c.in-Ok-try_get_matches_from in
    let at = parsed (app_of c.in-Ok.command) (map g.S.AsStr.text c.args.words.now) read.matches c.in-Ok.ensures read.ensures.matches read.ensures.kinds in
    record {
      name = c.unwrap.result.0.now;
      rows = rows_of (found_of c.unwrap.result.1.now);
      is = at.at ∙ rows_read (out-ArgMatches read.matches).subcommand c.subcommand.result c.unwrap.result c.subcommand.ensures.name c.subcommand.ensures.rows c.unwrap.ensures;
      contents = c.in-Ok-line_of.ensures.contents;
      settings = c.in-Ok-line_of.ensures.settings;
      at = c.in-Ok-line_of.ensures.at;
    }

pub returns-in-Ok-line_of-clause-fault : goal.returns-in-Ok-line_of-clause-fault
returns-in-Ok-line_of-clause-fault g c =
    let read = c.in-Ok-try_get_matches_from in (parsed (app_of c.in-Ok.command) (map g.S.AsStr.text c.args.words.now) read.matches c.in-Ok.ensures read.ensures.matches read.ensures.kinds).clean

pub returns-clause-fault : goal.returns-clause-fault
returns-clause-fault g c =
    let read = c.in-Ok-try_get_matches_from in
    let at = parsed (app_of c.in-Ok.command) (map g.S.AsStr.text c.args.words.now) read.matches c.in-Ok.ensures read.ensures.matches read.ensures.kinds in
    let rows = rows_of (found_of c.unwrap.result.1.now) in
    let why = c.in-Err-line_of.ensures.fault in (
      at.clean,
      record {
        kind = why.kind;
        rows = rows;
        is = at.at ∙ rows_read (out-ArgMatches read.matches).subcommand c.subcommand.result c.unwrap.result c.subcommand.ensures.name c.subcommand.ensures.rows c.unwrap.ensures ∙ ap (λ n. Some (n, rows)) why.named;
        why = why.why;
      },
    )
