use Rattle.std.proofs.Common.{◌∙◌, ℕ, List, Bor, Option, map, subst, sym}
use Rattle.clap.specs.Words.{Row, Text, app_of}
use Rattle.clap.specs.declared.parser.matches.ArgMatches.TheViews.{out-ArgMatches}
use Rattle.rgc_line.specs.Line.{AreFilesOf}
use Rattle.rgc_line.proofs.Apps.{rows_read, parsed, listed_some}
use Rattle.rgc_line.proofs.line.Line.files.Goals as goal

pub unwrap-requires : goal.unwrap-requires
unwrap-requires g c =
    let read = c.in-Ok-try_get_matches_from in
    let at = parsed (app_of c.in-Ok.command) (map g.S.AsStr.text c.args.words.now) read.matches c.in-Ok.ensures read.ensures.matches read.ensures.kinds in
    c.subcommand.ensures.variant ∙ listed_some (out-ArgMatches read.matches).subcommand at.listed

pub returns-in-Ok-files : goal.returns-in-Ok-files
returns-in-Ok-files g c =
    let read = c.in-Ok-try_get_matches_from in
    let at = parsed (app_of c.in-Ok.command) (map g.S.AsStr.text c.args.words.now) read.matches c.in-Ok.ensures read.ensures.matches read.ensures.kinds in
    let is = at.at ∙ rows_read (out-ArgMatches read.matches).subcommand c.subcommand.result c.unwrap.result c.subcommand.ensures.name c.subcommand.ensures.rows c.unwrap.ensures in
    subst (λ (s : Option (Text × List Row)). AreFilesOf s c.args.id.now (map {A = Bor (List ℕ)} (λ file. file.now) c.in-Ok-files.files.items)) (sym is) c.in-Ok-files.ensures
