use Rattle.std.proofs.Common.{◌∙◌, sym}
use Rattle.clap.specs.Words.{found_of, rows_of}
use Rattle.clap.proofs.WalkLemmas.{first_value-rows}
use Rattle.rgc_line.proofs.Reading.{option_value}
use Rattle.rgc_line.proofs.fields.option.Goals as goal

pub returns : goal.returns
returns c =
    let has = sym (c.get_str.ensures ∙ first_value-rows (found_of c.args.matches.now) c.args.id.now) in
    record { has = has; value = option_value (rows_of (found_of c.args.matches.now)) c.args.id.now c.get_str.result has }
