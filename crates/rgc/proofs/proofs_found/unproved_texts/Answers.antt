use Rattle.std.proofs.Common.{◌≡◌, ◌<◌, ◌++◌, length, map, rules}
use Rattle.std.specs.Prelude.{string_bytes}
use Rattle.rgc.proofs.Reported.{text_more}
use Rattle.rgc.proofs.proofs_found.unproved_texts.Goals as goal

pub loop-one-preserved : goal.loop-one-preserved
loop-one-preserved c =
    let us = c.args.unproved.now in
    let i = c.loop-one.one-index in
    let within : i < length us = search rules in
    let pushed : string_bytes c.push_str.new.self ≡ string_bytes c.loop-one.text ++ string_bytes c.in_ok-reported.reported = search rules in
    record {
      text = text_more c.args.words.now (map string_bytes c.args.names.now) us i c.one-item.result (string_bytes c.loop-one.text) (string_bytes c.in_ok-reported.reported) (string_bytes c.push_str.new.self)
          within (search rules) c.loop-one.invariant.text c.in_ok-reported.ensures pushed;
    }
