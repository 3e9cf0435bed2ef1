use Rattle.std.proofs.Common.{◌≡◌, ◌∙◌, ◌-◌, suc, map, ap, sym, arith, rules}
use Rattle.std.specs.Prelude.{string_bytes}
use Rattle.rgc.specs.Failures.{name_at}
use Rattle.rgc.proofs.Reported.{name_at_place}
use Rattle.rgc.proofs.proofs_found.name_at.Goals as goal

pub returns : goal.returns
returns c =
    let place : suc (c.args.number - 1) ≡ c.args.number = omega (arith, c.if-number-eq0.false) in
    let name : c.as_str.result.now ≡ string_bytes c.index-names-number.result = search rules in
    name ∙ (sym (name_at_place c.args.names.now (c.args.number - 1) c.index-names-number.result (search rules) (search rules)) ∙ ap (name_at (map string_bytes c.args.names.now)) place)
