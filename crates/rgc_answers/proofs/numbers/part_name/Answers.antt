use Rattle.std.proofs.Common.{◌≡◌, ◌∙◌, ◌-◌, suc, map, ap, sym, arith, rules}
use Rattle.std.specs.Prelude.{string_bytes}
use Rattle.rg_tree.specs.ProgramView.{part}
use Rattle.rgc_answers.specs.Numbers.{part_name}
use Rattle.rgc_answers.proofs.PartNames.{part_name_at}
use Rattle.rgc_answers.proofs.numbers.part_name.Goals as goal

pub returns : goal.returns
returns c =
    let place : suc (c.args.number - 1) ≡ c.args.number = omega (arith, c.if-number-eq0.false) in
    let name : c.deref.result.now ≡ string_bytes c.index-parts-number.result.name = search rules in
    name ∙ (sym (part_name_at c.args.parts.now (c.args.number - 1) c.index-parts-number.result (search rules) (search rules)) ∙ ap (part_name (map part c.args.parts.now)) place)
