use Rattle.std.proofs.Common.{◌∙◌, sym, rules, tests}
use Rattle.std.specs.Str.{bytes_eq}
use Rattle.std.proofs.lemmas.Iterator.{YieldsList-from_slice}
use Rattle.std.proofs.lemmas.Iterator.Search.{any_from_yields_List}
use Rattle.rg_text.specs.Text.{text_of}
use Rattle.rg_resolve.proofs.Turns.{any-map}
use Rattle.rg_resolve.proofs.resolve.setting.is_named.Goals as goal

pub returns : goal.returns
returns c =
    let src = c.args.source.now in
    let name = c.args.name.now in
    any_from_yields_List (λ s. bytes_eq name (text_of src s.word)) _ _ c.any.result c.any.ensures.ran (YieldsList-from_slice c.args.settings.now cc) (λ x b q k. search (rules, tests))
    ∙ sym (any-map _ _ c.args.settings.now)
