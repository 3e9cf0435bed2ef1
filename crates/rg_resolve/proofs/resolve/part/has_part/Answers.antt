use Rattle.std.proofs.Common.{◌∙◌, sym, rules, tests}
use Rattle.std.specs.Str.{bytes_eq}
use Rattle.std.proofs.lemmas.Iterator.{YieldsList-from_slice}
use Rattle.std.proofs.lemmas.Iterator.Search.{any_from_yields_List}
use Rattle.rg_text.specs.Text.{text_of}
use Rattle.rg_resolve.proofs.Turns.{any-map}
use Rattle.rg_resolve.proofs.resolve.part.has_part.Goals as goal

pub returns : goal.returns
returns c =
    let src = c.args.source.now in
    let name = c.args.name.now in
    any_from_yields_List (λ p. bytes_eq name (text_of src p.name)) _ _ c.any.result c.any.ensures.ran (YieldsList-from_slice c.args.parts.now cc) (λ x b q k. search (rules, tests))
    ∙ sym (any-map _ _ c.args.parts.now)
