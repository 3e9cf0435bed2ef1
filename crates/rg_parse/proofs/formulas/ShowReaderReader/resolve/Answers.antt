use Rattle.std.proofs.Common.{◌∙◌, List, map, ap}
use Rattle.rg_syntax.specs.declared.written.Declaration.{Declaration}
use Rattle.rg_syntax.specs.Written.{declared_word}
use Rattle.rg_parse.proofs.Shown.{declarations_named, declarations_count}
use Rattle.rg_parse.proofs.formulas.ShowReaderReader.resolve.Goals as goal

pub resolve_shown-requires-clause-names : goal.resolve_shown-requires-clause-names
resolve_shown-requires-clause-names c =
    let r = c.requires in
    let same = ap (λ (l : List Declaration). map (declared_word c.args.source.now) l) c.deref.ensures.value in
    declarations_named c.args.source.now r.tokens c.deref.result.now r.spelling r.each r.written.spelled (same ∙ ap (λ t. t.words) r.says)

pub resolve_shown-requires-clause-count : goal.resolve_shown-requires-clause-count
resolve_shown-requires-clause-count c =
    let r = c.requires in
    let same = ap (λ (l : List Declaration). map (declared_word c.args.source.now) l) c.deref.ensures.value in
    declarations_count c.args.source.now c.deref.result.now r.spelling r.written.short (same ∙ ap (λ t. t.words) r.says)
