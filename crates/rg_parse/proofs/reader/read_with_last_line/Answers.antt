use Rattle.std.proofs.Common.{◌∙◌, List, map, inl, inr, sym, ap, subst}
use Rattle.rg_text.specs.Tokenization.{IsTokenized}
use Rattle.rg_text.specs.declared.token.Token.{Token}
use Rattle.rg_syntax.specs.Grammar.{lexeme_of}
use Rattle.rg_parse.specs.Parse.{last_line}
use Rattle.rg_parse.proofs.Spelled.{is_said, text_spells, text_refused, text_accepted}
use Rattle.rg_parse.proofs.reader.read_with_last_line.Goals as goal

pub returns-in-Err-clause-accepts : goal.returns-in-Err-clause-accepts
returns-in-Err-clause-accepts g c = λ m sp. c.in-Err.ensures.only_tokens sp.tokens sp.written.read.size sp.written.read.tokenized

pub returns-in-Err-parse-clause-refused : goal.returns-in-Err-parse-clause-refused
returns-in-Err-parse-clause-refused g c =
    let tokenized = subst (λ (l : List Token). IsTokenized c.args.source.now l) (sym c.as_slice.ensures) c.in-Ok.ensures.tokens in
    inr (inl (c.as_slice.result.now, record { size = c.in-Ok.ensures.fits; tokenized = tokenized }, c.in-Err-parse.ensures.answers c.args.source.now))

pub returns-in-Err-parse-clause-accepts : goal.returns-in-Err-parse-clause-accepts
returns-in-Err-parse-clause-accepts g c = λ m sp.
    let same = c.as_slice.ensures ∙ c.in-Ok.ensures.only_tokens sp.tokens sp.written.read.size sp.written.read.tokenized in
    let spelled = ap (λ (l : List Token). map (lexeme_of c.args.source.now) l) same ∙ sp.written.spelled in
    c.in-Err-parse.ensures.accepts c.args.source.now (sp.spelling, sp.written.shallow, sp.written.short, sp.written.counted, spelled)

pub resolve-requires : goal.resolve-requires
resolve-requires g c =
    is_said g.R.Reader.kind c.args.source.now c.as_slice.ensures c.in-Ok.ensures.fits c.in-Ok.ensures.tokens c.in-Ok.ensures.each _ (c.in-Ok-parse.ensures.answers c.args.source.now)

pub returns-in-Ok-resolve-clause-spells : goal.returns-in-Ok-resolve-clause-spells
returns-in-Ok-resolve-clause-spells g c =
    let is = is_said g.R.Reader.kind c.args.source.now c.as_slice.ensures c.in-Ok.ensures.fits c.in-Ok.ensures.tokens c.in-Ok.ensures.each _ (c.in-Ok-parse.ensures.answers c.args.source.now) in
    let ends = c.last_line-last.ensures ∙ ap last_line (c.as_slice-2.ensures ∙ sym c.as_slice.ensures) in
    text_spells g.R.Reader.kind c.args.source.now _ is (g.R.Reader.stands c.args.reader.now) _ c.in-Ok-resolve.ensures.stands _ ends

pub returns-clause-refused : goal.returns-clause-refused
returns-clause-refused g c =
    let is = is_said g.R.Reader.kind c.args.source.now c.as_slice.ensures c.in-Ok.ensures.fits c.in-Ok.ensures.tokens c.in-Ok.ensures.each _ (c.in-Ok-parse.ensures.answers c.args.source.now) in
    text_refused g.R.Reader.kind c.args.source.now _ is (g.R.Reader.faults c.args.reader.now) c.args.file _ c.in-Err-resolve.ensures.fault

pub returns-clause-accepts : goal.returns-clause-accepts
returns-clause-accepts g c = λ m sp.
    let is = is_said g.R.Reader.kind c.args.source.now c.as_slice.ensures c.in-Ok.ensures.fits c.in-Ok.ensures.tokens c.in-Ok.ensures.each _ (c.in-Ok-parse.ensures.answers c.args.source.now) in
    text_accepted g.R.Reader.kind c.args.source.now _ is (g.R.Reader.stands c.args.reader.now) _ m sp c.in-Err-resolve.ensures.refused
