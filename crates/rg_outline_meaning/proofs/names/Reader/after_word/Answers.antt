use Rattle.std.proofs.Common.{◌≡◌, [], refl, sym, ◌∙◌, false, slice_index, slice_index_or, arith, rules, tests}
use Rattle.std.proofs.lemmas.Bool.Decides.{nat_tests}
use Rattle.rg_words.specs.Layout.{names_of, widths_of, fixed_of}
use Rattle.rg_outline_meaning.specs.Names.{text_of}
use Rattle.rg_outline_meaning.specs.Members.{member_name}
use Rattle.rg_outline_meaning.specs.Programs.{is_fixed}
use Rattle.rg_outline_meaning.specs.View.{outline, words}
use Rattle.rg_outline_meaning.proofs.Placed.{same_text}
use Rattle.rg_outline_meaning.proofs.ProgramRules.{word_of, words_to}
use Rattle.rg_outline_meaning.proofs.names.Reader.after_word.Goals as goal

pub returns-then-is_fixed : goal.returns-then-is_fixed
returns-then-is_fixed c =
    let r = c.args.self.now in
    let k = c.args.place in
    let d = c.args.declaration.now in
    let name = same_text c.as_slice.result.now c.as_bytes.result.now (member_name (text_of (outline r) d.name) c.args.indices.now) (slice_index_or (names_of (words r)) k []) (c.as_slice.ensures.value ∙ c.in_ok-name.ensures) (c.as_bytes.ensures.value ∙ c.name.ensures.exact) c.if-eq.ensures in
    let width : slice_index (widths_of (words r)) k ≡ c.args.width = cc in
    let both : c.is_fixed.result ≡ c.is_fixed-then-width.result = first_of (assumption (c.if-is_fixed.true), search (rules, tests, c.if-is_fixed.true), grind (arith, nat_tests, c.if-is_fixed.true)) in
    let fixed : slice_index_or (fixed_of (words r)) k false ≡ is_fixed d.standing = sym c.is_fixed.ensures ∙ both ∙ c.is_fixed-then-width.ensures in
    words_to (words r) k _ (word_of (outline r) d c.args.width c.args.indices.now) (omega arith) refl (sym name) width fixed
