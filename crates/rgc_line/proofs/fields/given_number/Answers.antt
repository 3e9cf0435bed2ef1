use Rattle.std.proofs.Common.{◌≡◌, ◌∙◌, ℕ, Ok, Some, ap, is_some, subst, sym}
use Rattle.std.specs.Str.Parse.{ParsesUnsigned, ExplainsUnsignedError, HasUnsignedDigitsIfOk}
use Rattle.clap.specs.Words.{found_of}
use Rattle.clap.proofs.WalkLemmas.{one_text-rows}
use Rattle.rgc_line.proofs.Apps.{number_read}
use Rattle.rgc_line.proofs.fields.given_number.Goals as goal

pub unwrap-requires : goal.unwrap-requires
unwrap-requires c =
    let text = c.requires.0 in
    let reads = c.get_one.ensures.value text (one_text-rows (found_of c.args.matches.now) c.args.id.now ∙ c.requires.1) in
    let r = number_read (λ bs r. ParsesUnsigned 64 10 bs r × ExplainsUnsignedError 10 bs r × HasUnsignedDigitsIfOk bs r) text c.get_one.result reads c.requires.2 (λ x gives. gives.0) in
    ap is_some r.1

pub returns : goal.returns
returns c =
    let text = c.requires.0 in
    let reads = c.get_one.ensures.value text (one_text-rows (found_of c.args.matches.now) c.args.id.now ∙ c.requires.1) in
    let r = number_read (λ bs r. ParsesUnsigned 64 10 bs r × ExplainsUnsignedError 10 bs r × HasUnsignedDigitsIfOk bs r) text c.get_one.result reads c.requires.2 (λ x gives. gives.0) in
    let same : Some r.0 ≡ Some c.unwrap.result = sym r.1 ∙ c.unwrap.ensures in
    let is : r.0 ≡ c.unwrap.result = cc in
    (text, c.requires.1, subst (λ (n : ℕ). ParsesUnsigned {E = Unit {0}} 64 10 text (Ok n)) is r.2)
