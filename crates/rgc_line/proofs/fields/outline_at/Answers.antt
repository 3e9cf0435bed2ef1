use Rattle.std.proofs.Common.{◌≡◌, ◌∙◌, Some, ap, codes, map, refl, sym}
use Rattle.std.proofs.lemmas.List.{length-map}
use Rattle.std.specs.Prelude.{option_map}
use Rattle.clap.specs.Words.{all_of, found_of, rows_of}
use Rattle.clap.proofs.WalkLemmas.{raw_values-rows}
use Rattle.rgc_line.proofs.Reading.{file_read, all_there, mapped_some}
use Rattle.rgc_line.proofs.fields.outline_at.Goals as goal

pub unwrap-names-requires : goal.unwrap-names-requires
unwrap-names-requires c =
    let found = found_of c.args.matches.now in
    let there = all_there (rows_of found) (codes "OUTLINE") c.requires.0 c.requires.1 in
    mapped_some _ c.get_strs.result there.0 (c.get_strs.ensures ∙ raw_values-rows found (codes "OUTLINE") ∙ there.1)

pub returns-then-place-names-clause-file : goal.returns-then-place-names-clause-file
returns-then-place-names-clause-file c =
    let found = found_of c.args.matches.now in
    let names = c.unwrap-names.result.now in
    let all : all_of (codes "OUTLINE") (rows_of found) ≡ Some (map (λ v. v.now) names) =
    sym (raw_values-rows found (codes "OUTLINE")) ∙ sym c.get_strs.ensures ∙ ap (option_map (λ s. map (λ v. v.now) s.now)) c.unwrap-names.ensures in
    file_read (rows_of found) (codes "OUTLINE") names c.args.place _ all c.if-place-names.true

pub returns-clause-fault : goal.returns-clause-fault
returns-clause-fault c =
    let found = found_of c.args.matches.now in
    let names = c.unwrap-names.result.now in
    let all : all_of (codes "OUTLINE") (rows_of found) ≡ Some (map (λ v. v.now) names) =
    sym (raw_values-rows found (codes "OUTLINE")) ∙ sym c.get_strs.ensures ∙ ap (option_map (λ s. map (λ v. v.now) s.now)) c.unwrap-names.ensures in
    (refl, (map (λ v. v.now) names, all, rw (length-map names (λ v. v.now)) c.if-place-names.false))
