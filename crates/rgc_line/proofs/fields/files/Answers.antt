use Rattle.std.proofs.Common.{◌≡◌, ◌∙◌, ℕ, List, Some, None, Bor, ap, inl, inr, map, sym}
use Rattle.std.proofs.lemmas.Result.{IfOk-weaker}
use Rattle.std.specs.Prelude.{option_map}
use Rattle.clap.specs.Words.{all_of, found_of, rows_of}
use Rattle.clap.proofs.WalkLemmas.{raw_values-rows}
use Rattle.rgc_line.proofs.fields.files.Goals as goal

pub returns-in-Some : goal.returns-in-Some
returns-in-Some c =
    let found = found_of c.args.matches.now in
    let id = c.args.id.now in
    let all : all_of id (rows_of found) ≡ Some (map (λ v. v.now) c.in-Some.names.now) =
    sym (raw_values-rows found id) ∙ sym c.get_strs.ensures ∙ ap (option_map (λ s. map (λ v. v.now) s.now)) c.in-Some.is in
    IfOk-weaker c.from_slice.result _ _ (λ files same. inl (all ∙ ap (λ (names : List (Bor (List ℕ))). Some (map (λ v. v.now) names)) (sym same))) c.from_slice.ensures.items

pub returns-in-None : goal.returns-in-None
returns-in-None c =
    let found = found_of c.args.matches.now in
    let id = c.args.id.now in
    let none : all_of id (rows_of found) ≡ None = sym (raw_values-rows found id) ∙ sym c.get_strs.ensures ∙ ap (option_map (λ s. map (λ v. v.now) s.now)) c.in-None.is in
    inr (none, ap (λ (names : List (Bor (List ℕ))). map (λ v. v.now) names) c.new.ensures.items)
