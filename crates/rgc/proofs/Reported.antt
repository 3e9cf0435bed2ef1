-- The text of conditions without a proof.
use Rattle.std.proofs.Common.{◌≡◌, ◌<◌, ◌+◌, ◌∙◌, ℕ, zero, suc, List, [], ◌∷◌, ◌++◌, length, map, take, get_or, String, Global, refl, ap, sym, subst, arith}
use Rattle.std.specs.Prelude.{string_bytes}
use Rattle.rg_words.specs.Layout.{Word}
use Rattle.rg_words.proofs.Written.{items_more}
use Rattle.rgc.specs.Failures.{name_at, unproved_text, failures_text}
use Rattle.rgc.specs.declared.proofs_found.Unproved.{Unproved}

-- the name at a place
pub name_at_place : (names : List (String Global)) (i : ℕ) (s : String Global) → i < length names → s ≡ get_or names i s → name_at (map string_bytes names) (suc i) ≡ string_bytes s
name_at_place [] i s less at = absurd (omega arith)
name_at_place (n ∷ names) zero s less at = subst (λ (x : String Global). string_bytes n ≡ string_bytes x) (sym at) refl
name_at_place (n ∷ names) (suc i) s less at = name_at_place names i s (omega arith) at

-- the text of some conditions, and of the next
pub text_more : (words : List Word) (names : List (List ℕ)) (us : List Unproved) (i : ℕ) (u : Unproved) (old reported new : List ℕ) → i < length us → u ≡ get_or us i u → old ≡ failures_text words names (take i us) → reported ≡ unproved_text words names u → new ≡ old ++ reported → new ≡ failures_text words names (take (i + 1) us)
text_more words names us i u old reported new within at before is pushed =
    pushed
    ∙ ap (λ (l : List ℕ). l ++ reported) before
    ∙ ap (λ (l : List ℕ). failures_text words names (take i us) ++ l) (is ∙ ap (λ (v : Unproved). unproved_text words names v) at)
    ∙ sym (items_more (unproved_text words names) us i u within)
