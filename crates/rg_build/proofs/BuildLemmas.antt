-- A whole text, built.
use Rattle.std.proofs.Common.{◌≡◌, ℕ, ◌+◌, ◌<◌, List, [], ◌∷◌, ◌++◌, map, length, take, get_or, refl, sym, ap, ◌∙◌}
use Rattle.std.proofs.lemmas.List.{take_more, map-append}
use Rattle.rg_text.specs.declared.token.Token.{Token}
use Rattle.rg_syntax.specs.Grammar.{Lexeme, lexeme_of}
use Rattle.rg_build.specs.Frames.{Open}
use Rattle.rg_build.specs.Steps.{step}
use Rattle.rg_build.specs.Inner.Building.{steps}

steps-append : (os : List Open) (xs ys : List Lexeme) → steps os (xs ++ ys) ≡ steps (steps os xs) ys
steps-append os [] ys = refl
steps-append os (x ∷ xs) ys = steps-append (step os x) xs ys

pub steps_more : (src : List ℕ) (start : List Open) (ts : List Token) (i : ℕ) (d : Token) (os us : List Open) → i < length ts → steps start (map (lexeme_of src) (take i ts)) ≡ os → us ≡ step os (lexeme_of src (get_or ts i d)) → steps start (map (lexeme_of src) (take (i + 1) ts)) ≡ us
steps_more src start ts i d os us lt ran one =
    ap (λ xs. steps start (map (lexeme_of src) xs)) (take_more ts i d lt)
    ∙ ap (steps start) (map-append (lexeme_of src) (take i ts) (get_or ts i d ∷ []))
    ∙ steps-append start (map (lexeme_of src) (take i ts)) (lexeme_of src (get_or ts i d) ∷ [])
    ∙ ap (λ vs. step vs (lexeme_of src (get_or ts i d))) ran
    ∙ sym one
