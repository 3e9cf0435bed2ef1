-- The kinds of tokens, as the machine sees them.
use Rattle.std.proofs.Common.{◌≡◌, ℕ, ◌+◌, ◌<◌, Bool, true, ◌&&◌, List, [], ◌∷◌, ◌++◌, map, length, take, get_or, refl, sym, ap, ◌∙◌}
use Rattle.std.proofs.lemmas.List.{take-map, map_more}
use Rattle.rg_text.specs.declared.token.Token.{Token}
use Rattle.rg_text.specs.declared.kind.Kind.{Kind}
use Rattle.rg_text.specs.declared.kind.Kind.TheVariants.{Name, Primed, Number, Fixed}
use Rattle.rg_text.specs.Text.{Leaf, leaf_of}
use Rattle.rg_text.specs.declared.kind.Terminal.TheVariants.{If, Section}
use Rattle.rg_text.specs.declared.kind.Keyword.TheVariants.{Skip}
use Rattle.rg_syntax.specs.Grammar.{lexeme_of, lexeme_as}
use Rattle.rg_shape.proofs.Steps.{is_written, written, kind_of}

abbrev pub kinds_of : List Token → List Kind
kinds_of ts = map (λ t. t.kind) ts

-- the kinds of the tokens are those that the grammar sees
pub kinds_same : (src : List ℕ) (ts : List Token) → map kind_of (map (lexeme_of src) ts) ≡ kinds_of ts
kinds_same src [] = refl
kinds_same src (t ∷ ts) = both (kind_is t.kind (leaf_of src t)) (kinds_same src ts)
  where
    kind_is : (k : Kind) (leaf : Leaf) → kind_of (lexeme_as k leaf) ≡ k
    kind_is Name leaf = refl
    kind_is Primed leaf = refl
    kind_is Number leaf = refl
    kind_is (Fixed If) leaf = refl
    kind_is (Fixed (Section Skip)) leaf = refl
    kind_is (Fixed _) leaf = refl

    both : {x y : Kind} {xs ys : List Kind} → x ≡ y → xs ≡ ys → x ∷ xs ≡ y ∷ ys
    both p q = cc

pub one_kind_more : (ts : List Token) (i : ℕ) (d : Token) → i < length ts → take (i + 1) (kinds_of ts) ≡ take i (kinds_of ts) ++ (get_or ts i d).kind ∷ []
one_kind_more ts i d long =
    take-map (λ t. t.kind) (i + 1) ts ∙ map_more (λ t. t.kind) ts i d long ∙ ap (λ ks. ks ++ (get_or ts i d).kind ∷ []) (sym (take-map (λ t. t.kind) i ts))

-- tokens of a source are written so
pub tokens_written : (src : List ℕ) (ts : List Token) → written (map (lexeme_of src) ts) ≡ true
tokens_written src [] = refl
tokens_written src (t ∷ ts) = both_true (is_written (lexeme_of src t)) (written (map (lexeme_of src) ts)) (is_so t.kind (leaf_of src t)) (tokens_written src ts)
  where
    is_so : (k : Kind) (leaf : Leaf) → is_written (lexeme_as k leaf) ≡ true
    is_so Name leaf = refl
    is_so Primed leaf = refl
    is_so Number leaf = refl
    is_so (Fixed If) leaf = refl
    is_so (Fixed (Section Skip)) leaf = refl
    is_so (Fixed _) leaf = refl

    both_true : (a b : Bool) → a ≡ true → b ≡ true → (a && b) ≡ true
    both_true a b g h = rw (g, h) refl
