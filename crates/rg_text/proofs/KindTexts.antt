-- What the kind of a text says of the text.
use Rattle.std.proofs.Common.{◌≡◌, ℕ, ◌-◌, Bool, true, false, cond, eqb, List, length, take, get_or, Option, Some, None, refl}
use Rattle.std.proofs.lemmas.Bool.{and_parts}
use Rattle.rg_words.specs.Names.{is_name, IsName}
use Rattle.rg_text.specs.declared.kind.Kind.{Kind}
use Rattle.rg_text.specs.declared.kind.Kind.TheVariants.{Name, Primed, Number, Fixed}
use Rattle.rg_text.specs.declared.kind.Terminal.{Terminal}
use Rattle.rg_text.specs.Spelling.{keyword_of, symbol_of, is_primed, is_number, fixed_kind, kind_of_text}

-- a keyword or a symbol is of no other kind
fixed_alone : (k s : Option Terminal) (kind : Kind) → ((t : Terminal) → Fixed t ≡ kind → ⊥) → fixed_kind k s ≡ Some kind → ⊥
fixed_alone (Some t) s kind other h = other t (cc)
fixed_alone None (Some t) kind other h = other t (cc)
fixed_alone None None kind other h = cc

abbrev reported : Bool → Bool → Bool → Option Terminal → Option Terminal → Option Kind
reported v w x k s = cond v (Some Name) (cond w (Some Primed) (cond x (Some Number) (fixed_kind k s)))

reported_name : (v w x : Bool) (k s : Option Terminal) → reported v w x k s ≡ Some Name → v ≡ true
reported_name true w x k s h = refl
reported_name false true x k s h = cc
reported_name false false true k s h = cc
reported_name false false false k s h = absurd (fixed_alone k s Name (λ t e. cc) h)

reported_primed : (v w x : Bool) (k s : Option Terminal) → reported v w x k s ≡ Some Primed → w ≡ true
reported_primed true w x k s h = cc
reported_primed false true x k s h = refl
reported_primed false false true k s h = cc
reported_primed false false false k s h = absurd (fixed_alone k s Primed (λ t e. cc) h)

pub name_text : (text : List ℕ) → kind_of_text text ≡ Some Name → IsName text
unfolding kind_of_text
name_text text h =
    reported_name (is_name text) (is_primed text) (is_number text) (keyword_of text) (symbol_of text) h

pub primed_text : (text : List ℕ) → kind_of_text text ≡ Some Primed → IsName (take (length text - 1) text)
unfolding kind_of_text
primed_text text h =
    (and_parts (is_name (take (length text - 1) text)) (eqb (get_or text (length text - 1) 0) 39)
    (reported_primed (is_name text) (is_primed text) (is_number text) (keyword_of text) (symbol_of text) h)).0
