-- The text of a formula is cut into its tokens.
use Rattle.std.proofs.Common.{◌≡◌, ℕ, ◌<◌, true, List, [], ◌∷◌, ◌++◌, length, refl, sym, subst, arith, codes, append_assoc}
use Rattle.std.specs.Prelude.{map}
use Rattle.std.specs.Fmt.{decimal}
use Rattle.std.proofs.lemmas.List.{get_or-map, length-map}
use Rattle.std.proofs.lemmas.List.Elements.{All-get_or}
use Rattle.rg_words.specs.Names.{IsName}
use Rattle.rg_words.specs.Layout.{Word, IsLayout, widths_of}
use Rattle.rg_words.specs.declared.operators.Connective.{Connective}
use Rattle.rg_words.specs.declared.operators.Connective.TheVariants as connectives
use Rattle.rg_text.specs.declared.kind.Kind.TheVariants.{Name, Primed, Number, Fixed}
use Rattle.rg_text.specs.declared.kind.Terminal.TheVariants.{Open, Close, Compare, Operate, ShiftBy, Truth, Not, Inv, If, Then, Else}
use Rattle.rg_tree.specs.Trees.{Expression, Proposition, number, word, next_word, inverse, binary, shifted, choice, truth, negation, connected, compared}
use Rattle.rg_tree.specs.Typing.{HasWidth, IsTyped}
use Rattle.rg_tree.specs.Printed.{operator_text, shift_text, comparison_text, connective_text, truth_text, name_text, between, expression_text, formula_text}
use Rattle.rg_text.specs.declared.token.Token.{Token}
use Rattle.rg_text.specs.Tokenization.{IsTokenized}
use Rattle.rg_syntax.specs.Grammar.{Lexeme, FormulaSpelling, lexeme_as, opening, an_if, fixed, name, primed, lexeme_of, formula, expression}
use Rattle.rg_syntax.specs.Grammar as grammar
use Rattle.rg_parse.proofs.PrintedStands.{printed_leaf, connected_as, printed_formula, printed_expression, no_word, within_word, printed_stands}
use Rattle.rg_parse.proofs.PrintedCuts.{Cut, cut_token, cut_tokens}
use Rattle.rg_parse.proofs.PrintedTokens.{ends_word, name_token, primed_token, number_token, truth_token, cut_open, cut_close, cut_between, cut_before_space, operator_spaced, shift_spaced, comparison_spaced, connective_terminal, connective_spaced, not_spaced, inv_spaced, if_spaced, then_spaced, else_spaced}
use Rattle.rg_parse.specs.PrintedBack.{PrintedSpells}

-- the tokens of two formulas with a connective
connected_lexemes : (c : Connective) (s t : FormulaSpelling) (ls : List Lexeme) → formula (connected_as c s t) ls ≡ fixed Open ∷ formula s (lexeme_as (Fixed (connective_terminal c)) (printed_leaf (connective_text c)) ∷ formula t (fixed Close ∷ ls))
connected_lexemes connectives.And s t ls = refl
connected_lexemes connectives.Or s t ls = refl
connected_lexemes connectives.Implies s t ls = refl
connected_lexemes connectives.Iff s t ls = refl

module _ (words : List Word) (layout : IsLayout words) where
  named : (k : ℕ) → k < length (widths_of words) → IsName (name_text words k)
  named k within =
      let inside : k < length words = omega (arith, length-map words (λ w. w.width)) in
      subst IsName (sym (get_or-map (λ w. w.name) words k no_word [] inside)) (All-get_or (λ w. IsName w.name) words k no_word inside layout.names)

  mutual
    pub cut_formula : (f : Proposition) → IsTyped (widths_of words) f → (rest : List ℕ) (ls : List Lexeme) → ends_word rest ≡ true → Cut rest ls → Cut (formula_text words f rest) (formula (printed_formula words f) ls)
    cut_formula (truth b) typed rest ls ends cut = cut_token (truth_text b) rest (Fixed (Truth b)) ls (truth_token b rest ends) cut
    cut_formula (negation f) typed rest ls ends cut = cut_before_space (codes "not") Not (formula_text words f rest) _ not_spaced (cut_formula f typed rest ls ends cut)
    cut_formula (connected c f g) typed rest ls ends cut =
        subst (λ t. Cut (formula_text words (connected c f g) rest) t) (sym (connected_lexemes c (printed_formula words f) (printed_formula words g) ls))
        (cut_open _ _
        (cut_formula f typed.0 _ _ refl
        (cut_between (connective_text c) (connective_terminal c) _ _ (connective_spaced c)
        (cut_formula g typed.1 (41 ∷ rest) (fixed Close ∷ ls) refl
        (cut_close rest ls cut)))))
    cut_formula (compared c a b) typed rest ls ends cut =
        cut_open _ _
        (cut_expression a typed.0 typed.1 _ _ refl
        (cut_between (comparison_text c) (Compare c) _ _ (comparison_spaced c)
        (cut_expression b typed.0 typed.2 (41 ∷ rest) (fixed Close ∷ ls) refl
        (cut_close rest ls cut))))

    pub cut_expression : (e : Expression) (w : ℕ) → HasWidth (widths_of words) e w → (rest : List ℕ) (ls : List Lexeme) → ends_word rest ≡ true → Cut rest ls → Cut (expression_text words e rest) (expression (printed_expression words e) ls)
    cut_expression (number v n) w fits rest ls ends cut = cut_token (decimal n) rest Number ls (number_token n rest (within_word n w fits.1 fits.2) ends) cut
    cut_expression (word k) w fits rest ls ends cut = cut_token (name_text words k) rest Name ls (name_token (name_text words k) rest (named k fits.0) ends) cut
    cut_expression (next_word k) w fits rest ls ends cut =
        subst (λ s. Cut s (primed (printed_leaf (name_text words k ++ 39 ∷ [])) ∷ ls)) (append_assoc (name_text words k) (39 ∷ []) rest)
        (cut_token (name_text words k ++ 39 ∷ []) rest Primed ls (primed_token (name_text words k) rest (named k fits.0)) cut)
    cut_expression (inverse v a) w fits rest ls ends cut = cut_before_space (codes "inv") Inv (expression_text words a rest) _ inv_spaced (cut_expression a w fits.1 rest ls ends cut)
    cut_expression (binary o v a b) w fits rest ls ends cut =
        cut_open _ _
        (cut_expression a w fits.1 _ _ refl
        (cut_between (operator_text o) (Operate o) _ _ (operator_spaced o)
        (cut_expression b w fits.2 (41 ∷ rest) (fixed Close ∷ ls) refl
        (cut_close rest ls cut))))
    cut_expression (shifted d v a k) w fits rest ls ends cut =
        let count = printed_leaf (decimal k) in
        cut_open _ _
        (cut_expression a w fits.1 _ _ refl
        (cut_between (shift_text d) (ShiftBy d) (decimal k ++ 41 ∷ rest) (grammar.number count ∷ fixed Close ∷ ls) (shift_spaced d)
        (cut_token (decimal k) (41 ∷ rest) Number (fixed Close ∷ ls) (number_token k (41 ∷ rest) (let most = fits.2 in omega arith) refl)
        (cut_close rest ls cut))))
    cut_expression (choice f a b) w fits rest ls ends cut =
        let other = between (codes "else") (expression_text words b (41 ∷ rest)) in
        let other_lexemes = fixed Else ∷ expression (printed_expression words b) (fixed Close ∷ ls) in
        let chosen = between (codes "then") (expression_text words a other) in
        let chosen_lexemes = fixed Then ∷ expression (printed_expression words a) other_lexemes in
        cut_open (codes "if" ++ 32 ∷ formula_text words f chosen) (opening an_if (printed_leaf (codes "if")) ∷ formula (printed_formula words f) chosen_lexemes)
        (cut_before_space (codes "if") If (formula_text words f chosen) (formula (printed_formula words f) chosen_lexemes) if_spaced
        (cut_formula f fits.0 chosen chosen_lexemes refl
        (cut_between (codes "then") Then (expression_text words a other) (expression (printed_expression words a) other_lexemes) then_spaced
        (cut_expression a w fits.1 other other_lexemes refl
        (cut_between (codes "else") Else (expression_text words b (41 ∷ rest)) (expression (printed_expression words b) (fixed Close ∷ ls)) else_spaced
        (cut_expression b w fits.2 (41 ∷ rest) (fixed Close ∷ ls) refl
        (cut_close rest ls cut)))))))

-- the tokens of the text
pub printed_tokens : (words : List Word) (f : Proposition) → IsLayout words → IsTyped (widths_of words) f → (tokens : List Token) × IsTokenized (formula_text words f []) tokens × (map (lexeme_of (formula_text words f [])) tokens ≡ formula (printed_formula words f) [])
printed_tokens words f layout typed =
    cut_tokens (formula_text words f []) (formula (printed_formula words f) []) (cut_formula words layout f typed [] [] refl refl)

pub printed_spells : PrintedSpells
printed_spells words f layout typed named =
    let read = printed_tokens words f layout typed in
    record {
      tokens = read.0;
      spelling = printed_formula words f;
      tokenized = read.1;
      spelled = read.2;
      stands = printed_stands words layout f typed named;
    }
