-- A printed formula within the limits is read, and a formula that was read is printed.
use Rattle.std.proofs.Common.{◌≡◌, ℕ, suc, ◌+◌, ◌≤◌, Bool, true, ◌&&◌, List, refl, sym, subst, ◌∙◌, arith}
use Rattle.std.specs.Prelude.{max, nat_lt}
use Rattle.std.proofs.lemmas.Bool.{lt-ltb}
use Rattle.rg_words.specs.declared.limits.TheConstants.{MOST_OPENERS}
use Rattle.rg_words.specs.declared.operators.Connective.{Connective}
use Rattle.rg_words.specs.declared.operators.Connective.TheVariants as connectives
use Rattle.rg_words.specs.Layout.{Word, widths_of}
use Rattle.rg_tree.specs.Trees.{Expression, Proposition, number, word, next_word, inverse, binary, shifted, choice, truth, negation, connected, compared}
use Rattle.rg_tree.specs.Typing.{IsTyped}
use Rattle.rg_syntax.specs.Grammar.{FormulaSpelling}
use Rattle.rg_syntax.specs.Limits.{formula_fits, expression_fits}
use Rattle.rg_parse.specs.PrintedBack.{expression_openers, formula_openers, PrintedIsRead, ReadPrintsBack}
use Rattle.rg_parse.proofs.PrintedStands.{connected_as, printed_formula, printed_expression, printed_stands, read_compares_words}
use Rattle.rg_parse.proofs.PrintedText.{printed_tokens, printed_spells}
use Rattle.rg_resolve.proofs.Stands.{claim_faultless, claim_tree}
use Rattle.rg_resolve.proofs.Typed.{claim_typed, layout_is_narrow}

both : (a b : Bool) → a ≡ true → b ≡ true → (a && b) ≡ true
both a b h g = rw (h, g) refl

room : (n m : ℕ) → n + (1 + m) ≤ MOST_OPENERS → nat_lt n MOST_OPENERS ≡ true
room n m h = lt-ltb n MOST_OPENERS (omega arith)

connected_fits : (n : ℕ) (c : Connective) (s t : FormulaSpelling) → formula_fits n (connected_as c s t) ≡ (nat_lt n MOST_OPENERS && (formula_fits (suc n) s && formula_fits (suc n) t))
connected_fits n connectives.And s t = refl
connected_fits n connectives.Or s t = refl
connected_fits n connectives.Implies s t = refl
connected_fits n connectives.Iff s t = refl

mutual
  -- so many openers around a formula leave room for its own
  fits_formula : (words : List Word) (f : Proposition) (n : ℕ) → n + formula_openers f ≤ MOST_OPENERS → formula_fits n (printed_formula words f) ≡ true
  fits_formula words (truth b) n h = refl
  fits_formula words (negation f) n h = both _ _ (room n (formula_openers f) h) (fits_formula words f (suc n) (omega arith))
  fits_formula words (connected c f g) n h =
      connected_fits n c (printed_formula words f) (printed_formula words g)
      ∙ both _ _ (room n (max (formula_openers f) (formula_openers g)) h) (both _ _ (fits_formula words f (suc n) (omega arith)) (fits_formula words g (suc n) (omega arith)))
  fits_formula words (compared c a b) n h =
      both _ _ (room n (max (expression_openers a) (expression_openers b)) h) (both _ _ (fits_expression words a (suc n) (omega arith)) (fits_expression words b (suc n) (omega arith)))

  fits_expression : (words : List Word) (e : Expression) (n : ℕ) → n + expression_openers e ≤ MOST_OPENERS → expression_fits n (printed_expression words e) ≡ true
  fits_expression words (number w m) n h = refl
  fits_expression words (word k) n h = refl
  fits_expression words (next_word k) n h = refl
  fits_expression words (inverse w a) n h = both _ _ (room n (expression_openers a) h) (fits_expression words a (suc n) (omega arith))
  fits_expression words (binary o w a b) n h =
      both _ _ (room n (max (expression_openers a) (expression_openers b)) h) (both _ _ (fits_expression words a (suc n) (omega arith)) (fits_expression words b (suc n) (omega arith)))
  fits_expression words (shifted d w a k) n h = both _ _ (room n (expression_openers a) h) (fits_expression words a (suc n) (omega arith))
  fits_expression words (choice f a b) n h =
      both _ _ (lt-ltb n MOST_OPENERS (omega arith))
      (both _ _ (lt-ltb (suc n) MOST_OPENERS (omega arith))
      (both _ _ (fits_formula words f (suc (suc n)) (omega arith)) (both _ _ (fits_expression words a (suc (suc n)) (omega arith)) (fits_expression words b (suc (suc n)) (omega arith)))))

pub printed_is_read : PrintedIsRead
printed_is_read words f layout typed named size depth =
    let read = printed_tokens words f layout typed in
    record {
      tokens = read.0;
      spelling = printed_formula words f;
      written = record {
        read = record { size = size; tokenized = read.1 };
        shallow = fits_formula words f 0 (omega arith);
        short = tt;
        counted = tt;
        spelled = read.2;
      };
      stands = printed_stands words layout f typed named;
    }

pub read_prints_back : ReadPrintsBack
read_prints_back words one_state c f layout stands =
    let typed : IsTyped (widths_of words) f = subst (IsTyped (widths_of words)) (sym (claim_tree words one_state c f stands)) (claim_typed words one_state (layout_is_narrow words layout) c (claim_faultless words one_state c f stands)) in
    printed_spells words f layout typed (read_compares_words words one_state c f stands)
