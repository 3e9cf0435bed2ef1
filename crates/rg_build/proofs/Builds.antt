-- The builder makes of each way to write a formula what it says.
use Rattle.std.proofs.Common.{◌≡◌, Bool, true, false, cond, List, [], ◌∷◌, ◌++◌, Some, refl, sym, ap, ◌∙◌}
use Rattle.rg_text.specs.Text.{Leaf}
use Rattle.rg_text.specs.declared.kind.Terminal.TheVariants.{Colon, Show, Section, Close, Compare, Operate, Join, Imply, Then, Else}
use Rattle.rg_text.specs.declared.kind.Junction.{Junction}
use Rattle.rg_text.specs.declared.kind.Keyword.TheVariants.{At}
use Rattle.rg_syntax.specs.Grammar as grammar
use Rattle.rg_syntax.specs.Grammar.{Lexeme, WordsSpelling, ShowSpelling, SettingsSpelling, MovesSpelling, no_setting, and_setting, no_move, and_move, settings, moves, a_setting, one, more, marked, declaration, words, show, fixed, FormulaSpelling, ChainSpelling, ExpressionSpelling, truth, negation, junction, conditional, comparison, pair, longer, numeral, word, next_word, inverse, operation, shift, choice, formula, chain, expression}
use Rattle.rg_syntax.specs.Written.{DeclaredWord, SettingTree, WrittenMove, number}
use Rattle.rg_syntax.specs.OneReading.{OneStart, OneMoves}
use Rattle.rg_syntax.specs.Written as syntax
use Rattle.rg_build.specs.Frames.{Open, SetFor, for_start, for_move, setting_words, moving, whole, finished, declaring, showing, finished_show, negated, inverted, first, another, second, comparing, operating, chosen, condition, consequent, alternative, after_next}
use Rattle.rg_syntax.specs.Texts.{claim_of, chain_of, term_of, declared_words, settings_of, moves_of}
use Rattle.rg_build.specs.Steps.{with_claim, with_term, with_name, with_number, is_apart}
use Rattle.rg_build.specs.Inner.Building.{steps, whole_moves_of}

mutual
  pub builds_claim : (f : FormulaSpelling) (os : List Open) (r : List Lexeme) → steps os (formula f r) ≡ steps (with_claim os (claim_of f)) r
  builds_claim (truth b) os r = refl
  builds_claim (negation f) os r = builds_claim f (negated ∷ os) r
  builds_claim (junction j c) os r = builds_chain c j os (fixed Close ∷ r)
  builds_claim (conditional d f g) os r =
      builds_claim f (first ∷ os) (fixed (Imply d) ∷ formula g (fixed Close ∷ r)) ∙ builds_claim g (second d (claim_of f) ∷ os) (fixed Close ∷ r)
  builds_claim (comparison c a b) os r =
      builds_term a (first ∷ os) (fixed (Compare c) ∷ expression b (fixed Close ∷ r)) refl ∙ builds_term b (comparing c (term_of a) ∷ os) (fixed Close ∷ r) refl

  pub builds_chain : (c : ChainSpelling) (j : Junction) (os : List Open) (r : List Lexeme) → steps (first ∷ os) (chain j c r) ≡ steps (after_next j (chain_of c j) ∷ os) r
  builds_chain (pair f g) j os r =
      builds_claim f (first ∷ os) (fixed (Join j) ∷ formula g r) ∙ builds_claim g (another j (claim_of f) ∷ os) r
  builds_chain (longer c f) j os r =
      builds_chain c j os (fixed (Join j) ∷ formula f r) ∙ builds_claim f (another j (chain_of c j) ∷ os) r

  pub builds_term : (a : ExpressionSpelling) (os : List Open) (r : List Lexeme) → is_apart os ≡ false → steps os (expression a r) ≡ steps (with_term os (term_of a)) r
  builds_term (numeral text) os r h = ap (λ b. steps (cond b (with_number os text) (with_term os (number text))) r) h
  builds_term (word text) os r h = ap (λ b. steps (cond b (with_name os text) (with_term os (syntax.word text))) r) h
  builds_term (next_word text) os r h = refl
  builds_term (inverse a) os r h = builds_term a (inverted ∷ os) r refl
  builds_term (operation o a b) os r h =
      builds_term a (first ∷ os) (fixed (Operate o) ∷ expression b (fixed Close ∷ r)) refl ∙ builds_term b (operating o (term_of a) ∷ os) (fixed Close ∷ r) refl
  builds_term (shift s a text) os r h = builds_term a (first ∷ os) _ refl
  builds_term (choice i f a b) os r h =
      builds_claim f (condition ∷ chosen ∷ os) (fixed Then ∷ expression a (fixed Else ∷ expression b (fixed Close ∷ r)))
      ∙ builds_term a (consequent (claim_of f) ∷ chosen ∷ os) (fixed Else ∷ expression b (fixed Close ∷ r)) refl
      ∙ builds_term b (alternative (claim_of f) (term_of a) ∷ chosen ∷ os) (fixed Close ∷ r) refl

builds_declaration : (b : Bool) (n w : Leaf) (ws : List DeclaredWord) (os : List Open) (r : List Lexeme) → steps (declaring ws false ∷ os) (marked b (grammar.name n ∷ fixed Colon ∷ grammar.number w ∷ r)) ≡ steps (declaring (ws ++ record { fixed = b; name = n; width = w } ∷ []) false ∷ os) r
builds_declaration true n w ws os r = refl
builds_declaration false n w ws os r = refl

builds_words : (ws : WordsSpelling) (os : List Open) (r : List Lexeme) → steps (declaring [] false ∷ os) (words ws r) ≡ steps (declaring (declared_words ws) false ∷ os) r
builds_words (one w) os r = builds_declaration w.fixed w.name w.width [] os r
builds_words (more ws w) os r = builds_words ws os (declaration w r) ∙ builds_declaration w.fixed w.name w.width (declared_words ws) os r

pub builds_formula : (f : FormulaSpelling) → steps (whole ∷ []) (formula f []) ≡ finished (claim_of f) ∷ []
builds_formula f = builds_claim f (whole ∷ []) []

pub builds_show : (s : ShowSpelling) → steps (declaring [] false ∷ []) (show s []) ≡ finished_show (declared_words s.words) (claim_of s.formula) ∷ []
builds_show s = builds_words s.words [] (fixed Show ∷ formula s.formula []) ∙ builds_claim s.formula (showing (declared_words s.words) ∷ []) []

builds_settings : (w : SetFor) (ss : SettingsSpelling) (os : List Open) (r : List Lexeme) → steps (setting_words w [] ∷ os) (settings ss r) ≡ steps (setting_words w (settings_of ss) ∷ os) r
builds_settings w no_setting os r = refl
builds_settings w (and_setting ss s) os r = builds_settings w ss os (a_setting s r)

-- what is open after moves
abbrev after_moves : MovesSpelling → Open
after_moves no_move = moving []
after_moves (and_move ms n ss) = setting_words (for_move (moves_of ms) n) (settings_of ss)

builds_at : (ms : MovesSpelling) (n : Leaf) (os : List Open) (r : List Lexeme) → steps (after_moves ms ∷ os) (fixed (Section At) ∷ grammar.number n ∷ r) ≡ steps (setting_words (for_move (moves_of ms) n) [] ∷ os) r
builds_at no_move n os r = refl
builds_at (and_move ms k ss) n os r = refl

builds_some_moves : (ms : MovesSpelling) (os : List Open) (r : List Lexeme) → steps (moving [] ∷ os) (moves ms r) ≡ steps (after_moves ms ∷ os) r
builds_some_moves no_move os r = refl
builds_some_moves (and_move ms n ss) os r =
    builds_some_moves ms os (fixed (Section At) ∷ grammar.number n ∷ settings ss r) ∙ builds_at ms n os (settings ss r) ∙ builds_settings (for_move (moves_of ms) n) ss os r

pub builds_start : (ss : SettingsSpelling) → steps (setting_words for_start [] ∷ []) (settings ss []) ≡ setting_words for_start (settings_of ss) ∷ []
builds_start ss = builds_settings for_start ss [] []

all_moves : (ms : MovesSpelling) → whole_moves_of (after_moves ms ∷ []) ≡ Some (moves_of ms)
all_moves no_move = refl
all_moves (and_move ms n ss) = refl

pub builds_moves : (ms : MovesSpelling) → whole_moves_of (steps (moving [] ∷ []) (moves ms [])) ≡ Some (moves_of ms)
builds_moves ms = ap whole_moves_of (builds_some_moves ms [] []) ∙ all_moves ms

-- the same tokens say one thing
same_some : {A : Type 0} (xs ys : A) → Some xs ≡ Some ys → xs ≡ ys
same_some xs ys h = cc

same_settings : (ss us : List SettingTree) → setting_words for_start ss ∷ [] ≡ setting_words for_start us ∷ [] → ss ≡ us
same_settings ss us h = cc

pub one_start : OneStart
one_start s t e = same_settings (settings_of s) (settings_of t) (sym (builds_start s) ∙ ap (steps (setting_words for_start [] ∷ [])) e ∙ builds_start t)

pub one_moves : OneMoves
one_moves s t e = same_some (moves_of s) (moves_of t) (sym (builds_moves s) ∙ ap (λ ls. whole_moves_of (steps (moving [] ∷ []) ls)) e ∙ builds_moves t)
