-- What a token does to the open parts of a text: to those of formulas, expressions, shown texts, starts and moves.
use Rattle.std.specs.Prelude.{Bool, true, false, cond, List, [], ◌∷◌, ◌++◌}
use Rattle.rg_text.specs.declared.kind.Terminal.{Terminal}
use Rattle.rg_text.specs.declared.kind.Terminal.TheVariants as terminals
use Rattle.rg_text.specs.declared.kind.Keyword.TheVariants as keywords
use Rattle.rg_text.specs.declared.kind.Junction.{Junction}
use Rattle.rg_syntax.specs.Grammar.{Lexeme}
use Rattle.rg_syntax.specs.Grammar as grammar
use Rattle.rg_text.specs.Text.{Leaf}
use Rattle.rg_syntax.specs.Written.{Term, Claim, number, word, next_word, inverse, binary, shifted, choice, truth, negation, joined, implied, compared, DeclaredWord, SettingTree}
use Rattle.rg_build.specs.Frames.{Piece, a_claim, a_term, Open, whole, negated, inverted, first, another, second, comparing, operating, chosen, condition, consequent, alternative, finished, after_claim, after_term, after_next, counted, closing, after_condition, after_consequent, declaring, declared, showing, finished_show, SetFor, for_start, for_move, setting_words, set_word, moving, whole_value, valued}

-- the open parts, the innermost first, after a whole item; where it may not stand nothing changes
abbrev pub with_claim : List Open → Claim → List Open
with_claim [] f = []
with_claim (whole ∷ os) f = finished f ∷ os
with_claim (negated ∷ os) f = with_claim os (negation f)
with_claim (first ∷ os) f = after_claim f ∷ os
with_claim (another j g ∷ os) f = after_next j (joined j g f) ∷ os
with_claim (second d g ∷ os) f = closing (a_claim (implied d g f)) ∷ os
with_claim (condition ∷ os) f = after_condition f ∷ os
with_claim (showing ws ∷ os) f = finished_show ws f ∷ os
with_claim (o ∷ os) f = o ∷ os

abbrev pub with_term : List Open → Term → List Open
with_term [] a = []
with_term (inverted ∷ os) a = with_term os (inverse a)
with_term (first ∷ os) a = after_term a ∷ os
with_term (comparing c b ∷ os) a = closing (a_claim (compared c b a)) ∷ os
with_term (operating o b ∷ os) a = closing (a_term (binary o b a)) ∷ os
with_term (chosen ∷ os) a = closing (a_term a) ∷ os
with_term (consequent f ∷ os) a = after_consequent f a ∷ os
with_term (alternative f b ∷ os) a = with_term os (choice f b a)
with_term (whole_value ∷ os) a = valued a ∷ os
with_term (o ∷ os) a = o ∷ os

abbrev pub with_piece : List Open → Piece → List Open
with_piece os (a_claim f) = with_claim os f
with_piece os (a_term a) = with_term os a

-- the open parts after each token
abbrev pub close : List Open → List Open
close (after_next j f ∷ os) = with_claim os f
close (closing p ∷ os) = with_piece os p
close os = os

abbrev pub on_if : List Open → List Open
on_if (first ∷ os) = condition ∷ chosen ∷ os
on_if os = os

-- a token between two parts of an item
abbrev pub after_a_claim : Terminal → Claim → Open
after_a_claim (terminals.Join j) f = another j f
after_a_claim (terminals.Imply d) f = second d f
after_a_claim _ f = after_claim f

abbrev pub after_a_term : Terminal → Term → Open
after_a_term (terminals.Compare c) a = comparing c a
after_a_term (terminals.Operate o) a = operating o a
after_a_term (terminals.ShiftBy s) a = counted s a
after_a_term _ a = after_term a

abbrev pub after_an_operand : Terminal → Junction → Claim → Open
after_an_operand (terminals.Join k) j f = another j f
after_an_operand _ j f = after_next j f

abbrev pub after_a_condition : Terminal → Claim → Open
after_a_condition terminals.Then f = consequent f
after_a_condition _ f = after_condition f

abbrev pub after_a_consequent : Terminal → Claim → Term → Open
after_a_consequent terminals.Else f a = alternative f a
after_a_consequent _ f a = after_consequent f a

abbrev pub after_declarations : Terminal → List DeclaredWord → Bool → Open
after_declarations (terminals.Section keywords.Fixed) ws b = declaring ws true
after_declarations terminals.Show ws b = showing ws
after_declarations _ ws b = declaring ws b

-- an `at` ends the move before it
abbrev pub after_at : SetFor → List SettingTree → Open
after_at for_start ss = setting_words for_start ss
after_at (for_move ms n) ss = moving (ms ++ record { number = n; settings = ss } ∷ [])

abbrev pub after_some_settings : Terminal → SetFor → List SettingTree → Open
after_some_settings (terminals.Section keywords.At) w ss = after_at w ss
after_some_settings _ w ss = setting_words w ss

abbrev pub after_between : Terminal → Open → Open
after_between t (after_claim f) = after_a_claim t f
after_between t (after_term a) = after_a_term t a
after_between t (after_next j f) = after_an_operand t j f
after_between t (after_condition f) = after_a_condition t f
after_between t (after_consequent f a) = after_a_consequent t f a
after_between t (declaring ws b) = after_declarations t ws b
after_between t (setting_words w ss) = after_some_settings t w ss
after_between t o = o

abbrev pub between : Terminal → List Open → List Open
between t [] = []
between t (o ∷ os) = after_between t o ∷ os

abbrev pub on_fixed : Terminal → List Open → List Open
on_fixed terminals.Open os = first ∷ os
on_fixed terminals.Close os = close os
on_fixed terminals.Not os = negated ∷ os
on_fixed terminals.Inv os = inverted ∷ os
on_fixed (terminals.Truth b) os = with_claim os (truth b)
on_fixed t os = between t os

-- a keyword that begins a statement, other than as a part of an expression
abbrev pub on_opening : grammar.Opening → List Open → List Open
on_opening grammar.an_if os = on_if os
on_opening o os = between (grammar.terminal_of o) os

-- where a name or a number is no expression
abbrev pub is_apart : List Open → Bool
is_apart (counted s a ∷ os) = true
is_apart (declaring ws b ∷ os) = true
is_apart (declared ws b n ∷ os) = true
is_apart (setting_words w ss ∷ os) = true
is_apart (set_word w ss l ∷ os) = true
is_apart (moving ms ∷ os) = true
is_apart [] = true
is_apart _ = false

abbrev pub with_name : List Open → Leaf → List Open
with_name (declaring ws b ∷ os) leaf = declared ws b leaf ∷ os
with_name (setting_words w ss ∷ os) leaf = set_word w ss leaf ∷ os
with_name os leaf = os

abbrev pub on_name : List Open → Leaf → List Open
on_name os leaf = cond (is_apart os) (with_name os leaf) (with_term os (word leaf))

abbrev pub with_number : List Open → Leaf → List Open
with_number (counted s a ∷ os) leaf = closing (a_term (shifted s a leaf)) ∷ os
with_number (declared ws b n ∷ os) leaf = declaring (ws ++ record { fixed = b; name = n; width = leaf } ∷ []) false ∷ os
with_number (set_word w ss l ∷ os) leaf = setting_words w (ss ++ record { word = l; value = leaf } ∷ []) ∷ os
with_number (moving ms ∷ os) leaf = setting_words (for_move ms leaf) [] ∷ os
with_number os leaf = os

abbrev pub on_number : List Open → Leaf → List Open
on_number os leaf = cond (is_apart os) (with_number os leaf) (with_term os (number leaf))

abbrev pub step : List Open → Lexeme → List Open
step os (grammar.fixed t) = on_fixed t os
step os (grammar.opening o leaf) = on_opening o os
step os (grammar.name leaf) = on_name os leaf
step os (grammar.primed leaf) = with_term os (next_word leaf)
step os (grammar.number leaf) = on_number os leaf
