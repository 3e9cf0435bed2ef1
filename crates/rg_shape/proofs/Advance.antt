-- Each token that the machine takes goes on from one beginning of a formula to another.
use Rattle.std.proofs.Common.{◌≡◌, Bool, true, false, ◌||◌, cond, List, [], ◌∷◌, ◌++◌, Option, Some, None, option_and_then, refl, sym, ap, ◌∙◌}
use Rattle.rg_text.specs.Text.{Leaf}
use Rattle.rg_text.specs.declared.kind.Kind.{Kind}
use Rattle.rg_text.specs.declared.kind.Terminal.TheVariants.{Open, Colon, Semicolon, Assign, Words, Show, Section, Close, Compare, Operate, ShiftBy, Join, Imply, Truth, Not, Inv, If, Then, Else}
use Rattle.rg_text.specs.declared.kind.Junction.{Junction}
use Rattle.rg_text.specs.declared.kind.Junction.TheVariants.{And, Or}
use Rattle.rg_text.specs.declared.kind.Keyword.{Keyword}
use Rattle.rg_text.specs.declared.kind.Keyword.TheVariants as keywords
use Rattle.rg_tree.specs.declared.line.Rule.TheVariants as rules
use Rattle.rg_syntax.specs.declared.text_kind.TextKind.{TextKind}
use Rattle.rg_syntax.specs.declared.text_kind.TextKind.TheVariants as texts
use Rattle.rg_shape.specs.declared.point.Sort.TheVariants.{Formula, Expression}
use Rattle.rg_shape.specs.declared.point.Sorts.{Sorts}
use Rattle.rg_shape.specs.declared.point.Point.{Point}
use Rattle.rg_shape.specs.declared.point.Point.TheVariants.{Negated, Inverted, First, End}
use Rattle.rg_shape.specs.declared.point.Turn.{Turn}
use Rattle.rg_syntax.specs.Grammar.{Lexeme, opening, an_if, a_skip, an_await, a_while, a_line, no_line, and_line, one_premise, and_premise, skipping, awaiting, branching, looping, one_statement, and_statement, one_part, and_part, fixed, name, primed, number, FormulaSpelling, ExpressionSpelling, truth, junction, conditional, comparison, numeral, word, next_word, operation, shift, choice, one, more, formula, expression, no_setting, and_setting, no_move, and_move}
use Rattle.rg_words.specs.declared.operators.Comparison.{Comparison}
use Rattle.rg_words.specs.declared.operators.Comparison.TheVariants as comparisons
use Rattle.rg_shape.specs.Inner.Machine.{has, takes, complete, next, when, turned, after_turn, at_compare, at_operate, at_shift, at_join, at_imply, at_close, at_if, at_then, at_else, at_number, at_name, at_colon, at_words, at_show, at_semicolon, at_assign, at_section}
use Rattle.rg_shape.proofs.Steps.{kinds, is_written, written, kind_of, run}
use Rattle.rg_shape.proofs.Zipper.{single, several, negated, inverted, first, another, second, compared, operated, condition, consequent, alternative, Outer, alone, shown, clause, await_guard, branch_guard, loop_guard, value, await_value, own, of_part, of_line, whole_line, to_pre, to_rely, to_guar, to_post, in_body, in_then, in_else, in_loop, Place, after_clause, part_name, named_part, after_part, item, after_item, target, after_await_guard, await_target, await_name, after_assignment, after_branch_guard, after_loop_guard, place, place_kind, before_place, place_points, InLines, before_lines, line_begun, line_numbered, line_ruled, after_statement, after_from, after_premise, in_lines, before_in_lines, in_lines_point, outer_point, outer_below, head_kind, at_place, Frames, bottom, within, Head, unread, before_first, after_fixed, after_name, after_colon, after_words, for_start, for_move, Set, after_settings, after_set_word, after_equals, before_moves, after_at, before_set, set_kind, set_point, Part, after_formula, after_expression, after_next, counted, closing_conditional, closing_comparison, closing_operation, closing_shift, closing_choice, after_condition, after_consequent, State, hole, at, done, head, set, part, before_outer, before_all, before_head, outer_kind, frames_kind, state_kind, head_point, tokens, taking, top, below, points, part_point, state_points, under, part_needs, Well, WellState, Reaches, finish_formula, finish_expression}
use Rattle.rg_syntax.proofs.Clauses.{and_both}

-- the sorts that the innermost place takes
taking_is : (fs : Frames) → takes (top fs) ≡ taking fs
taking_is (bottom alone) = refl
taking_is (bottom _) = refl
taking_is (within f fs) = refl

-- where an item is wanted no token leads on that begins none, but for `if`
record Turnless (p : Point) : Type 0 where
  no_compare : (c : Comparison) → at_compare p c ≡ None
  no_operate : at_operate p ≡ None
  no_shift : at_shift p ≡ None
  no_join : (j : Junction) → at_join p j ≡ None
  no_imply : at_imply p ≡ None
  no_close : at_close p ≡ None
  no_then : at_then p ≡ None
  no_else : at_else p ≡ None
  no_number : at_number p ≡ None
  no_name : at_name p ≡ None
  no_colon : at_colon p ≡ None
  no_words : at_words p ≡ None
  no_show : at_show p ≡ None
  no_section : (k : Keyword) → at_section p k ≡ None
  no_semicolon : at_semicolon p ≡ None
  no_assign : at_assign p ≡ None

turnless : (fs : Frames) → Turnless (top fs)
turnless (bottom alone) = record { no_compare = λ c. refl; no_operate = refl; no_shift = refl; no_join = λ j. refl; no_imply = refl; no_close = refl; no_then = refl; no_else = refl; no_number = refl; no_name = refl; no_colon = refl; no_words = refl; no_show = refl; no_section = λ k. refl; no_semicolon = refl; no_assign = refl }
turnless (bottom _) = record { no_compare = λ c. refl; no_operate = refl; no_shift = refl; no_join = λ j. refl; no_imply = refl; no_close = refl; no_then = refl; no_else = refl; no_number = refl; no_name = refl; no_colon = refl; no_words = refl; no_show = refl; no_section = λ k. refl; no_semicolon = refl; no_assign = refl }
turnless (within first fs) = record { no_compare = λ c. refl; no_operate = refl; no_shift = refl; no_join = λ j. refl; no_imply = refl; no_close = refl; no_then = refl; no_else = refl; no_number = refl; no_name = refl; no_colon = refl; no_words = refl; no_show = refl; no_section = λ k. refl; no_semicolon = refl; no_assign = refl }
turnless (within _ fs) = record { no_compare = λ c. refl; no_operate = refl; no_shift = refl; no_join = λ j. refl; no_imply = refl; no_close = refl; no_then = refl; no_else = refl; no_number = refl; no_name = refl; no_colon = refl; no_words = refl; no_show = refl; no_section = λ k. refl; no_semicolon = refl; no_assign = refl }

-- a guarded step that was made
guarded : {A : Type 0} (b : Bool) (x : A) (other : Option A) (y : A) → other ≡ None → cond b (Some x) other ≡ Some y → (b ≡ true) × (x ≡ y)
guarded true x other y n h = (refl, cc)
guarded false x other y n h = cc

turned_on : (ps qs : List Point) (b : Bool) (t : Turn) → after_turn ps (when b t) ≡ Some qs → (b ≡ true) × (turned ps t ≡ qs)
turned_on ps qs true t h = (refl, cc)
turned_on ps qs false t h = cc

moved : (k : TextKind) (text : List Lexeme → List Lexeme) (ps qs : List Point) → ps ≡ qs → Reaches k text ps → Reaches k text qs
moved k text ps qs e x = record { state = x.state; kind = x.kind; well = x.well; places = x.places ∙ e; same = x.same }

no_turn : (k : TextKind) (text : List Lexeme → List Lexeme) (ps qs : List Point) (t : Option Turn) → t ≡ None → after_turn ps t ≡ Some qs → Reaches k text qs
no_turn k text ps qs None e h = cc
no_turn k text ps qs (Some t) e h = cc

-- a leaf of either sort
leaf_formula : (fs : Frames) → Well fs → (f : FormulaSpelling) (ps : List Point) → cond (has (takes (top fs)) Formula) (Some (complete Formula (points fs))) None ≡ Some ps → Reaches (frames_kind fs) (λ r. before_all fs (formula f r)) ps
leaf_formula fs w f ps h =
    let g = guarded (takes (top fs)).formula (complete Formula (points fs)) None ps refl h in
    moved _ _ _ ps g.1 (finish_formula fs w (ap (λ (s : Sorts). s.formula) (sym (taking_is fs)) ∙ g.0) f)

leaf_expression : (fs : Frames) → Well fs → (e : ExpressionSpelling) (ps : List Point) (other : Option (List Point)) → other ≡ None → cond (has (takes (top fs)) Expression) (Some (complete Expression (points fs))) other ≡ Some ps → Reaches (frames_kind fs) (λ r. before_all fs (expression e r)) ps
leaf_expression fs w e ps other n h =
    let g = guarded (takes (top fs)).expression (complete Expression (points fs)) other ps n h in
    moved _ _ _ ps g.1 (finish_expression fs w (ap (λ (s : Sorts). s.expression) (sym (taking_is fs)) ∙ g.0) e)

opened : (fs : Frames) → Well fs → (ps : List Point) → cond ((takes (top fs)).formula || (takes (top fs)).expression) (Some (First (takes (top fs)) ∷ points fs)) None ≡ Some ps → Reaches (frames_kind fs) (λ r. before_all fs (fixed Open ∷ r)) ps
opened fs w ps h =
    let g = guarded ((takes (top fs)).formula || (takes (top fs)).expression) (First (takes (top fs)) ∷ points fs) None ps refl h in
    record {
      kind = refl;
      state = hole (within first fs);
      well = (ap (λ (s : Sorts). s.formula || s.expression) (sym (taking_is fs)) ∙ g.0, w);
      places = ap (λ (s : Sorts). First s ∷ points fs) (sym (taking_is fs)) ∙ g.1;
      same = λ r. refl;
    }

if_at : (fs : Frames) → Well fs → (i : Leaf) (ps : List Point) → after_turn (below fs) (at_if (top fs)) ≡ Some ps → Reaches (frames_kind fs) (λ r. before_all fs (opening an_if i ∷ r)) ps
if_at (bottom alone) w i ps h = cc
if_at (bottom _) w i ps h = cc
if_at (within first fs) w i ps h =
    let g = turned_on (points fs) ps (taking fs).expression _ h in
    record { kind = refl; state = hole (within (condition i) fs); well = (g.0, w.1); places = g.1; same = λ r. refl }
if_at (within _ fs) w i ps h = cc

-- one token where an item is wanted
advance_hole : (fs : Frames) → Well fs → (l : Lexeme) → is_written l ≡ true → (ps : List Point) → next (points fs) (kind_of l) ≡ Some ps → Reaches (frames_kind fs) (λ r. before_all fs (l ∷ r)) ps
advance_hole fs w (name text) u ps h =
    leaf_expression fs w (word text) ps (after_turn (below fs) (at_name (top fs))) (ap (after_turn (below fs)) (turnless fs).no_name) h
advance_hole fs w (primed text) u ps h = leaf_expression fs w (next_word text) ps None refl h
advance_hole fs w (number text) u ps h =
    leaf_expression fs w (numeral text) ps (after_turn (below fs) (at_number (top fs))) (ap (after_turn (below fs)) (turnless fs).no_number) h
advance_hole fs w (fixed (Truth b)) u ps h = leaf_formula fs w (truth b) ps h
advance_hole fs w (fixed Not) u ps h =
    let g = guarded (takes (top fs)).formula (Negated ∷ points fs) None ps refl h in
    record { kind = refl; state = hole (within negated fs); well = (ap (λ (s : Sorts). s.formula) (sym (taking_is fs)) ∙ g.0, w); places = g.1; same = λ r. refl }
advance_hole fs w (fixed Inv) u ps h =
    let g = guarded (takes (top fs)).expression (Inverted ∷ points fs) None ps refl h in
    record { kind = refl; state = hole (within inverted fs); well = (ap (λ (s : Sorts). s.expression) (sym (taking_is fs)) ∙ g.0, w); places = g.1; same = λ r. refl }
advance_hole fs w (fixed Open) u ps h = opened fs w ps h
advance_hole fs w (fixed If) u ps h = cc
advance_hole fs w (opening an_if i) u ps h = if_at fs w i ps h
advance_hole fs w (opening a_skip i) u ps h = no_turn _ _ (below fs) ps _ ((turnless fs).no_section keywords.Skip) h
advance_hole fs w (opening an_await i) u ps h = no_turn _ _ (below fs) ps _ ((turnless fs).no_section keywords.Await) h
advance_hole fs w (opening a_while i) u ps h = no_turn _ _ (below fs) ps _ ((turnless fs).no_section keywords.While) h
advance_hole fs w (opening a_line i) u ps h = no_turn _ _ (below fs) ps _ ((turnless fs).no_section keywords.Line) h
advance_hole fs w (fixed Semicolon) u ps h = no_turn _ _ (below fs) ps _ (turnless fs).no_semicolon h
advance_hole fs w (fixed Assign) u ps h = no_turn _ _ (below fs) ps _ (turnless fs).no_assign h
advance_hole fs w (fixed (Compare c)) u ps h = no_turn _ _ (below fs) ps _ ((turnless fs).no_compare c) h
advance_hole fs w (fixed (Operate o)) u ps h = no_turn _ _ (below fs) ps _ (turnless fs).no_operate h
advance_hole fs w (fixed (ShiftBy s)) u ps h = no_turn _ _ (below fs) ps _ (turnless fs).no_shift h
advance_hole fs w (fixed (Join j)) u ps h = no_turn _ _ (below fs) ps _ ((turnless fs).no_join j) h
advance_hole fs w (fixed (Imply d)) u ps h = no_turn _ _ (below fs) ps _ (turnless fs).no_imply h
advance_hole fs w (fixed Close) u ps h = no_turn _ _ (below fs) ps _ (turnless fs).no_close h
advance_hole fs w (fixed Then) u ps h = no_turn _ _ (below fs) ps _ (turnless fs).no_then h
advance_hole fs w (fixed Else) u ps h = no_turn _ _ (below fs) ps _ (turnless fs).no_else h
advance_hole fs w (fixed Colon) u ps h = no_turn _ _ (below fs) ps _ (turnless fs).no_colon h
advance_hole fs w (fixed Words) u ps h = no_turn _ _ (below fs) ps _ (turnless fs).no_words h
advance_hole fs w (fixed Show) u ps h = no_turn _ _ (below fs) ps _ (turnless fs).no_show h
advance_hole fs w (fixed (Section k)) u ps h = no_turn _ _ (below fs) ps _ ((turnless fs).no_section k) h

-- one token where a token is wanted
module _ (fs : Frames) (w : Well fs) where
  advance_part : (p : Part) → part_needs p (taking fs) ≡ true → (l : Lexeme) (ps : List Point) → next (part_point p (taking fs) ∷ under p (points fs)) (kind_of l) ≡ Some ps → Reaches (frames_kind fs) (λ r. before_all fs (part p (l ∷ r))) ps
  advance_part (after_formula f) n (fixed (Join j)) ps h = record { kind = refl; state = hole (within (another j (single f)) fs); well = (n, w); places = cc; same = λ r. refl }
  advance_part (after_formula f) n (fixed (Imply d)) ps h = record { kind = refl; state = hole (within (second d f) fs); well = (n, w); places = cc; same = λ r. refl }
  advance_part (after_formula f) n (opening an_if j) ps h = cc
  advance_part (after_formula f) n _ ps h = cc
  advance_part (after_expression e) n (fixed (Compare c)) ps h =
      let g = turned_on (points fs) ps (taking fs).formula _ h in
      record { kind = refl; state = hole (within (compared c e) fs); well = (g.0, w); places = g.1; same = λ r. refl }
  advance_part (after_expression e) n (fixed (Operate o)) ps h =
      let g = turned_on (points fs) ps (taking fs).expression _ h in
      record { kind = refl; state = hole (within (operated o e) fs); well = (g.0, w); places = g.1; same = λ r. refl }
  advance_part (after_expression e) n (fixed (ShiftBy s)) ps h =
      let g = turned_on (points fs) ps (taking fs).expression _ h in
      record { kind = refl; state = at fs (counted s e); well = (g.0, w); places = g.1; same = λ r. refl }
  advance_part (after_expression e) n (opening an_if j) ps h = cc
  advance_part (after_expression e) n _ ps h = cc
  advance_part (after_next And c) n (fixed (Join And)) ps h = record { kind = refl; state = hole (within (another And (several c)) fs); well = (n, w); places = cc; same = λ r. refl }
  advance_part (after_next Or c) n (fixed (Join Or)) ps h = record { kind = refl; state = hole (within (another Or (several c)) fs); well = (n, w); places = cc; same = λ r. refl }
  advance_part (after_next j c) n (fixed Close) ps h = moved _ _ _ ps (cc) (finish_formula fs w n (junction j c))
  advance_part (after_next _ c) n (opening an_if j) ps h = cc
  advance_part (after_next _ c) n _ ps h = cc
  advance_part (counted s e) n (number text) ps h = record { kind = refl; state = at fs (closing_shift s e text); well = (n, w); places = cc; same = λ r. refl }
  advance_part (counted s e) n (fixed Not) ps h = cc
  advance_part (counted s e) n (opening an_if j) ps h = cc
  advance_part (counted s e) n _ ps h = cc
  advance_part (closing_conditional d f g) n (fixed Close) ps h = moved _ _ _ ps (cc) (finish_formula fs w n (conditional d f g))
  advance_part (closing_conditional d f g) n (opening an_if j) ps h = cc
  advance_part (closing_conditional d f g) n _ ps h = cc
  advance_part (closing_comparison c a b) n (fixed Close) ps h = moved _ _ _ ps (cc) (finish_formula fs w n (comparison c a b))
  advance_part (closing_comparison c a b) n (opening an_if j) ps h = cc
  advance_part (closing_comparison c a b) n _ ps h = cc
  advance_part (closing_operation o a b) n (fixed Close) ps h = moved _ _ _ ps (cc) (finish_expression fs w n (operation o a b))
  advance_part (closing_operation o a b) n (opening an_if j) ps h = cc
  advance_part (closing_operation o a b) n _ ps h = cc
  advance_part (closing_shift s a text) n (fixed Close) ps h = moved _ _ _ ps (cc) (finish_expression fs w n (shift s a text))
  advance_part (closing_shift s a text) n (opening an_if j) ps h = cc
  advance_part (closing_shift s a text) n _ ps h = cc
  advance_part (closing_choice i f a b) n (fixed Close) ps h = moved _ _ _ ps (cc) (finish_expression fs w n (choice i f a b))
  advance_part (closing_choice i f a b) n (opening an_if j) ps h = cc
  advance_part (closing_choice i f a b) n _ ps h = cc
  advance_part (after_condition i f) n (fixed Then) ps h = record { kind = refl; state = hole (within (consequent i f) fs); well = (n, w); places = cc; same = λ r. refl }
  advance_part (after_condition i f) n (opening an_if j) ps h = cc
  advance_part (after_condition i f) n _ ps h = cc
  advance_part (after_consequent i f e) n (fixed Else) ps h = record { kind = refl; state = hole (within (alternative i f e) fs); well = (n, w); places = cc; same = λ r. refl }
  advance_part (after_consequent i f e) n (opening an_if j) ps h = cc
  advance_part (after_consequent i f e) n _ ps h = cc

-- nothing follows a whole formula
nothing_more : (k : TextKind) (text : List Lexeme → List Lexeme) (l : Lexeme) (ps : List Point) → next (End ∷ []) (kind_of l) ≡ Some ps → Reaches k text ps
nothing_more k text (name t) ps h = cc
nothing_more k text (fixed Not) ps h = cc
nothing_more k text (fixed _) ps h = cc
nothing_more k text (opening an_if i) ps h = cc
nothing_more k text _ ps h = cc

after_done : (o : Outer) (f : FormulaSpelling) (l : Lexeme) (ps : List Point) → next (End ∷ []) (kind_of l) ≡ Some ps → Reaches (outer_kind o) (λ r. before_outer o (formula f (l ∷ r))) ps
after_done o f l ps h = nothing_more _ _ l ps h

-- one token of the words of a text
to_head : (b : Bool) (h : Head) (ps : List Point) (text : List Lexeme → List Lexeme) → head_point b h ∷ [] ≡ ps → ((r : List Lexeme) → before_head h r ≡ text r) → Reaches (head_kind b) text ps
to_head b h ps text e same = record { state = head b h; kind = refl; well = tt; places = e; same = same }

advance_head : (b : Bool) (d : Head) (l : Lexeme) (ps : List Point) → next (head_point b d ∷ []) (kind_of l) ≡ Some ps → Reaches (head_kind b) (λ r. before_head d (l ∷ r)) ps
advance_head b unread (fixed Words) ps h = to_head b before_first ps _ (cc) (λ r. refl)
advance_head b unread (opening an_if i) ps h = cc
advance_head b unread _ ps h = cc
advance_head b before_first (name l) ps h = to_head b (after_name None false l) ps _ (cc) (λ r. refl)
advance_head b before_first (fixed (Section keywords.Fixed)) ps h = to_head b (after_fixed None) ps _ (cc) (λ r. refl)
advance_head b before_first (opening an_if i) ps h = cc
advance_head b before_first _ ps h = cc
advance_head b (after_fixed o) (name l) ps h = to_head b (after_name o true l) ps _ (cc) (λ r. refl)
advance_head b (after_fixed o) (fixed Not) ps h = cc
advance_head b (after_fixed o) (opening an_if i) ps h = cc
advance_head b (after_fixed o) _ ps h = cc
advance_head b (after_name o m n) (fixed Colon) ps h = to_head b (after_colon o m n) ps _ (cc) (λ r. refl)
advance_head b (after_name o m n) (opening an_if i) ps h = cc
advance_head b (after_name o m n) _ ps h = cc
advance_head b (after_colon None m n) (number l) ps h = to_head b (after_words (one (record { fixed = m; name = n; width = l }))) ps _ (cc) (λ r. refl)
advance_head b (after_colon (Some ws) m n) (number l) ps h = to_head b (after_words (more ws (record { fixed = m; name = n; width = l }))) ps _ (cc) (λ r. refl)
advance_head b (after_colon o m n) (fixed Not) ps h = cc
advance_head b (after_colon o m n) (opening an_if i) ps h = cc
advance_head b (after_colon o m n) _ ps h = cc
advance_head b (after_words ws) (name l) ps h = to_head b (after_name (Some ws) false l) ps _ (cc) (λ r. refl)
advance_head b (after_words ws) (fixed (Section keywords.Fixed)) ps h = to_head b (after_fixed (Some ws)) ps _ (cc) (λ r. refl)
advance_head false (after_words ws) (fixed Show) ps h = record { state = hole (bottom (shown ws)); kind = refl; well = tt; places = cc; same = λ r. refl }
advance_head true (after_words ws) (fixed (Section keywords.Pre)) ps h = record { state = hole (bottom (clause (own ws) to_pre)); kind = refl; well = tt; places = cc; same = λ r. refl }
advance_head true (after_words ws) (fixed Show) ps h = cc
advance_head false (after_words ws) (fixed (Section keywords.Pre)) ps h = cc
advance_head b (after_words ws) (opening an_if i) ps h = cc
advance_head b (after_words ws) _ ps h = cc

-- one token of a start or of moves
to_set : (x : Set) (ps : List Point) (k : TextKind) (text : List Lexeme → List Lexeme) → set_kind x ≡ k → set_point x ∷ [] ≡ ps → ((r : List Lexeme) → before_set x r ≡ text r) → Reaches k text ps
to_set x ps k text is e same = record { state = set x; kind = is; well = tt; places = e; same = same }

advance_set : (x : Set) (l : Lexeme) (ps : List Point) → next (set_point x ∷ []) (kind_of l) ≡ Some ps → Reaches (set_kind x) (λ r. before_set x (l ∷ r)) ps
advance_set (after_settings w ss) (name l) ps h = to_set (after_set_word w ss l) ps _ _ refl (cc) (λ r. refl)
advance_set (after_settings (for_move ms n) ss) (fixed (Section keywords.At)) ps h = to_set (after_at (and_move ms n ss)) ps _ _ refl (cc) (λ r. refl)
advance_set (after_settings for_start ss) (fixed (Section keywords.At)) ps h = cc
advance_set (after_settings for_start ss) (opening an_if i) ps h = cc
advance_set (after_settings for_start ss) _ ps h = cc
advance_set (after_settings (for_move ms n) ss) (opening an_if i) ps h = cc
advance_set (after_settings (for_move ms n) ss) _ ps h = cc
advance_set (after_set_word w ss l) (fixed (Compare comparisons.Equal)) ps h = to_set (after_equals w ss l) ps _ _ refl (cc) (λ r. refl)
advance_set (after_set_word w ss l) (opening an_if i) ps h = cc
advance_set (after_set_word w ss l) _ ps h = cc
advance_set (after_equals w ss l) (number n) ps h = to_set (after_settings w (and_setting ss (record { word = l; value = n }))) ps _ _ refl (cc) (λ r. refl)
advance_set (after_equals w ss l) (fixed Not) ps h = cc
advance_set (after_equals w ss l) (opening an_if i) ps h = cc
advance_set (after_equals w ss l) _ ps h = cc
advance_set before_moves (fixed (Section keywords.At)) ps h = to_set (after_at no_move) ps _ _ refl (cc) (λ r. refl)
advance_set before_moves (opening an_if i) ps h = cc
advance_set before_moves _ ps h = cc
advance_set (after_at ms) (number n) ps h = to_set (after_settings (for_move ms n) no_setting) ps _ _ refl (cc) (λ r. refl)
advance_set (after_at ms) (fixed Not) ps h = cc
advance_set (after_at ms) (opening an_if i) ps h = cc
advance_set (after_at ms) _ ps h = cc

-- one token of a program or of a derivation outside its formulas and expressions
at_outer : (o : Outer) (ps : List Point) (text : List Lexeme → List Lexeme) → outer_point o ∷ outer_below o ≡ ps → ((r : List Lexeme) → before_outer o r ≡ text r) → Reaches (outer_kind o) text ps
at_outer o ps text e same = record { state = hole (bottom o); kind = refl; well = tt; places = e; same = same }

at_in_lines : (x : InLines) (ps : List Point) (text : List Lexeme → List Lexeme) → in_lines_point x ∷ [] ≡ ps → ((r : List Lexeme) → before_in_lines x r ≡ text r) → Reaches texts.Derivation text ps
at_in_lines x ps text e same = record { state = in_lines x; kind = refl; well = tt; places = e; same = same }

advance_in_lines : (x : InLines) (l : Lexeme) → is_written l ≡ true → (ps : List Point) → next (in_lines_point x ∷ []) (kind_of l) ≡ Some ps → Reaches texts.Derivation (λ r. before_in_lines x (l ∷ r)) ps
advance_in_lines before_lines (opening a_line i) u ps h = at_in_lines (line_begun no_line i) ps _ (cc) (λ r. refl)
advance_in_lines before_lines (fixed (Section keywords.Line)) u ps h = cc
advance_in_lines before_lines _ u ps h = cc
advance_in_lines (line_begun d b) (number n) u ps h = at_in_lines (line_numbered d b n) ps _ (cc) (λ r. refl)
advance_in_lines (line_begun d b) (fixed Not) u ps h = cc
advance_in_lines (line_begun d b) (opening an_if i) u ps h = cc
advance_in_lines (line_begun d b) _ u ps h = cc
advance_in_lines (line_numbered d b n) (fixed (Section keywords.Basic)) u ps h = at_in_lines (line_ruled d b n rules.Basic b) ps _ (cc) (λ r. refl)
advance_in_lines (line_numbered d b n) (fixed (Section keywords.Atomic)) u ps h = at_in_lines (line_ruled d b n rules.Atomic b) ps _ (cc) (λ r. refl)
advance_in_lines (line_numbered d b n) (fixed (Section keywords.Seq)) u ps h = at_in_lines (line_ruled d b n rules.Seq b) ps _ (cc) (λ r. refl)
advance_in_lines (line_numbered d b n) (fixed (Section keywords.Loop)) u ps h = at_in_lines (line_ruled d b n rules.Loop b) ps _ (cc) (λ r. refl)
advance_in_lines (line_numbered d b n) (fixed (Section keywords.Conseq)) u ps h = at_in_lines (line_ruled d b n rules.Conseq b) ps _ (cc) (λ r. refl)
advance_in_lines (line_numbered d b n) (opening an_if i) u ps h = at_in_lines (line_ruled d b n rules.If i) ps _ (cc) (λ r. refl)
advance_in_lines (line_numbered d b n) (fixed If) u ps h = cc
advance_in_lines (line_numbered d b n) _ u ps h = cc
advance_in_lines (line_ruled d b n x w) (number s) u ps h = at_in_lines (after_statement d (record { begin = b; number = n; rule = x; rule_word = w; statement = s })) ps _ (cc) (λ r. refl)
advance_in_lines (line_ruled d b n x w) (fixed Not) u ps h = cc
advance_in_lines (line_ruled d b n x w) (opening an_if i) u ps h = cc
advance_in_lines (line_ruled d b n x w) _ u ps h = cc
advance_in_lines (after_statement d l) (fixed (Section keywords.From)) u ps h = at_in_lines (after_from d l) ps _ (cc) (λ r. refl)
advance_in_lines (after_statement d l) (fixed (Section keywords.Pre)) u ps h = at_outer (clause (of_line d l None) to_pre) ps _ (cc) (λ r. refl)
advance_in_lines (after_statement d l) (opening an_if i) u ps h = cc
advance_in_lines (after_statement d l) _ u ps h = cc
advance_in_lines (after_from d l) (number n) u ps h = at_in_lines (after_premise d l (one_premise n)) ps _ (cc) (λ r. refl)
advance_in_lines (after_from d l) (fixed Not) u ps h = cc
advance_in_lines (after_from d l) (opening an_if i) u ps h = cc
advance_in_lines (after_from d l) _ u ps h = cc
advance_in_lines (after_premise d l ps) (number n) u qs h = at_in_lines (after_premise d l (and_premise ps n)) qs _ (cc) (λ r. refl)
advance_in_lines (after_premise d l ps) (fixed (Section keywords.Pre)) u qs h = at_outer (clause (of_line d l (Some ps)) to_pre) qs _ (cc) (λ r. refl)
advance_in_lines (after_premise d l ps) (opening an_if i) u qs h = cc
advance_in_lines (after_premise d l ps) _ u qs h = cc

advance_place : (x : Place) (l : Lexeme) → is_written l ≡ true → (ps : List Point) → next (place_points x) (kind_of l) ≡ Some ps → Reaches (place_kind x) (λ r. before_place x (l ∷ r)) ps
advance_place (after_clause w to_pre f) (fixed (Section keywords.Rely)) u ps h = at_outer (clause w (to_rely f)) ps _ (cc) (λ r. refl)
advance_place (after_clause w to_pre f) (opening an_if i) u ps h = cc
advance_place (after_clause w to_pre f) _ u ps h = cc
advance_place (after_clause w (to_rely f) g) (fixed (Section keywords.Guar)) u ps h = at_outer (clause w (to_guar f g)) ps _ (cc) (λ r. refl)
advance_place (after_clause w (to_rely f) g) (opening an_if i) u ps h = cc
advance_place (after_clause w (to_rely f) g) _ u ps h = cc
advance_place (after_clause w (to_guar f g) k) (fixed (Section keywords.Post)) u ps h = at_outer (clause w (to_post f g k)) ps _ (cc) (λ r. refl)
advance_place (after_clause w (to_guar f g) k) (opening an_if i) u ps h = cc
advance_place (after_clause w (to_guar f g) k) _ u ps h = cc
advance_place (after_clause (own ws) (to_post f g k) x) (fixed (Section keywords.Part)) u ps h = at_place (part_name ws (record { pre = f; rely = g; guar = k; post = x }) None) _ ps (cc) (λ r. refl)
advance_place (after_clause (own ws) (to_post f g k) x) (opening an_if i) u ps h = cc
advance_place (after_clause (own ws) (to_post f g k) x) _ u ps h = cc
advance_place (after_clause (of_part ws sp qs n) (to_post f g k) x) (fixed (Section keywords.Begin)) u ps h = at_place (item (in_body ws sp qs n (record { pre = f; rely = g; guar = k; post = x })) None) _ ps (cc) (λ r. refl)
advance_place (after_clause (of_part ws sp qs n) (to_post f g k) x) (opening an_if i) u ps h = cc
advance_place (after_clause (of_part ws sp qs n) (to_post f g k) x) _ u ps h = cc
advance_place (after_clause (of_line d l p) (to_post f g k) x) (opening a_line i) u ps h = at_in_lines (line_begun (and_line d (whole_line l p (record { pre = f; rely = g; guar = k; post = x }))) i) ps _ (cc) (λ r. refl)
advance_place (after_clause (of_line d l p) (to_post f g k) x) (fixed (Section keywords.Line)) u ps h = cc
advance_place (after_clause (of_line d l p) (to_post f g k) x) _ u ps h = cc
advance_place (part_name ws sp qs) (name n) u ps h = at_place (named_part ws sp qs n) _ ps (cc) (λ r. refl)
advance_place (part_name ws sp qs) (fixed Not) u ps h = cc
advance_place (part_name ws sp qs) (opening an_if i) u ps h = cc
advance_place (part_name ws sp qs) _ u ps h = cc
advance_place (named_part ws sp qs n) (fixed (Section keywords.Pre)) u ps h = at_outer (clause (of_part ws sp qs n) to_pre) ps _ (cc) (λ r. refl)
advance_place (named_part ws sp qs n) (opening an_if i) u ps h = cc
advance_place (named_part ws sp qs n) _ u ps h = cc
advance_place (after_part ws sp qs) (fixed (Section keywords.Part)) u ps h = at_place (part_name ws sp (Some qs)) _ ps (cc) (λ r. refl)
advance_place (after_part ws sp qs) (opening an_if i) u ps h = cc
advance_place (after_part ws sp qs) _ u ps h = cc
advance_place (item a None) (opening a_skip i) u ps h = at_place (after_item a (one_statement (skipping i))) _ ps (cc) (λ r. refl)
advance_place (item a (Some b)) (opening a_skip i) u ps h = at_place (after_item a (and_statement b (skipping i))) _ ps (cc) (λ r. refl)
advance_place (item a p) (opening an_await i) u ps h = at_outer (await_guard a p i) ps _ (cc) (λ r. refl)
advance_place (item a p) (opening a_while i) u ps h = at_outer (loop_guard a p i) ps _ (cc) (λ r. refl)
advance_place (item a p) (opening an_if i) u ps h = at_outer (branch_guard a p i) ps _ (cc) (λ r. refl)
advance_place (item a p) (name n) u ps h = at_place (target a p n) _ ps (cc) (λ r. refl)
advance_place (item a p) (fixed If) u ps h = cc
advance_place (item a p) (fixed (Section keywords.Skip)) u ps h = cc
advance_place (item a p) (fixed (Section keywords.Await)) u ps h = cc
advance_place (item a p) (fixed (Section keywords.While)) u ps h = cc
advance_place (item a p) _ u ps h = cc
advance_place (after_item a b) (fixed Semicolon) u ps h = at_place (item a (Some b)) _ ps (cc) (λ r. refl)
advance_place (after_item (in_body ws sp None n own_sp) b) (fixed (Section keywords.End)) u ps h = at_place (after_part ws sp (one_part (record { name = n; spec = own_sp; body = b }))) _ ps (cc) (λ r. refl)
advance_place (after_item (in_body ws sp (Some qs) n own_sp) b) (fixed (Section keywords.End)) u ps h = at_place (after_part ws sp (and_part qs (record { name = n; spec = own_sp; body = b }))) _ ps (cc) (λ r. refl)
advance_place (after_item (in_body ws sp qs n own_sp) b) (opening an_if i) u ps h = cc
advance_place (after_item (in_body ws sp qs n own_sp) b) _ u ps h = cc
advance_place (after_item (in_then a p i f) b) (fixed Else) u ps h = at_place (item (in_else a p i f b) None) _ ps (cc) (λ r. refl)
advance_place (after_item (in_then a p i f) b) (fixed (Section keywords.End)) u ps h = cc
advance_place (after_item (in_then a p i f) b) (opening an_if j) u ps h = cc
advance_place (after_item (in_then a p i f) b) _ u ps h = cc
advance_place (after_item (in_else a None i f c) b) (fixed (Section keywords.End)) u ps h = at_place (after_item a (one_statement (branching i f c b))) _ ps (cc) (λ r. refl)
advance_place (after_item (in_else a (Some d) i f c) b) (fixed (Section keywords.End)) u ps h = at_place (after_item a (and_statement d (branching i f c b))) _ ps (cc) (λ r. refl)
advance_place (after_item (in_else a p i f c) b) (opening an_if j) u ps h = cc
advance_place (after_item (in_else a p i f c) b) _ u ps h = cc
advance_place (after_item (in_loop a None i f) b) (fixed (Section keywords.End)) u ps h = at_place (after_item a (one_statement (looping i f b))) _ ps (cc) (λ r. refl)
advance_place (after_item (in_loop a (Some d) i f) b) (fixed (Section keywords.End)) u ps h = at_place (after_item a (and_statement d (looping i f b))) _ ps (cc) (λ r. refl)
advance_place (after_item (in_loop a p i f) b) (opening an_if j) u ps h = cc
advance_place (after_item (in_loop a p i f) b) _ u ps h = cc
advance_place (target a p t) (fixed Assign) u ps h = at_outer (value a p t) ps _ (cc) (λ r. refl)
advance_place (target a p t) (opening an_if i) u ps h = cc
advance_place (target a p t) _ u ps h = cc
advance_place (after_await_guard a p i f) (fixed (Section keywords.Do)) u ps h = at_place (await_target a p i f None) _ ps (cc) (λ r. refl)
advance_place (after_await_guard a p i f) (opening an_if j) u ps h = cc
advance_place (after_await_guard a p i f) _ u ps h = cc
advance_place (await_target a p i f qs) (name t) u ps h = at_place (await_name a p i f qs t) _ ps (cc) (λ r. refl)
advance_place (await_target a p i f qs) (fixed Not) u ps h = cc
advance_place (await_target a p i f qs) (opening an_if j) u ps h = cc
advance_place (await_target a p i f qs) _ u ps h = cc
advance_place (await_name a p i f qs t) (fixed Assign) u ps h = at_outer (await_value a p i f qs t) ps _ (cc) (λ r. refl)
advance_place (await_name a p i f qs t) (opening an_if j) u ps h = cc
advance_place (await_name a p i f qs t) _ u ps h = cc
advance_place (after_assignment a p i f qs) (fixed Semicolon) u ps h = at_place (await_target a p i f (Some qs)) _ ps (cc) (λ r. refl)
advance_place (after_assignment a None i f qs) (fixed (Section keywords.End)) u ps h = at_place (after_item a (one_statement (awaiting i f qs))) _ ps (cc) (λ r. refl)
advance_place (after_assignment a (Some b) i f qs) (fixed (Section keywords.End)) u ps h = at_place (after_item a (and_statement b (awaiting i f qs))) _ ps (cc) (λ r. refl)
advance_place (after_assignment a p i f qs) (opening an_if j) u ps h = cc
advance_place (after_assignment a p i f qs) _ u ps h = cc
advance_place (after_branch_guard a p i f) (fixed Then) u ps h = at_place (item (in_then a p i f) None) _ ps (cc) (λ r. refl)
advance_place (after_branch_guard a p i f) (opening an_if j) u ps h = cc
advance_place (after_branch_guard a p i f) _ u ps h = cc
advance_place (after_loop_guard a p i f) (fixed (Section keywords.Do)) u ps h = at_place (item (in_loop a p i f) None) _ ps (cc) (λ r. refl)
advance_place (after_loop_guard a p i f) (opening an_if j) u ps h = cc
advance_place (after_loop_guard a p i f) _ u ps h = cc

pub advance : (s : State) → WellState s → (l : Lexeme) → is_written l ≡ true → (ps : List Point) → next (state_points s) (kind_of l) ≡ Some ps → Reaches (state_kind s) (λ r. tokens s (l ∷ r)) ps
advance (hole fs) w l u ps h = advance_hole fs w l u ps h
advance (at fs p) w l u ps h = advance_part fs w.1 p w.0 l ps h
advance (done o f) w l u ps h = after_done o f l ps h
advance (head b d) w l u ps h = advance_head b d l ps h
advance (set x) w l u ps h = advance_set x l ps h
advance (place x) w l u ps h = advance_place x l u ps h
advance (in_lines x) w l u ps h = advance_in_lines x l u ps h

-- a run that was made, in two parts
first_step : (ps : List Point) (k : Kind) (ks : List Kind) (qs : List Point) (o : Option (List Point)) → next ps k ≡ o → option_and_then (λ rs. run rs ks) o ≡ Some qs → (rs : List Point) × (next ps k ≡ Some rs) × (run rs ks ≡ Some qs)
first_step ps k ks qs None e h = cc
first_step ps k ks qs (Some rs) e h = (rs, e, h)

pub reached : (ts : List Lexeme) → written ts ≡ true → (s : State) → WellState s → (ps : List Point) → run (state_points s) (kinds ts) ≡ Some ps → Reaches (state_kind s) (λ r. tokens s (ts ++ r)) ps
reached [] u s w ps h = record { state = s; kind = refl; well = w; places = cc; same = λ r. refl }
reached (l ∷ ts) u s w ps h =
    let v = and_both (is_written l) (written ts) u in
    let x = first_step (state_points s) (kind_of l) (kinds ts) ps _ refl h in
    let a = advance s w l v.0 x.0 x.1 in
    let b = reached ts v.1 a.state a.well ps (ap (λ qs. run qs (kinds ts)) a.places ∙ x.2) in
    record { state = b.state; kind = b.kind ∙ a.kind; well = b.well; places = b.places; same = λ r. b.same r ∙ a.same (ts ++ r) }
