-- Each beginning of a formula goes on to a whole one, so the machine stops at the first token that nothing can follow.
use Rattle.std.proofs.Common.{◌≡◌, ◌⊎◌, inl, inr, ℕ, ◌+◌, min, Bool, true, false, ◌||◌, ◌&&◌, not, cond, ltb, List, [], ◌∷◌, ◌++◌, Option, Some, None, option_and_then, refl, sym, ap, ◌∙◌, arith}
use Rattle.rg_text.specs.Text.{Leaf}
use Rattle.rg_syntax.specs.Written.{DeclaredWord}
use Rattle.rg_syntax.specs.declared.text_kind.TextKind.{TextKind}
use Rattle.rg_syntax.specs.declared.text_kind.TextKind.TheVariants as texts
use Rattle.rg_text.specs.declared.kind.Keyword.TheVariants.{Pre, Rely, Guar, Post, Begin, End as EndWord, Do, Basic as BasicWord}
use Rattle.rg_tree.specs.declared.line.Rule.TheVariants.{Basic}
use Rattle.rg_shape.specs.declared.point.Owner.TheVariants.{Program, Part as PartOwner, Line as LineOwner}
use Rattle.rg_shape.specs.declared.point.Clause.TheVariants as clauses
use Rattle.rg_words.specs.declared.limits.TheConstants.{MOST_PARTS}
use Rattle.std.proofs.lemmas.Bool.Decides.{nat_tests}
use Rattle.std.proofs.lemmas.List.{map-append, append_assoc}
use Rattle.rg_text.specs.declared.kind.Terminal.TheVariants.{Open, Colon, Assign, Section, Words, Show, Close, Compare, Operate, Imply, Truth, Then, Else}
use Rattle.rg_words.specs.declared.operators.Comparison.TheVariants.{Equal}
use Rattle.rg_words.specs.declared.operators.Operator.TheVariants.{Add}
use Rattle.rg_shape.specs.declared.point.Sorts.{Sorts}
use Rattle.rg_shape.specs.declared.point.Point.{Point}
use Rattle.rg_shape.specs.declared.point.Point.TheVariants.{AfterClaim, AfterPart, Settings}
use Rattle.rg_syntax.specs.Grammar.{Lexeme, fixed, opening, an_if, a_skip, an_await, a_while, name, number, no_line, and_line, one_premise, AssignmentSpelling, AssignmentsSpelling, one_assignment, and_assignment, StatementSpelling, BlockSpelling, skipping, assigning, awaiting, branching, looping, one_statement, and_statement, SpecSpelling, PartSpelling, PartsSpelling, ProgramSpelling, one_part, and_part, an_assignment, assignments, statement, block, a_part, specification, WordsSpelling, one, more, and_setting, and_move, no_setting, no_move, ShowSpelling, Spelling, spelled, IsText, FormulaSpelling, ExpressionSpelling, truth, negation, junction, conditional, comparison, pair, longer, numeral, inverse, operation, shift, choice, formula, chain, expression}
use Rattle.rg_shape.specs.Inner.Machine.{is_at_end, one_more}
use Rattle.rg_shape.proofs.Steps.{kinds, calm, calm_run, calm-append, run-append, limited-append, kind_of, run, limited}
use Rattle.rg_shape.proofs.Spellings.{last_point}
use Rattle.rg_shape.proofs.Zipper.{single, several, negated, inverted, first, another, second, compared, operated, condition, consequent, alternative, Outer, alone, shown, clause, await_guard, branch_guard, loop_guard, value, await_value, Whose, own, of_part, of_line, LineStart, whole_line, InLines, before_lines, line_begun, line_numbered, line_ruled, after_statement, after_from, after_premise, in_lines, before_in_lines, whose_kind, Clauses, to_pre, to_rely, to_guar, to_post, Around, in_body, in_then, in_else, in_loop, Place, after_clause, part_name, named_part, after_part, item, after_item, target, after_await_guard, await_target, await_name, after_assignment, after_branch_guard, after_loop_guard, place, before_place, before_whose, before_clause, before_around, before_item, before_await, before_assignment, place_points, Frames, bottom, within, Head, unread, before_first, after_fixed, after_name, after_colon, after_words, for_start, for_move, Set, after_settings, after_set_word, after_equals, before_moves, after_at, Part, after_formula, after_expression, after_next, counted, closing_conditional, closing_comparison, closing_operation, closing_shift, closing_choice, after_condition, after_consequent, State, hole, at, done, head, set, part, before_outer, before_all, tokens, taking, top, below, outer_kind, frames_kind, state_kind, points, part_point, state_points, under, part_needs, Well, WellState}
use Rattle.rg_text.specs.declared.kind.Conditional.TheVariants.{Implies}

abbrev zero_leaf : Leaf
zero_leaf = record { text = 48 ∷ []; line = 1 }

abbrev zero_text : ExpressionSpelling
zero_text = numeral zero_leaf

abbrev true_spec : SpecSpelling
true_spec = record { pre = truth true; rely = truth true; guar = truth true; post = truth true }

-- a part that does nothing
abbrev idle_part : Leaf → SpecSpelling → PartSpelling
idle_part n sp = record { name = n; spec = sp; body = one_statement (skipping zero_leaf) }

abbrev part_tail : List Lexeme
part_tail = a_part (idle_part zero_leaf true_spec) []

-- tokens that meet no limit, and then one part where there is none
abbrev Closing : List Lexeme → Point → Type 0
Closing rest q = (calm rest ≡ true) ⊎ ((front : List Lexeme) × (calm front ≡ true) × (rest ≡ front ++ part_tail) × (q ≡ AfterPart 1))

-- tokens that make a text of this kind of what has been read
abbrev Closes : TextKind → (List Lexeme → List Lexeme) → Type 0
Closes k text = (rest : List Lexeme) × (s : Spelling k) × (text rest ≡ spelled k s []) × Closing rest (last_point k s)

one_part_only : (n : ℕ) → AfterPart (one_more n) ∷ [] ≡ AfterPart 1 ∷ [] → ltb n MOST_PARTS ≡ true
one_part_only n h = first n (as_number (one_more n) h)
  where
    as_number : (k : ℕ) → AfterPart k ∷ [] ≡ AfterPart 1 ∷ [] → k ≡ 1
    as_number k h = cc

    first : (n : ℕ) → min (n + 1) 255 ≡ 1 → ltb n MOST_PARTS ≡ true
    first n h = grind (arith, nat_tests)

tail_run : (lists : Bool) (qs : List Point) → run qs (kinds part_tail) ≡ Some (AfterPart 1 ∷ []) → limited lists qs (kinds part_tail) ≡ Some (AfterPart 1 ∷ [])
tail_run lists [] h = cc
tail_run lists (AfterClaim clauses.Post Program ∷ ps) h = h
tail_run lists (AfterPart n ∷ ps) h = with_room (ltb n MOST_PARTS) (one_part_only n (alone_there (one_more n) ps h)) h
  where
    alone_there : (k : ℕ) (ps : List Point) → Some (AfterPart k ∷ ps) ≡ Some (AfterPart 1 ∷ []) → AfterPart k ∷ [] ≡ AfterPart 1 ∷ []
    alone_there k ps h = cc

    with_room : (b : Bool) → b ≡ true → Some (AfterPart (one_more n) ∷ ps) ≡ Some (AfterPart 1 ∷ []) → cond ((b || not lists) && true) (Some (AfterPart (one_more n) ∷ ps)) None ≡ Some (AfterPart 1 ∷ [])
    with_room b e h = rw e h
tail_run lists (AfterClaim clauses.Pre o ∷ ps) h = cc
tail_run lists (AfterClaim clauses.Rely o ∷ ps) h = cc
tail_run lists (AfterClaim clauses.Guar o ∷ ps) h = cc
tail_run lists (AfterClaim clauses.Post (PartOwner n) ∷ ps) h = cc
tail_run lists (AfterClaim clauses.Post (LineOwner n) ∷ ps) h = cc
tail_run lists (Settings true ∷ ps) h = cc
tail_run lists (Settings false ∷ ps) h = cc
tail_run lists (_ ∷ ps) h = cc

closing_run : (lists : Bool) (rest : List Lexeme) (q : Point) (ps : List Point) → Closing rest q → run ps (kinds rest) ≡ Some (q ∷ []) → limited lists ps (kinds rest) ≡ Some (q ∷ [])
closing_run lists rest q ps (inl c) h = calm_run lists rest ps c ∙ h
closing_run lists rest q ps (inr c) h =
    let split : kinds rest ≡ kinds c.0 ++ kinds part_tail = ap kinds c.2 ∙ map-append kind_of c.0 part_tail in
    let one : Some (q ∷ []) ≡ Some (AfterPart 1 ∷ []) = ap (λ (p : Point). Some (p ∷ [])) c.3 in
    let ran = sym (ap (run ps) split ∙ run-append (kinds c.0) (kinds part_tail) ps) ∙ h ∙ one in
    ap (limited lists ps) split ∙ limited-append lists (kinds c.0) (kinds part_tail) ps ∙ ap (option_and_then (λ qs. limited lists qs (kinds part_tail))) (calm_run lists c.0 ps c.1) ∙ go (run ps (kinds c.0)) ran ∙ sym one
  where
    go : (o : Option (List Point)) → option_and_then (λ qs. run qs (kinds part_tail)) o ≡ Some (AfterPart 1 ∷ []) → option_and_then (λ qs. limited lists qs (kinds part_tail)) o ≡ Some (AfterPart 1 ∷ [])
    go None h = cc
    go (Some qs) h = tail_run lists qs h

-- the items that complete the frames around them
pub record Ends (fs : Frames) : Type 0 where
  formula_ends : (f : FormulaSpelling) → (taking fs).formula ≡ true → Closes (frames_kind fs) (λ r. before_all fs (formula f r))
  expression_ends : (e : ExpressionSpelling) → (taking fs).expression ≡ true → Closes (frames_kind fs) (λ r. before_all fs (expression e r))

-- more tokens in front of the rest
more_closing : (front rest : List Lexeme) (q : Point) → calm front ≡ true → Closing rest q → Closing (front ++ rest) q
more_closing front rest q keep (inl c) = inl (calm-append false front rest keep c)
more_closing front rest q keep (inr c) =
    inr (front ++ c.0, calm-append false front c.0 keep c.1, ap (λ ls. front ++ ls) c.2 ∙ sym (append_assoc front c.0 part_tail), c.3)

after : (k : TextKind) (text : List Lexeme → List Lexeme) (front : List Lexeme) → calm front ≡ true → Closes k (λ r. text (front ++ r)) → Closes k text
after k text front keep c = (front ++ c.0, c.1, c.2, more_closing front c.0 (last_point k c.1) keep c.3)

-- a whole specification, with what the part or the program still needs
spec_ends : (w : Whose) (s : SpecSpelling) → Closes (whose_kind w) (λ r. before_whose w (specification s r))
spec_ends (own ws) s = (part_tail, record { words = ws; spec = s; parts = one_part (idle_part zero_leaf true_spec) }, refl, inr ([], refl, refl, refl))
spec_ends (of_part ws sp None n) s =
    (fixed (Section Begin) ∷ opening a_skip zero_leaf ∷ fixed (Section EndWord) ∷ [], record { words = ws; spec = sp; parts = one_part (idle_part n s) }, refl, inl refl)
spec_ends (of_part ws sp (Some ps) n) s =
    (fixed (Section Begin) ∷ opening a_skip zero_leaf ∷ fixed (Section EndWord) ∷ [], record { words = ws; spec = sp; parts = and_part ps (idle_part n s) }, refl, inl refl)
spec_ends (of_line d l p) s = ([], and_line d (whole_line l p s), refl, inl refl)

clause_ends : (w : Whose) (c : Clauses) (f : FormulaSpelling) → Closes (whose_kind w) (λ r. before_whose w (before_clause c (formula f r)))
clause_ends w to_pre f =
    after (whose_kind w) (λ r. before_whose w (before_clause to_pre (formula f r))) (fixed (Section Rely) ∷ fixed (Truth true) ∷ fixed (Section Guar) ∷ fixed (Truth true) ∷ fixed (Section Post) ∷ fixed (Truth true) ∷ []) refl
    (spec_ends w (record { pre = f; rely = truth true; guar = truth true; post = truth true }))
clause_ends w (to_rely f) g =
    after (whose_kind w) (λ r. before_whose w (before_clause (to_rely f) (formula g r))) (fixed (Section Guar) ∷ fixed (Truth true) ∷ fixed (Section Post) ∷ fixed (Truth true) ∷ []) refl
    (spec_ends w (record { pre = f; rely = g; guar = truth true; post = truth true }))
clause_ends w (to_guar f g) h =
    after (whose_kind w) (λ r. before_whose w (before_clause (to_guar f g) (formula h r))) (fixed (Section Post) ∷ fixed (Truth true) ∷ []) refl
    (spec_ends w (record { pre = f; rely = g; guar = h; post = truth true }))
clause_ends w (to_post f g h) k = spec_ends w (record { pre = f; rely = g; guar = h; post = k })

-- a whole block, and a whole statement after others
block_ends : (a : Around) (b : BlockSpelling) → Closes texts.Program (λ r. before_around a (block b r))
block_ends (in_body ws sp None n own_sp) b =
    (fixed (Section EndWord) ∷ [], record { words = ws; spec = sp; parts = one_part (record { name = n; spec = own_sp; body = b }) }, refl, inl refl)
block_ends (in_body ws sp (Some ps) n own_sp) b =
    (fixed (Section EndWord) ∷ [], record { words = ws; spec = sp; parts = and_part ps (record { name = n; spec = own_sp; body = b }) }, refl, inl refl)
block_ends (in_then a None i f) b = after texts.Program (λ r. before_around (in_then a None i f) (block b r)) (fixed Else ∷ opening a_skip zero_leaf ∷ fixed (Section EndWord) ∷ []) refl (block_ends a (one_statement (branching i f b (one_statement (skipping zero_leaf)))))
block_ends (in_then a (Some d) i f) b = after texts.Program (λ r. before_around (in_then a (Some d) i f) (block b r)) (fixed Else ∷ opening a_skip zero_leaf ∷ fixed (Section EndWord) ∷ []) refl (block_ends a (and_statement d (branching i f b (one_statement (skipping zero_leaf)))))
block_ends (in_else a None i f c) b = after texts.Program (λ r. before_around (in_else a None i f c) (block b r)) (fixed (Section EndWord) ∷ []) refl (block_ends a (one_statement (branching i f c b)))
block_ends (in_else a (Some d) i f c) b = after texts.Program (λ r. before_around (in_else a (Some d) i f c) (block b r)) (fixed (Section EndWord) ∷ []) refl (block_ends a (and_statement d (branching i f c b)))
block_ends (in_loop a None i f) b = after texts.Program (λ r. before_around (in_loop a None i f) (block b r)) (fixed (Section EndWord) ∷ []) refl (block_ends a (one_statement (looping i f b)))
block_ends (in_loop a (Some d) i f) b = after texts.Program (λ r. before_around (in_loop a (Some d) i f) (block b r)) (fixed (Section EndWord) ∷ []) refl (block_ends a (and_statement d (looping i f b)))

statement_ends : (a : Around) (p : Option BlockSpelling) (s : StatementSpelling) → Closes texts.Program (λ r. before_around a (before_item p (statement s r)))
statement_ends a None s = block_ends a (one_statement s)
statement_ends a (Some b) s = block_ends a (and_statement b s)

-- whole assignments of an await
await_ends : (a : Around) (p : Option BlockSpelling) (i : Leaf) (f : FormulaSpelling) (as_ : AssignmentsSpelling) → Closes texts.Program (λ r. before_around a (before_item p (before_await i f (assignments as_ r))))
await_ends a p i f as_ =
    after texts.Program (λ r. before_around a (before_item p (before_await i f (assignments as_ r)))) (fixed (Section EndWord) ∷ []) refl (statement_ends a p (awaiting i f as_))

one_ends : (a : Around) (p : Option BlockSpelling) (i : Leaf) (f : FormulaSpelling) (as_ : Option AssignmentsSpelling) (x : AssignmentSpelling) → Closes texts.Program (λ r. before_around a (before_item p (before_await i f (before_assignment as_ (an_assignment x r)))))
one_ends a p i f None x = await_ends a p i f (one_assignment x)
one_ends a p i f (Some as_) x = await_ends a p i f (and_assignment as_ x)

await_guard_ends : (a : Around) (p : Option BlockSpelling) (i : Leaf) (f : FormulaSpelling) → Closes texts.Program (λ r. before_around a (before_item p (opening an_await i ∷ formula f r)))
await_guard_ends a p i f =
    after texts.Program (λ r. before_around a (before_item p (opening an_await i ∷ formula f r))) (fixed (Section Do) ∷ name zero_leaf ∷ fixed Assign ∷ number zero_leaf ∷ []) refl
    (one_ends a p i f None (record { target = zero_leaf; value = zero_text }))

branch_guard_ends : (a : Around) (p : Option BlockSpelling) (i : Leaf) (f : FormulaSpelling) → Closes texts.Program (λ r. before_around a (before_item p (opening an_if i ∷ formula f r)))
branch_guard_ends a p i f =
    after texts.Program (λ r. before_around a (before_item p (opening an_if i ∷ formula f r))) (fixed Then ∷ opening a_skip zero_leaf ∷ []) refl
    (block_ends (in_then a p i f) (one_statement (skipping zero_leaf)))

loop_guard_ends : (a : Around) (p : Option BlockSpelling) (i : Leaf) (f : FormulaSpelling) → Closes texts.Program (λ r. before_around a (before_item p (opening a_while i ∷ formula f r)))
loop_guard_ends a p i f =
    after texts.Program (λ r. before_around a (before_item p (opening a_while i ∷ formula f r))) (fixed (Section Do) ∷ opening a_skip zero_leaf ∷ []) refl
    (block_ends (in_loop a p i f) (one_statement (skipping zero_leaf)))

-- a pair of parentheses may give either of these
either_ends : (fs : Frames) → Ends fs → ((taking fs).formula || (taking fs).expression) ≡ true → (e : ExpressionSpelling) → Closes (frames_kind fs) (λ r. before_all fs (fixed Open ∷ expression e r))
either_ends fs ends h e = go (taking fs).formula refl (taking fs).expression refl h
  where
    go : (a : Bool) → (taking fs).formula ≡ a → (b : Bool) → (taking fs).expression ≡ b → (a || b) ≡ true → Closes (frames_kind fs) (λ r. before_all fs (fixed Open ∷ expression e r))
    go true p b q k =
        after _ (λ r. before_all fs (fixed Open ∷ expression e r)) (fixed (Compare Equal) ∷ number zero_leaf ∷ fixed Close ∷ []) refl (ends.formula_ends (comparison Equal e zero_text) p)
    go false p true q k =
        after _ (λ r. before_all fs (fixed Open ∷ expression e r)) (fixed (Operate Add) ∷ number zero_leaf ∷ fixed Close ∷ []) refl (ends.expression_ends (operation Add e zero_text) q)
    go false p false q k = cc

ends : (fs : Frames) → Well fs → Ends fs
ends (bottom alone) w = record { formula_ends = λ f h. ([], f, refl, inl refl); expression_ends = λ e h. cc }
ends (bottom (shown ws)) w = record { formula_ends = λ f h. ([], record { words = ws; formula = f }, refl, inl refl); expression_ends = λ e h. cc }
ends (bottom (clause x c)) w = record { formula_ends = λ f h. clause_ends x c f; expression_ends = λ e h. cc }
ends (bottom (await_guard a p i)) w = record { formula_ends = λ f h. await_guard_ends a p i f; expression_ends = λ e h. cc }
ends (bottom (branch_guard a p i)) w = record { formula_ends = λ f h. branch_guard_ends a p i f; expression_ends = λ e h. cc }
ends (bottom (loop_guard a p i)) w = record { formula_ends = λ f h. loop_guard_ends a p i f; expression_ends = λ e h. cc }
ends (bottom (value a p t)) w = record { formula_ends = λ f h. cc; expression_ends = λ e h. statement_ends a p (assigning (record { target = t; value = e })) }
ends (bottom (await_value a p i f as_ t)) w = record { formula_ends = λ f h. cc; expression_ends = λ e h. one_ends a p i f as_ (record { target = t; value = e }) }
ends (within negated fs) w = record { formula_ends = λ f h. (ends fs w.1).formula_ends (negation f) w.0; expression_ends = λ e h. cc }
ends (within inverted fs) w = record { formula_ends = λ f h. cc; expression_ends = λ e h. (ends fs w.1).expression_ends (inverse e) w.0 }
ends (within first fs) w = record {
  formula_ends = λ f h. after _ (λ r. before_all fs (fixed Open ∷ formula f r)) (fixed (Imply Implies) ∷ fixed (Truth true) ∷ fixed Close ∷ []) refl ((ends fs w.1).formula_ends (conditional Implies f (truth true)) h);
  expression_ends = λ e h. either_ends fs (ends fs w.1) w.0 e;
}
ends (within (another j (single g)) fs) w = record {
  formula_ends = λ f h. after _ (λ r. before_all fs (fixed Open ∷ chain j (pair g f) r)) (fixed Close ∷ []) refl ((ends fs w.1).formula_ends (junction j (pair g f)) w.0);
  expression_ends = λ e h. cc;
}
ends (within (another j (several c)) fs) w = record {
  formula_ends = λ f h. after _ (λ r. before_all fs (fixed Open ∷ chain j (longer c f) r)) (fixed Close ∷ []) refl ((ends fs w.1).formula_ends (junction j (longer c f)) w.0);
  expression_ends = λ e h. cc;
}
ends (within (second d g) fs) w = record {
  formula_ends = λ f h. after _ (λ r. before_all fs (part (closing_conditional d g f) r)) (fixed Close ∷ []) refl ((ends fs w.1).formula_ends (conditional d g f) w.0);
  expression_ends = λ e h. cc;
}
ends (within (compared c a) fs) w = record {
  formula_ends = λ f h. cc;
  expression_ends = λ e h. after _ (λ r. before_all fs (part (closing_comparison c a e) r)) (fixed Close ∷ []) refl ((ends fs w.1).formula_ends (comparison c a e) w.0);
}
ends (within (operated o a) fs) w = record {
  formula_ends = λ f h. cc;
  expression_ends = λ e h. after _ (λ r. before_all fs (part (closing_operation o a e) r)) (fixed Close ∷ []) refl ((ends fs w.1).expression_ends (operation o a e) w.0);
}
ends (within (condition i) fs) w = record {
  formula_ends = λ f h. after _ (λ r. before_all fs (part (after_condition i f) r)) (fixed Then ∷ number zero_leaf ∷ fixed Else ∷ number zero_leaf ∷ fixed Close ∷ []) refl ((ends fs w.1).expression_ends (choice i f zero_text zero_text) w.0);
  expression_ends = λ e h. cc;
}
ends (within (consequent i f) fs) w = record {
  formula_ends = λ g h. cc;
  expression_ends = λ e h. after _ (λ r. before_all fs (part (after_consequent i f e) r)) (fixed Else ∷ number zero_leaf ∷ fixed Close ∷ []) refl ((ends fs w.1).expression_ends (choice i f e zero_text) w.0);
}
ends (within (alternative i f a) fs) w = record {
  formula_ends = λ g h. cc;
  expression_ends = λ e h. after _ (λ r. before_all fs (part (closing_choice i f a e) r)) (fixed Close ∷ []) refl ((ends fs w.1).expression_ends (choice i f a e) w.0);
}

-- an item of one of the sorts that the place takes
hole_ends : (fs : Frames) → Ends fs → Closes (frames_kind fs) (before_all fs)
hole_ends fs e = go fs e
  where
    by_formula : (fs : Frames) → Ends fs → (taking fs).formula ≡ true → Closes (frames_kind fs) (before_all fs)
    by_formula fs e h = after _ (before_all fs) (fixed (Truth true) ∷ []) refl (e.formula_ends (truth true) h)

    by_expression : (fs : Frames) → Ends fs → (taking fs).expression ≡ true → Closes (frames_kind fs) (before_all fs)
    by_expression fs e h = after _ (before_all fs) (number zero_leaf ∷ []) refl (e.expression_ends zero_text h)

    go : (fs : Frames) → Ends fs → Closes (frames_kind fs) (before_all fs)
    go (bottom (value a p t)) e = by_expression (bottom (value a p t)) e refl
    go (bottom (await_value a p i f as_ t)) e = by_expression (bottom (await_value a p i f as_ t)) e refl
    go (bottom o) e = by_formula (bottom o) e refl
    go (within negated fs) e = by_formula (within negated fs) e refl
    go (within inverted fs) e = by_expression (within inverted fs) e refl
    go (within first fs) e = by_expression (within first fs) e refl
    go (within (another j os) fs) e = by_formula (within (another j os) fs) e refl
    go (within (second d f) fs) e = by_formula (within (second d f) fs) e refl
    go (within (compared c a) fs) e = by_expression (within (compared c a) fs) e refl
    go (within (operated o a) fs) e = by_expression (within (operated o a) fs) e refl
    go (within (condition i) fs) e = by_formula (within (condition i) fs) e refl
    go (within (consequent i f) fs) e = by_expression (within (consequent i f) fs) e refl
    go (within (alternative i f a) fs) e = by_expression (within (alternative i f a) fs) e refl

part_ends : (fs : Frames) → Ends fs → (p : Part) → part_needs p (taking fs) ≡ true → Closes (frames_kind fs) (λ r. before_all fs (part p r))
part_ends fs e (after_formula f) n = after _ (λ r. before_all fs (part (after_formula f) r)) (fixed (Imply Implies) ∷ fixed (Truth true) ∷ fixed Close ∷ []) refl (e.formula_ends (conditional Implies f (truth true)) n)
part_ends fs e (after_expression a) n = either_ends fs e n a
part_ends fs e (after_next j c) n = after _ (λ r. before_all fs (part (after_next j c) r)) (fixed Close ∷ []) refl (e.formula_ends (junction j c) n)
part_ends fs e (counted s a) n = after _ (λ r. before_all fs (part (counted s a) r)) (number zero_leaf ∷ fixed Close ∷ []) refl (e.expression_ends (shift s a zero_leaf) n)
part_ends fs e (closing_conditional d f g) n = after _ (λ r. before_all fs (part (closing_conditional d f g) r)) (fixed Close ∷ []) refl (e.formula_ends (conditional d f g) n)
part_ends fs e (closing_comparison c a b) n = after _ (λ r. before_all fs (part (closing_comparison c a b) r)) (fixed Close ∷ []) refl (e.formula_ends (comparison c a b) n)
part_ends fs e (closing_operation o a b) n = after _ (λ r. before_all fs (part (closing_operation o a b) r)) (fixed Close ∷ []) refl (e.expression_ends (operation o a b) n)
part_ends fs e (closing_shift s a text) n = after _ (λ r. before_all fs (part (closing_shift s a text) r)) (fixed Close ∷ []) refl (e.expression_ends (shift s a text) n)
part_ends fs e (closing_choice i f a b) n = after _ (λ r. before_all fs (part (closing_choice i f a b) r)) (fixed Close ∷ []) refl (e.expression_ends (choice i f a b) n)
part_ends fs e (after_condition i f) n = after _ (λ r. before_all fs (part (after_condition i f) r)) (fixed Then ∷ number zero_leaf ∷ fixed Else ∷ number zero_leaf ∷ fixed Close ∷ []) refl (e.expression_ends (choice i f zero_text zero_text) n)
part_ends fs e (after_consequent i f a) n = after _ (λ r. before_all fs (part (after_consequent i f a) r)) (fixed Else ∷ number zero_leaf ∷ fixed Close ∷ []) refl (e.expression_ends (choice i f a zero_text) n)

done_ends : (o : Outer) (f : FormulaSpelling) → WellState (done o f) → Closes (outer_kind o) (λ r. before_outer o (formula f r))
done_ends alone f w = ([], f, refl, inl refl)
done_ends (shown ws) f w = ([], record { words = ws; formula = f }, refl, inl refl)
done_ends (clause x c) f w = absurd w
done_ends (await_guard a p i) f w = absurd w
done_ends (branch_guard a p i) f w = absurd w
done_ends (loop_guard a p i) f w = absurd w
done_ends (value a p t) f w = absurd w
done_ends (await_value a p i g as_ t) f w = absurd w

-- what has been read goes on to a whole text, and meets no limit there
pub record StateEnds (s : State) : Type 0 where
  pub rest : List Lexeme
  pub text : Spelling (state_kind s)
  pub whole : tokens s rest ≡ spelled (state_kind s) text []
  pub unlimited : (lists : Bool) → run (state_points s) (kinds rest) ≡ Some (last_point (state_kind s) text ∷ []) → limited lists (state_points s) (kinds rest) ≡ Some (last_point (state_kind s) text ∷ [])

by_closing : (s : State) → Closes (state_kind s) (tokens s) → StateEnds s
by_closing s c = record { rest = c.0; text = c.1; whole = c.2; unlimited = λ lists h. closing_run lists c.0 (last_point (state_kind s) c.1) (state_points s) c.3 h }

abbrev shows_true : WordsSpelling → ShowSpelling
shows_true ws = record { words = ws; formula = truth true }

abbrev a_word : Bool → Leaf → Leaf → DeclaredWord
a_word b n w = record { fixed = b; name = n; width = w }

abbrev shown_true : List Lexeme
shown_true = fixed Show ∷ fixed (Truth true) ∷ []

abbrev idle_program : List Lexeme
idle_program = specification true_spec part_tail

abbrev idles : WordsSpelling → ProgramSpelling
idles ws = record { words = ws; spec = true_spec; parts = one_part (idle_part zero_leaf true_spec) }

-- a word is declared, and `true` is shown or one part does nothing
head_ends : (b : Bool) (h : Head) → StateEnds (head b h)
head_ends false unread = record { rest = fixed Words ∷ name zero_leaf ∷ fixed Colon ∷ number zero_leaf ∷ shown_true; text = shows_true (one (a_word false zero_leaf zero_leaf)); whole = refl; unlimited = λ lists h. h }
head_ends true unread = record { rest = fixed Words ∷ name zero_leaf ∷ fixed Colon ∷ number zero_leaf ∷ idle_program; text = idles (one (a_word false zero_leaf zero_leaf)); whole = refl; unlimited = λ lists h. h }
head_ends false before_first = record { rest = name zero_leaf ∷ fixed Colon ∷ number zero_leaf ∷ shown_true; text = shows_true (one (a_word false zero_leaf zero_leaf)); whole = refl; unlimited = λ lists h. h }
head_ends true before_first = record { rest = name zero_leaf ∷ fixed Colon ∷ number zero_leaf ∷ idle_program; text = idles (one (a_word false zero_leaf zero_leaf)); whole = refl; unlimited = λ lists h. h }
head_ends false (after_fixed None) = record { rest = name zero_leaf ∷ fixed Colon ∷ number zero_leaf ∷ shown_true; text = shows_true (one (a_word true zero_leaf zero_leaf)); whole = refl; unlimited = λ lists h. h }
head_ends true (after_fixed None) = record { rest = name zero_leaf ∷ fixed Colon ∷ number zero_leaf ∷ idle_program; text = idles (one (a_word true zero_leaf zero_leaf)); whole = refl; unlimited = λ lists h. h }
head_ends false (after_fixed (Some ws)) = record { rest = name zero_leaf ∷ fixed Colon ∷ number zero_leaf ∷ shown_true; text = shows_true (more ws (a_word true zero_leaf zero_leaf)); whole = refl; unlimited = λ lists h. h }
head_ends true (after_fixed (Some ws)) = record { rest = name zero_leaf ∷ fixed Colon ∷ number zero_leaf ∷ idle_program; text = idles (more ws (a_word true zero_leaf zero_leaf)); whole = refl; unlimited = λ lists h. h }
head_ends false (after_name None b l) = record { rest = fixed Colon ∷ number zero_leaf ∷ shown_true; text = shows_true (one (a_word b l zero_leaf)); whole = refl; unlimited = λ lists h. h }
head_ends true (after_name None b l) = record { rest = fixed Colon ∷ number zero_leaf ∷ idle_program; text = idles (one (a_word b l zero_leaf)); whole = refl; unlimited = λ lists h. h }
head_ends false (after_name (Some ws) b l) = record { rest = fixed Colon ∷ number zero_leaf ∷ shown_true; text = shows_true (more ws (a_word b l zero_leaf)); whole = refl; unlimited = λ lists h. h }
head_ends true (after_name (Some ws) b l) = record { rest = fixed Colon ∷ number zero_leaf ∷ idle_program; text = idles (more ws (a_word b l zero_leaf)); whole = refl; unlimited = λ lists h. h }
head_ends false (after_colon None b l) = record { rest = number zero_leaf ∷ shown_true; text = shows_true (one (a_word b l zero_leaf)); whole = refl; unlimited = λ lists h. h }
head_ends true (after_colon None b l) = record { rest = number zero_leaf ∷ idle_program; text = idles (one (a_word b l zero_leaf)); whole = refl; unlimited = λ lists h. h }
head_ends false (after_colon (Some ws) b l) = record { rest = number zero_leaf ∷ shown_true; text = shows_true (more ws (a_word b l zero_leaf)); whole = refl; unlimited = λ lists h. h }
head_ends true (after_colon (Some ws) b l) = record { rest = number zero_leaf ∷ idle_program; text = idles (more ws (a_word b l zero_leaf)); whole = refl; unlimited = λ lists h. h }
head_ends false (after_words ws) = record { rest = shown_true; text = shows_true (ws); whole = refl; unlimited = λ lists h. h }
head_ends true (after_words ws) = record { rest = idle_program; text = idles (ws); whole = refl; unlimited = λ lists h. h }

-- the word is set to 0
set_ends : (x : Set) → StateEnds (set x)
set_ends (after_settings for_start ss) = record { rest = []; text = ss; whole = refl; unlimited = λ lists h. h }
set_ends (after_settings (for_move ms n) ss) = record { rest = []; text = and_move ms n ss; whole = refl; unlimited = λ lists h. h }
set_ends (after_set_word for_start ss l) = record {
  rest = fixed (Compare Equal) ∷ number zero_leaf ∷ [];
  text = and_setting ss (record { word = l; value = zero_leaf });
  whole = refl;
  unlimited = λ lists h. h;
}
set_ends (after_set_word (for_move ms n) ss l) = record {
  rest = fixed (Compare Equal) ∷ number zero_leaf ∷ [];
  text = and_move ms n (and_setting ss (record { word = l; value = zero_leaf }));
  whole = refl;
  unlimited = λ lists h. h;
}
set_ends (after_equals for_start ss l) = record {
  rest = number zero_leaf ∷ [];
  text = and_setting ss (record { word = l; value = zero_leaf });
  whole = refl;
  unlimited = λ lists h. h;
}
set_ends (after_equals (for_move ms n) ss l) = record {
  rest = number zero_leaf ∷ [];
  text = and_move ms n (and_setting ss (record { word = l; value = zero_leaf }));
  whole = refl;
  unlimited = λ lists h. h;
}
set_ends before_moves = record { rest = []; text = no_move; whole = refl; unlimited = λ lists h. h }
set_ends (after_at ms) = record {
  rest = number zero_leaf ∷ [];
  text = and_move ms zero_leaf no_setting;
  whole = refl;
  unlimited = λ lists h. h;
}

abbrev zero_to : Leaf → AssignmentSpelling
zero_to t = record { target = t; value = zero_text }

await_target_ends : (a : Around) (p : Option BlockSpelling) (i : Leaf) (f : FormulaSpelling) (as_ : Option AssignmentsSpelling) → StateEnds (place (await_target a p i f as_))
await_target_ends a p i f as_ =
    let c = one_ends a p i f as_ (zero_to zero_leaf) in
    let e = after texts.Program (λ r. before_place (await_name a p i f as_ zero_leaf) r) (fixed Assign ∷ number zero_leaf ∷ []) refl c in
    record {
      rest = name zero_leaf ∷ e.0;
      text = e.1;
      whole = e.2;
      unlimited = λ lists h. closing_run lists e.0 (last_point texts.Program e.1) (place_points (await_name a p i f as_ zero_leaf)) e.3 h;
    }

part_name_ends : (ws : WordsSpelling) (sp : SpecSpelling) (ps : Option PartsSpelling) → StateEnds (place (part_name ws sp ps))
part_name_ends ws sp ps =
    let e = after texts.Program (λ r. before_place (named_part ws sp ps zero_leaf) r) (fixed (Section Pre) ∷ fixed (Truth true) ∷ []) refl (clause_ends (of_part ws sp ps zero_leaf) to_pre (truth true)) in
    record {
      rest = name zero_leaf ∷ e.0;
      text = e.1;
      whole = e.2;
      unlimited = λ lists h. closing_run lists e.0 (last_point texts.Program e.1) (place_points (named_part ws sp ps zero_leaf)) e.3 h;
    }

-- each place of a program outside its formulas and expressions
place_ends : (x : Place) → StateEnds (place x)
place_ends (after_clause w c f) = by_closing (place (after_clause w c f)) (clause_ends w c f)
place_ends (part_name ws sp ps) = part_name_ends ws sp ps
place_ends (named_part ws sp ps n) =
    by_closing (place (named_part ws sp ps n)) (after texts.Program (before_place (named_part ws sp ps n)) (fixed (Section Pre) ∷ fixed (Truth true) ∷ []) refl (clause_ends (of_part ws sp ps n) to_pre (truth true)))
place_ends (after_part ws sp ps) = by_closing (place (after_part ws sp ps)) ([], record { words = ws; spec = sp; parts = ps }, refl, inl refl)
place_ends (item a p) = by_closing (place (item a p)) (after texts.Program (before_place (item a p)) (opening a_skip zero_leaf ∷ []) refl (statement_ends a p (skipping zero_leaf)))
place_ends (after_item a b) = by_closing (place (after_item a b)) (block_ends a b)
place_ends (target a p t) = by_closing (place (target a p t)) (after texts.Program (before_place (target a p t)) (fixed Assign ∷ number zero_leaf ∷ []) refl (statement_ends a p (assigning (zero_to t))))
place_ends (after_await_guard a p i f) = by_closing (place (after_await_guard a p i f)) (await_guard_ends a p i f)
place_ends (await_target a p i f as_) = await_target_ends a p i f as_
place_ends (await_name a p i f as_ t) = by_closing (place (await_name a p i f as_ t)) (after texts.Program (before_place (await_name a p i f as_ t)) (fixed Assign ∷ number zero_leaf ∷ []) refl (one_ends a p i f as_ (zero_to t)))
place_ends (after_assignment a p i f as_) = by_closing (place (after_assignment a p i f as_)) (await_ends a p i f as_)
place_ends (after_branch_guard a p i f) = by_closing (place (after_branch_guard a p i f)) (branch_guard_ends a p i f)
place_ends (after_loop_guard a p i f) = by_closing (place (after_loop_guard a p i f)) (loop_guard_ends a p i f)

-- a line is ended by the rule `basic` and by `true` as each of its formulas
abbrev true_claims : List Lexeme
true_claims = specification true_spec []

abbrev basic_start : Leaf → Leaf → LineStart
basic_start b n = record { begin = b; number = n; rule = Basic; rule_word = zero_leaf; statement = zero_leaf }

in_lines_ends : (x : InLines) → Closes texts.Derivation (before_in_lines x)
in_lines_ends before_lines = ([], no_line, refl, inl refl)
in_lines_ends (line_begun d b) = (number zero_leaf ∷ fixed (Section BasicWord) ∷ number zero_leaf ∷ true_claims, and_line d (whole_line (basic_start b zero_leaf) None true_spec), refl, inl refl)
in_lines_ends (line_numbered d b n) = (fixed (Section BasicWord) ∷ number zero_leaf ∷ true_claims, and_line d (whole_line (basic_start b n) None true_spec), refl, inl refl)
in_lines_ends (line_ruled d b n x w) =
    (number zero_leaf ∷ true_claims, and_line d (whole_line (record { begin = b; number = n; rule = x; rule_word = w; statement = zero_leaf }) None true_spec), refl, inl refl)
in_lines_ends (after_statement d l) = (true_claims, and_line d (whole_line l None true_spec), refl, inl refl)
in_lines_ends (after_from d l) = (number zero_leaf ∷ true_claims, and_line d (whole_line l (Some (one_premise zero_leaf)) true_spec), refl, inl refl)
in_lines_ends (after_premise d l ps) = (true_claims, and_line d (whole_line l (Some ps) true_spec), refl, inl refl)

pub state_ends : (s : State) → WellState s → StateEnds s
state_ends (hole fs) w = by_closing (hole fs) (hole_ends fs (ends fs w))
state_ends (at fs p) w = by_closing (at fs p) (part_ends fs (ends fs w.1) p w.0)
state_ends (done o f) w = by_closing (done o f) (done_ends o f w)
state_ends (head b h) w = head_ends b h
state_ends (set x) w = set_ends x
state_ends (place x) w = place_ends x
state_ends (in_lines x) w = by_closing (in_lines x) (in_lines_ends x)

-- the machine has taken a whole text where it may end
pub at_end : (s : State) → WellState s → is_at_end (state_points s) ≡ true → IsText (state_kind s) (tokens s [])
at_end (hole fs) w h = ends_apart fs (below fs) h
  where
    ends_apart : (fs : Frames) (ps : List Point) → is_at_end (top fs ∷ ps) ≡ true → IsText (frames_kind fs) (tokens (hole fs) [])
    ends_apart (bottom alone) ps h = cc
    ends_apart (bottom _) ps h = cc
    ends_apart (within negated fs) ps h = cc
    ends_apart (within _ fs) ps h = cc
at_end (at fs p) w h = ends_apart p (taking fs) h
  where
    ends_apart : (p : Part) (g : Sorts) → is_at_end (part_point p g ∷ under p (points fs)) ≡ true → IsText (frames_kind fs) (tokens (at fs p) [])
    ends_apart (after_formula f) g h = cc
    ends_apart _ g h = cc
at_end (done alone f) w h = (f, refl)
at_end (done (shown ws) f) w h = (record { words = ws; formula = f }, refl)
at_end (done _ f) w h = absurd w
at_end (head b unread) w h = cc
at_end (head b _) w h = cc
at_end (set (after_settings for_start ss)) w h = (ss, refl)
at_end (set (after_settings (for_move ms n) ss)) w h = (and_move ms n ss, refl)
at_end (set before_moves) w h = (no_move, refl)
at_end (set _) w h = cc
at_end (place (after_part ws sp ps)) w h = (record { words = ws; spec = sp; parts = ps }, refl)
at_end (place (after_clause (of_line d l p) (to_post f g k) x)) w h = (and_line d (whole_line l p (record { pre = f; rely = g; guar = k; post = x })), refl)
at_end (place (after_clause (own ws) (to_post f g k) x)) w h = cc
at_end (place (after_clause (of_part ws sp ps n) (to_post f g k) x)) w h = cc
at_end (place (after_clause o to_pre x)) w h = cc
at_end (place (after_clause o (to_rely f) x)) w h = cc
at_end (place (after_clause o (to_guar f g) x)) w h = cc
at_end (place _) w h = cc
at_end (in_lines before_lines) w h = (no_line, refl)
at_end (in_lines _) w h = cc
