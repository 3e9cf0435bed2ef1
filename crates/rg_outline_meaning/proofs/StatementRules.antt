-- The rules of statements, with what they stand for up to equations, and rows of statements, one by one.
use Rattle.std.proofs.Common.{◌≡◌, ◌≢◌, ℕ, ◌+◌, ◌-◌, ◌<◌, ◌≤◌, ℤ, Bool, true, refl, sym, ◌∙◌, ap, subst, List, [], ◌∷◌, ◌++◌, map, take, length, slice_get, slice_index_or, Option, Some, None, false, add-one, ◌==◌, rules as std_rules, tests, arith, length-append}
use Rattle.std.proofs.lemmas.List.Elements.{All-cons}
use Rattle.std.proofs.lemmas.List.{map-append, append_assoc, append-nil, take_more, take_all}
use Rattle.std.proofs.Math.Seq.{take-append_seam}
use Rattle.rg_words.specs.Layout.{Word}
use Rattle.rg_tree.specs.Trees.{Expression, Assignment, word, truth}
use Rattle.rg_tree.specs.Statements.{Statement, await, assign, sequence, Items, one as ends, more as goes_on}
use Rattle.rg_tree.specs.declared.condition.Assign.{Assign}
use Rattle.rg_tree.specs.declared.statement.Stmt.{Stmt}
use Rattle.rg_tree.specs.ConditionTrees.{assignment}
use Rattle.rg_tree.specs.ProgramView.{statement}
use Rattle.rg_outline_syntax.specs.declared.span.Span.{Span}
use Rattle.rg_outline_syntax.specs.declared.written.List as written
use Rattle.rg_outline_syntax.specs.declared.written.Assignment as target
use Rattle.rg_outline_syntax.specs.declared.written.Item.{Item}
use Rattle.rg_outline_syntax.specs.declared.written.ItemKind.{ItemKind}
use Rattle.rg_outline_syntax.specs.declared.written.ItemKind.TheVariants.{Use, Assign as Assigning, For}
use Rattle.rg_outline_syntax.specs.declared.written.ExpressionKind.TheVariants.{Name}
use Rattle.rg_outline_meaning.specs.Meanings.{Meaning, value, value_of}
use Rattle.rg_outline_meaning.specs.Names.{Outline, text_of, listed, piece_of, HasKind, statements, Bound, Names, Knows, Binds, with_number, HasArguments, inside, bound_to, IsUnbound}
use Rattle.rg_outline_meaning.specs.Members.{Candidate, mentions}
use Rattle.rg_outline_meaning.specs.Expressions.{AllStandFor, RangeIs, Selected, StandsFor}
use Rattle.rg_outline_meaning.specs.View.{outline, knowns, bound}
use Rattle.rg_outline_meaning.specs.declared.names.Bound as declared
use Rattle.rg_outline_meaning.specs.declared.names.Reader.{Reader}
use Rattle.rg_outline_meaning.specs.Expressions as expressions
use Rattle.rg_outline_meaning.specs.Statements as rule
use Rattle.rg_outline_meaning.specs.Statements.{MentionsNone, IsSteady, items_of, in_sequence, IsInSequence, one_step, assigned, Writes, StepStandsFor, none, also, ItemStandsFor, ItemsStandFor, no_items, item_and_more, RoundsStandFor, no_rounds, round_and_more}

-- ---- a sequence

-- the items of a sequence after its first, as a list
abbrev pub row_of : Items → List Statement
row_of (ends s) = s ∷ []
row_of (goes_on s rest) = s ∷ row_of rest

pub items_of_row : (s : Statement) (rest : Items) → items_of s (row_of rest) ≡ goes_on s rest
items_of_row s (ends t) = refl
items_of_row s (goes_on t rest) = ap (λ x. goes_on s x) (items_of_row t rest)

pub sequence_of_row : (s : Statement) (rest : Items) → in_sequence s (row_of rest) ≡ sequence 0 s rest
sequence_of_row s (ends t) = refl
sequence_of_row s (goes_on t rest) = ap (λ x. sequence 0 s x) (items_of_row t rest)

-- all are in sequence
pub whole_sequence : (all : List Statement) (s : Statement) (rest : Items) → all ≡ s ∷ row_of rest → IsInSequence all (sequence 0 s rest)
whole_sequence all s rest is = subst (λ ss. IsInSequence ss (sequence 0 s rest)) (sym is) (sym (sequence_of_row s rest))

pub only_one : (all : List Statement) (s : Statement) → all ≡ s ∷ [] → IsInSequence all s
only_one all s is = subst (λ ss. IsInSequence ss s) (sym is) refl

-- the last of those that are left goes before the row
pub taken_before : (all : List Statement) (old new : List Stmt) (s : Stmt) (row : List Statement) → old ≡ new ++ s ∷ [] → all ≡ map statement old ++ row → all ≡ map statement new ++ statement s ∷ row
taken_before all old new s row last is = is ∙ ap (λ ss. map statement ss ++ row) last ∙ ap (λ ss. ss ++ row) (map-append statement new (s ∷ [])) ∙ append_assoc (map statement new) (statement s ∷ []) row

pub nothing_left : {A : Type 0} (xs : List A) → length xs ≡ 0 → xs ≡ []
nothing_left [] is = refl
nothing_left (x ∷ xs) is = cc

pub no_elements : {A : Type 0} (xs : List A) → (length xs == 0) ≡ true → xs ≡ []
no_elements [] is = refl
no_elements (x ∷ xs) is = nothing_left (x ∷ xs) (search (std_rules, tests))

-- ---- steps

pub several_assignments : (step : List Assignment) → length step ≢ 1 → await 0 (truth true) step ≡ one_step step
several_assignments [] far = refl
several_assignments (a ∷ []) far = absurd (far refl)
several_assignments (a ∷ b ∷ rest) far = refl

module _ (o : Outline) (words : List Word) (names : Names) where
  -- steps, and one after the other
  pub steps_and_steps : (xs ys : List target.Assignment) (step next : List Assignment) → StepStandsFor o words names xs step → StepStandsFor o words names ys next → StepStandsFor o words names (xs ++ ys) (step ++ next)
  steps_and_steps _ ys _ next none h = h
  steps_and_steps _ ys _ next (also a rest name l s m v more made writes stands is others) h =
      subst (λ x. StepStandsFor o words names (a ∷ (rest ++ ys)) x) (sym (append_assoc (assigned s v) more next)) (also a (rest ++ ys) name l s m v (more ++ next) made writes stands is (steps_and_steps rest ys more next others h))

  pub steps_next : (xs : List target.Assignment) (k : ℕ) (d a : target.Assignment) (old own new : List Assign) → a ≡ slice_index_or xs k d → k < length xs → new ≡ old ++ own → StepStandsFor o words names (take k xs) (map assignment old) → StepStandsFor o words names (a ∷ []) (map assignment own) → StepStandsFor o words names (take (k + 1) xs) (map assignment new)
  steps_next xs k d a old own new at low is all more = rw (take_more xs k d low, ← at, is, map-append assignment old own) (steps_and_steps (take k xs) (a ∷ []) (map assignment old) (map assignment own) all more)

  -- one assignment
  pub one_written : (a : target.Assignment) (name : Span) (l : written.List) (s : Selected) (m : Meaning) (v : Expression) (step : List Assignment) → HasKind o a.target (Name name l false false) → Writes o words names name l s → StandsFor o words names a.value m → value_of m ≡ Some v → step ≡ assigned s v → StepStandsFor o words names (a ∷ []) step
  one_written a name l s m v step made writes stands is same = subst (λ x. StepStandsFor o words names (a ∷ []) x) (append-nil (assigned s v) ∙ sym same) (also a [] name l s m v [] made writes stands is none)

  -- the word that a parameter stands for
  pub passed_word : (name : Span) (l : written.List) (w : ℕ) (m : Meaning) (xs : List ℕ) (b : Bool) → ((k : ℕ) × Binds names k (text_of o name) m) → m ≡ value (word w) → xs ≡ listed o l → b ≡ (length xs == 0) → b ≡ true → Writes o words names name l (expressions.one w)
  passed_word name l w m xs b bound is same empty so = rule.passed names bound.0 w name l (rw is at bound.1) (sym same ∙ no_elements xs (sym empty ∙ so))

-- ---- statements

module _ (o : Outline) (words : List Word) (waiting_word : Option ℕ) where
  pub of_assigning : (names : Names) (place end : ℕ) (step : List Assignment) (s : Statement) → end ≡ place + 1 → StepStandsFor o words names (piece_of o.written.assignments.items (record { start = place; end = end })) step → s ≡ one_step step → ItemStandsFor o words waiting_word names (Assigning place) (s ∷ [])
  of_assigning names place end step s is all same = subst (λ x. ItemStandsFor o words waiting_word names (Assigning place) (x ∷ [])) (sym same) (rule.assigning names place step (rw (is ∙ add-one place) at all))

  -- items, and one more
  pub items_and_one : (names : Names) (is : List ℕ) (ss own : List Statement) (i : ℕ) (item : Item) → ItemsStandFor o words waiting_word names is ss → slice_get o.written.items.items i ≡ Some item → ItemStandsFor o words waiting_word names item.kind own → ItemsStandFor o words waiting_word names (is ++ i ∷ []) (ss ++ own)
  items_and_one _ _ _ own i item (no_items names) at h = subst (λ x. ItemsStandFor o words waiting_word names (i ∷ []) x) (append-nil own) (item_and_more names i [] item.kind item.span own [] at h (no_items names))
  items_and_one _ _ _ own i item (item_and_more names j js kind span ts rest there first others) at h =
      subst (λ x. ItemsStandFor o words waiting_word names (j ∷ (js ++ i ∷ [])) x) (sym (append_assoc ts rest own)) (item_and_more names j (js ++ i ∷ []) kind span ts (rest ++ own) there first (items_and_one names js rest own i item others at h))

  pub items_next : (names : Names) (is : List ℕ) (k d i : ℕ) (item : Item) (old own new : List Stmt) → i ≡ slice_index_or is k d → k < length is → slice_get o.written.items.items i ≡ Some item → new ≡ old ++ own → ItemsStandFor o words waiting_word names (take k is) (map statement old) → ItemStandsFor o words waiting_word names item.kind (map statement own) → ItemsStandFor o words waiting_word names (take (k + 1) is) (map statement new)
  items_next names is k d i item old own new at low there same all one = rw (take_more is k d low, ← at, same, map-append statement old own) (items_and_one names (take k is) (map statement old) (map statement own) i item all there one)

  -- rounds, and one more
  pub rounds_and_one : (names : Names) (index : List ℕ) (body : written.List) (zs : List ℤ) (ss own : List Statement) (z : ℤ) → RoundsStandFor o words waiting_word names index body zs ss → ItemsStandFor o words waiting_word (with_number names index z) (listed o body) own → RoundsStandFor o words waiting_word names index body (zs ++ z ∷ []) (ss ++ own)
  rounds_and_one _ _ _ _ _ own z (no_rounds names index body) h = subst (λ x. RoundsStandFor o words waiting_word names index body (z ∷ []) x) (append-nil own) (round_and_more names index body z [] own [] h (no_rounds names index body))
  rounds_and_one _ _ _ _ _ own z (round_and_more names index body y ys ts rest first others) h =
      subst (λ x. RoundsStandFor o words waiting_word names index body (y ∷ (ys ++ z ∷ [])) x) (sym (append_assoc ts rest own)) (round_and_more names index body y (ys ++ z ∷ []) ts (rest ++ own) first (rounds_and_one names index body ys rest own z others h))

  pub rounds_next : (names inner : Names) (index : List ℕ) (body : written.List) (zs : List ℤ) (k : ℕ) (d z : ℤ) (old own new : List Stmt) → z ≡ slice_index_or zs k d → k < length zs → new ≡ old ++ own → inner ≡ with_number names index z → RoundsStandFor o words waiting_word names index body (take k zs) (map statement old) → ItemsStandFor o words waiting_word inner (listed o body) (map statement own) → RoundsStandFor o words waiting_word names index body (take (k + 1) zs) (map statement new)
  rounds_next names inner index body zs k d z old own new at low same is all one = rw (take_more zs k d low, ← at, same, map-append statement old own) (rounds_and_one names index body (take k zs) (map statement old) (map statement own) z all (rw is at one))

  pub of_rounds : (names : Names) (kind : ItemKind) (index : Span) (range : ℕ) (body : written.List) (zs xs : List ℤ) (k : ℕ) (ss : List Statement) → kind ≡ For index range body → IsUnbound names (text_of o index) → RangeIs o words names range zs → xs ≡ zs → length xs ≤ k → RoundsStandFor o words waiting_word names (text_of o index) body (take k xs) ss → ItemStandsFor o words waiting_word names kind ss
  of_rounds names kind index range body zs xs k ss is new numbers same far rounds =
      rw is (rule.repeated names index range body zs ss new numbers (subst (λ ys. RoundsStandFor o words waiting_word names (text_of o index) body ys ss) (take_all k xs far ∙ same) rounds))

  pub of_use : (names inner : Names) (i : ℕ) (name : Span) (l : written.List) (has_arguments : Bool) (parameters : List (List ℕ)) (body : List ℕ) (ms : List Meaning) (ss : List Statement) → HasKind o i (Name name l has_arguments false) → Knows o names name (statements parameters body) → HasArguments o has_arguments l → AllStandFor o words names (listed o l) ms → length ms ≡ length parameters → inner ≡ inside names (bound_to parameters ms) → ItemsStandFor o words waiting_word inner body ss → ItemStandsFor o words waiting_word names (Use i) ss
  of_use names inner i name l has_arguments parameters body ms ss made known called all count is stand = rule.used names i name l has_arguments parameters body ms ss made known called all count (rw is at stand)

-- ---- names

-- the names that are known where these are bound
abbrev pub names_with : Reader → List declared.Bound → Names
names_with r bs = record { known = knowns r; bound = map (bound (outline r)) bs }

-- one more is bound
pub one_more_bound : (r : Reader) (n : Names) (old pushed : List declared.Bound) (b : declared.Bound) → names_with r old ≡ n → pushed ≡ old ++ b ∷ [] → names_with r pushed ≡ record { known = n.known; bound = n.bound ++ bound (outline r) b ∷ [] }
one_more_bound r n old pushed b same is =
    ap (λ (bs : List declared.Bound). names_with r bs) is ∙ ap (λ (bs : List Bound). record { known = knowns r; bound = bs }) (map-append (bound (outline r)) old (b ∷ []))
    ∙ ap (λ (m : Names). record { known = m.known; bound = m.bound ++ bound (outline r) b ∷ [] }) same

-- and no more
pub no_more_bound : (r : Reader) (n : Names) (old pushed new : List declared.Bound) (b : declared.Bound) (len : ℕ) → names_with r old ≡ n → pushed ≡ old ++ b ∷ [] → len ≡ length pushed → new ≡ take (len - 1) pushed → names_with r new ≡ n
no_more_bound r n old pushed new b len same is all cut =
    let few : len - 1 ≡ length old = omega (arith, all, ap length is, length-append old (b ∷ [])) in
    ap (λ (bs : List declared.Bound). names_with r bs) (cut ∙ ap (λ m. take m pushed) few ∙ ap (λ xs. take (length old) xs) is ∙ take-append_seam old (b ∷ [])) ∙ same

-- those of named statements
pub inside_names : (r : Reader) (bs : List declared.Bound) (outer : List declared.Bound) (all : List Bound) → map (bound (outline r)) bs ≡ all → names_with r bs ≡ inside (names_with r outer) all
inside_names r bs outer all is = ap (λ (xs : List Bound). record { known = knowns r; bound = xs }) is

-- none of the members is mentioned
pub steady : (e : Expression) (c : Candidate) (cs : List Candidate) → mentions c.word e ≡ false → MentionsNone e cs → IsSteady (expressions.among e c cs)
steady e c cs first others = All-cons (λ d. mentions d.word e ≡ false) c cs first others

pub ruleset sequences = (whole_sequence, only_one, taken_before, nothing_left)

pub ruleset rules = (steps_next, one_written, of_assigning, items_next, rounds_next, of_use, rule.selected, rule.passed, rule.assertion, rule.skipped, rule.atomic, rule.awaiting, rule.waiting, rule.branching, rule.testing, rule.looping, rule.repeated, rule.block, rule.no_items, rule.no_rounds, rule.none)
