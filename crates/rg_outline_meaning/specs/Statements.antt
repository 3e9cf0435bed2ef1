-- What the statements of an outline stand for, by rules. One of them fits at most. The lines in their trees are 0, as they aren't known yet.
use Rattle.std.specs.Prelude.{◌≡◌, ℕ, suc, ℤ, Bool, true, false, List, [], ◌∷◌, ◌++◌, length, map, All, Option, Some, None, slice_get}
use Rattle.rg_words.specs.Layout.{Word}
use Rattle.rg_tree.specs.Trees as trees
use Rattle.rg_tree.specs.Trees.{Expression, Proposition, Assignment, word, truth}
use Rattle.rg_tree.specs.Statements.{Statement, skip, assign, await, sequence, branch, loop, Items, one, more}
use Rattle.rg_outline_syntax.specs.declared.span.Span.{Span}
use Rattle.rg_outline_syntax.specs.declared.written.List as written
use Rattle.rg_outline_syntax.specs.declared.written.Assignment as target
use Rattle.rg_outline_syntax.specs.declared.written.ItemKind.{ItemKind}
use Rattle.rg_outline_syntax.specs.declared.written.ItemKind.TheVariants.{Assertion, Skip, Use, Assign, Atomic, Await, If, While, For}
use Rattle.rg_outline_syntax.specs.declared.written.ExpressionKind.TheVariants.{Name}
use Rattle.rg_outline_meaning.specs.Meanings.{Meaning, value, claim, value_of, equals}
use Rattle.rg_outline_meaning.specs.Names.{Outline, text_of, listed, piece_of, HasKind, statements, Names, IsUnbound, Knows, Binds, with_number, HasArguments, inside, bound_to}
use Rattle.rg_outline_meaning.specs.Members.{Candidate, mentions}
use Rattle.rg_outline_meaning.specs.Expressions as expressions
use Rattle.rg_outline_meaning.specs.Expressions.{StandsFor, AllStandFor, RangeIs, Selects, Selected, IsValue, among}

-- the items of a sequence after its first
abbrev pub items_of : Statement → List Statement → Items
items_of s [] = one s
items_of s (t ∷ ts) = more s (items_of t ts)

-- one statement, or several in sequence
abbrev pub in_sequence : Statement → List Statement → Statement
in_sequence s [] = s
in_sequence s (t ∷ ts) = sequence 0 s (items_of t ts)

-- statements, one at least, in sequence
abbrev pub IsInSequence : List Statement → Statement → Type 0
IsInSequence [] s = ⊥
IsInSequence (t ∷ ts) s = s ≡ in_sequence t ts

-- assignments as one step: one of them needs no `atomic`
abbrev pub one_step : List Assignment → Statement
one_step [] = await 0 (truth true) []
one_step (a ∷ []) = assign 0 a
one_step (a ∷ b ∷ rest) = await 0 (truth true) (a ∷ b ∷ rest)

-- a member becomes the value where the index is its number, and else stays what it was
abbrev pub updated : Expression → Expression → Candidate → Assignment
updated e v c = record { target = c.word; value = trees.choice (equals e c.number) v (word c.word) }

-- the assignments to what is selected
abbrev pub assigned : Selected → Expression → List Assignment
assigned (expressions.one k) v = record { target = k; value = v } ∷ []
assigned (among e c cs) v = map (updated e v) (c ∷ cs)

-- none of these members stands in a value
abbrev pub MentionsNone : Expression → List Candidate → Type 0
MentionsNone e cs = All (λ c. mentions c.word e ≡ false) cs

-- the index that chooses what is written mentions none of those from which it chooses
abbrev pub IsSteady : Selected → Type 0
IsSteady (expressions.one k) = Unit {0}
IsSteady (among e c cs) = MentionsNone e (c ∷ cs)

-- what an assignment writes: what its target selects, or the word that a parameter stands for
pub data Writes (o : Outline) (words : List Word) : Names → Span → written.List → Selected → Type 0 where
  selected : (names : Names) (name : Span) (l : written.List) (s : Selected) → Selects o words names name l s → IsSteady s → Writes o words names name l s
  passed : (names : Names) (k w : ℕ) (name : Span) (l : written.List)
      → Binds names k (text_of o name) (value (word w))
      → listed o l ≡ []
      → Writes o words names name l (expressions.one w)

-- the assignments of a step, in their order
pub data StepStandsFor (o : Outline) (words : List Word) (names : Names) : List target.Assignment → List Assignment → Type 0 where
  none : StepStandsFor o words names [] []
  also : (a : target.Assignment)
      → (rest : List target.Assignment) (name : Span) (l : written.List) (s : Selected) (m : Meaning) (v : Expression) (more : List Assignment)
      → HasKind o a.target (Name name l false false)
      → Writes o words names name l s
      → StandsFor o words names a.value m
      → value_of m ≡ Some v
      → StepStandsFor o words names rest more
      → StepStandsFor o words names (a ∷ rest) (assigned s v ++ more)

mutual
  -- a statement, which stands for one or, as a `for` and a use do, for several; an assertion stands for none. A wait without assignments keeps a word
  pub data ItemStandsFor (o : Outline) (words : List Word) (waiting_word : Option ℕ) : Names → ItemKind → List Statement → Type 0 where
    assertion : (names : Names) (f : ℕ) → ItemStandsFor o words waiting_word names (Assertion f) []
    skipped : (names : Names) → ItemStandsFor o words waiting_word names Skip (skip 0 ∷ [])
    assigning : (names : Names) (place : ℕ) (step : List Assignment)
        → StepStandsFor o words names (piece_of o.written.assignments.items (record { start = place; end = suc place })) step
        → ItemStandsFor o words waiting_word names (Assign place) (one_step step ∷ [])
    atomic : (names : Names) (l : written.List) (step : List Assignment)
        → StepStandsFor o words names (piece_of o.written.assignments.items l) step
        → ItemStandsFor o words waiting_word names (Atomic l) (await 0 (truth true) step ∷ [])
    awaiting : (names : Names) (f : ℕ) (p : Proposition) (l : written.List) (step : List Assignment)
        → StandsFor o words names f (claim p)
        → StepStandsFor o words names (piece_of o.written.assignments.items l) step
        → ItemStandsFor o words waiting_word names (Await f (Some l)) (await 0 p step ∷ [])
    waiting : (names : Names) (f w : ℕ) (p : Proposition)
        → StandsFor o words names f (claim p)
        → waiting_word ≡ Some w
        → ItemStandsFor o words waiting_word names (Await f None) (await 0 p (record { target = w; value = word w } ∷ []) ∷ [])
    branching : (names : Names) (f : ℕ) (p : Proposition) (yes no : written.List) (a b : Statement)
        → StandsFor o words names f (claim p)
        → BlockStandsFor o words waiting_word names yes a
        → BlockStandsFor o words waiting_word names no b
        → ItemStandsFor o words waiting_word names (If f yes (Some no)) (branch 0 p a b ∷ [])
    testing : (names : Names) (f : ℕ) (p : Proposition) (yes : written.List) (a : Statement)
        → StandsFor o words names f (claim p)
        → BlockStandsFor o words waiting_word names yes a
        → ItemStandsFor o words waiting_word names (If f yes None) (branch 0 p a (skip 0) ∷ [])
    looping : (names : Names) (f : ℕ) (invariant : Option ℕ) (p : Proposition) (body : written.List) (a : Statement)
        → StandsFor o words names f (claim p)
        → BlockStandsFor o words waiting_word names body a
        → ItemStandsFor o words waiting_word names (While f invariant body) (loop 0 p a ∷ [])
    repeated : (names : Names) (index : Span) (range : ℕ) (body : written.List) (zs : List ℤ) (ss : List Statement)
        → IsUnbound names (text_of o index)
        → RangeIs o words names range zs
        → RoundsStandFor o words waiting_word names (text_of o index) body zs ss
        → ItemStandsFor o words waiting_word names (For index range body) ss
    used : (names : Names)
        → (i : ℕ) (name : Span) (l : written.List) (has_arguments : Bool) (parameters : List (List ℕ)) (body : List ℕ) (ms : List Meaning) (ss : List Statement)
        → HasKind o i (Name name l has_arguments false)
        → Knows o names name (statements parameters body)
        → HasArguments o has_arguments l
        → AllStandFor o words names (listed o l) ms
        → length ms ≡ length parameters
        → ItemsStandFor o words waiting_word (inside names (bound_to parameters ms)) body ss
        → ItemStandsFor o words waiting_word names (Use i) ss

  -- the statements of items, in their order
  pub data ItemsStandFor (o : Outline) (words : List Word) (waiting_word : Option ℕ) : Names → List ℕ → List Statement → Type 0 where
    no_items : (names : Names) → ItemsStandFor o words waiting_word names [] []
    item_and_more : (names : Names) (i : ℕ) (is : List ℕ) (kind : ItemKind) (span : Span) (ss rest : List Statement)
        → slice_get o.written.items.items i ≡ Some (record { kind = kind; span = span })
        → ItemStandsFor o words waiting_word names kind ss
        → ItemsStandFor o words waiting_word names is rest
        → ItemsStandFor o words waiting_word names (i ∷ is) (ss ++ rest)

  -- the statements of a body with an index that is each of these numbers
  pub data RoundsStandFor (o : Outline) (words : List Word) (waiting_word : Option ℕ) : Names → List ℕ → written.List → List ℤ → List Statement → Type 0 where
    no_rounds : (names : Names) (index : List ℕ) (body : written.List) → RoundsStandFor o words waiting_word names index body [] []
    round_and_more : (names : Names) (index : List ℕ) (body : written.List) (z : ℤ) (zs : List ℤ) (ss rest : List Statement)
        → ItemsStandFor o words waiting_word (with_number names index z) (listed o body) ss
        → RoundsStandFor o words waiting_word names index body zs rest
        → RoundsStandFor o words waiting_word names index body (z ∷ zs) (ss ++ rest)

  -- a block, which has a statement at least
  pub data BlockStandsFor (o : Outline) (words : List Word) (waiting_word : Option ℕ) : Names → written.List → Statement → Type 0 where
    block : (names : Names) (l : written.List) (ss : List Statement) (s : Statement)
        → ItemsStandFor o words waiting_word names (listed o l) ss
        → IsInSequence ss s
        → BlockStandsFor o words waiting_word names l s
