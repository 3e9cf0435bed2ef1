-- The program that an outline stands for: its words, the formulas at its head, and its parts. `OutlineStandsFor`, at the end, is the definition.
-- It is read in this order: Meanings, Names, Members, Expressions, Statements, Programs. View, Reading and Inner serve the proofs alone.
use Rattle.std.specs.Prelude.{◌≡◌, ◌≢◌, ℕ, suc, ◌≤◌, ℤ, pos, ◌≤ℤ◌, Bool, true, false, List, [], ◌∷◌, ◌++◌, length, map, Option, Some, None, slice_get}
use Rattle.std.specs.Option.{option_or}
use Rattle.rg_words.specs.Layout.{Word, fixed_of}
use Rattle.rg_tree.specs.Trees.{Expression, Proposition, Assignment, number, word, next_word, inverse, binary, shifted, choice, truth, negation, connected, compared}
use Rattle.rg_tree.specs.Statements.{Statement, skip, assign, await, sequence, branch, loop, Items, one, more, Specification, PartTree, ProgramTree}
use Rattle.rg_outline_syntax.specs.declared.span.Span.{Span}
use Rattle.rg_outline_syntax.specs.declared.written.List as written
use Rattle.rg_outline_syntax.specs.declared.written.Head.{Head}
use Rattle.rg_outline_syntax.specs.declared.written.HeadKind.{HeadKind}
use Rattle.rg_outline_syntax.specs.declared.written.HeadKind.TheVariants.{Let, Procedure, Owns, Interrupts, Clause}
use Rattle.rg_outline_syntax.specs.declared.written.Clause as clause
use Rattle.rg_outline_syntax.specs.declared.written.Clause.TheVariants.{Invariant, Pre, Rely, Guar, Post}
use Rattle.rg_outline_syntax.specs.declared.written.Standing.{Standing}
use Rattle.rg_outline_syntax.specs.declared.written.Standing.TheVariants.{Plain, Fixed, Auxiliary}
use Rattle.rg_outline_syntax.specs.declared.written.Declaration.{Declaration}
use Rattle.rg_outline_syntax.specs.declared.written.PartWritten.{PartWritten}
use Rattle.rg_outline_meaning.specs.Meanings.{claim, whole, IsConjunction}
use Rattle.rg_outline_meaning.specs.Names.{Outline, text_of, listed, piece_of, parameters_of, Known, family, tree, statements, part_number, Names, IsNew, AreDifferent, parameters_in}
use Rattle.rg_outline_meaning.specs.Members.{members, member_name}
use Rattle.rg_outline_meaning.specs.Expressions.{StandsFor, RangeIs, WordsStandFor, IsUnchanged}
use Rattle.rg_outline_meaning.specs.Statements.{BlockStandsFor}

-- ---- trees without widths and lines

abbrev mutual
  pub bare : Expression → Expression
  bare (number w n) = number 0 n
  bare (word k) = word k
  bare (next_word k) = next_word k
  bare (inverse w a) = inverse 0 (bare a)
  bare (binary o w a b) = binary o 0 (bare a) (bare b)
  bare (shifted d w a k) = shifted d 0 (bare a) k
  bare (choice f a b) = choice (bare_claim f) (bare a) (bare b)

  pub bare_claim : Proposition → Proposition
  bare_claim (truth b) = truth b
  bare_claim (negation f) = negation (bare_claim f)
  bare_claim (connected c f g) = connected c (bare_claim f) (bare_claim g)
  bare_claim (compared c a b) = compared c (bare a) (bare b)

abbrev pub bare_assignment : Assignment → Assignment
bare_assignment a = record { target = a.target; value = bare a.value }

abbrev mutual
  pub bare_statement : Statement → Statement
  bare_statement (skip n) = skip 0
  bare_statement (assign n a) = assign 0 (bare_assignment a)
  bare_statement (await n f step) = await 0 (bare_claim f) (map bare_assignment step)
  bare_statement (sequence n s ss) = sequence 0 (bare_statement s) (bare_items ss)
  bare_statement (branch n f s t) = branch 0 (bare_claim f) (bare_statement s) (bare_statement t)
  bare_statement (loop n f s) = loop 0 (bare_claim f) (bare_statement s)

  pub bare_items : Items → Items
  bare_items (one s) = one (bare_statement s)
  bare_items (more s ss) = more (bare_statement s) (bare_items ss)

-- ---- heads

-- the names that are known where no others are bound
abbrev pub of_outline : List Known → Names
of_outline known = record { known = known; bound = [] }

-- what a head makes known: a name for a tree or for statements; nothing else does
abbrev pub known_of : Outline → HeadKind → Option Known
known_of o (Let l) = Some (record { name = text_of o l.name; since = l.span.end; sense = tree (parameters_of o l.parameters) l.body })
known_of o (Procedure p) =
    Some (record { name = text_of o p.name; since = p.span.end; sense = statements (parameters_of o p.parameters) (listed o p.body) })
known_of o (Owns l) = None
known_of o (Interrupts n l) = None
known_of o (Clause c f) = None

-- a name that a head makes known is new, and its parameters are others
abbrev pub IsNewHead : List Known → Known → Type 0
IsNewHead known k = IsNew (of_outline known) k.name × AreDifferent (k.name ∷ parameters_in k.sense)

-- the names that are known after heads, each of which makes one known
pub data KnownAfter (o : Outline) : List Known → List Head → List Known → Type 0 where
  no_heads : (known : List Known) → KnownAfter o known [] known
  name_and_more : (known all : List Known) (h : Head) (hs : List Head) (k : Known)
      → known_of o h.kind ≡ Some k
      → IsNewHead known k
      → KnownAfter o (known ++ k ∷ []) hs all
      → KnownAfter o known (h ∷ hs) all

-- ---- words

-- the first and the last number of an index of a family, of which none is left out
pub record IsIndexRange (o : Outline) (words : List Word) (known : List Known) (i : ℕ) (r : ℤ × ℤ) : Type 0 where
  pub first : ℕ
  pub last : ℕ
  pub but : written.List
  pub span : Span
  pub range : slice_get o.written.ranges.items i ≡ Some (record { first = first; last = last; without = but; span = span })
  pub from : StandsFor o words (of_outline known) first (whole r.0)
  pub to : StandsFor o words (of_outline known) last (whole r.1)
  pub whole_range : listed o but ≡ []
  pub low : pos 0 ≤ℤ r.0
  pub some : r.0 ≤ℤ r.1

abbrev pub AreIndexRanges : Outline → List Word → List Known → List ℕ → List (ℤ × ℤ) → Type 0
AreIndexRanges o words known [] [] = Unit {0}
AreIndexRanges o words known (i ∷ is) (r ∷ rs) = IsIndexRange o words known i r × AreIndexRanges o words known is rs
AreIndexRanges o words known [] (r ∷ rs) = ⊥
AreIndexRanges o words known (i ∷ is) [] = ⊥

abbrev pub is_fixed : Standing → Bool
is_fixed Fixed = true
is_fixed Plain = false
is_fixed Auxiliary = false

-- the words of a declaration: a family's members at their place, the last index runs fastest
abbrev pub declared_words : Outline → Declaration → List (ℤ × ℤ) → ℕ → List Word
declared_words o d ranges width =
    map (λ zs. record { name = member_name (text_of o d.name) zs; width = width; fixed = is_fixed d.standing }) (members ranges ([] ∷ []))

-- declarations in their order: the names that are known after them, and their words
pub data AreDeclared (o : Outline) (words : List Word) : List Known → List Declaration → List Known → List Word → Type 0 where
  no_declarations : (known : List Known) → AreDeclared o words known [] known []
  declaration_and_more : (known all : List Known) (d : Declaration) (ds : List Declaration) (ranges : List (ℤ × ℤ)) (width : ℕ) (rest : List Word)
      → AreIndexRanges o words known (listed o d.ranges) ranges
      → StandsFor o words (of_outline known) d.width (whole (pos width))
      → IsNew (of_outline known) (text_of o d.name)
      → AreDeclared o words (known ++ record { name = text_of o d.name; since = d.name.end; sense = family ranges } ∷ []) ds all rest
      → AreDeclared o words known (d ∷ ds) all (declared_words o d ranges width ++ rest)

-- ---- formulas

-- the formulas at the head, by their clauses; an invariant serves the proof alone
pub record Clauses : Type 0 where
  pub pre : List Proposition
  pub rely : List Proposition
  pub guar : List Proposition
  pub post : List Proposition

abbrev pub with_clause : clause.Clause → Proposition → Clauses → Clauses
with_clause Invariant p c = c
with_clause Pre p c = record { pre = p ∷ c.pre; rely = c.rely; guar = c.guar; post = c.post }
with_clause Rely p c = record { pre = c.pre; rely = p ∷ c.rely; guar = c.guar; post = c.post }
with_clause Guar p c = record { pre = c.pre; rely = c.rely; guar = p ∷ c.guar; post = c.post }
with_clause Post p c = record { pre = c.pre; rely = c.rely; guar = c.guar; post = p ∷ c.post }

-- the clauses of heads, each with the names before it
pub data ClausesStandFor (o : Outline) (words : List Word) : List Known → List Head → List Known → Clauses → Type 0 where
  no_clauses : (known : List Known) → ClausesStandFor o words known [] known (record { pre = []; rely = []; guar = []; post = [] })
  name_and_clauses : (known all : List Known) (h : Head) (hs : List Head) (k : Known) (c : Clauses)
      → known_of o h.kind ≡ Some k
      → IsNewHead known k
      → ClausesStandFor o words (known ++ k ∷ []) hs all c
      → ClausesStandFor o words known (h ∷ hs) all c
  clause_and_more : (known all : List Known) (h : Head) (hs : List Head) (which : clause.Clause) (f : ℕ) (p : Proposition) (c : Clauses)
      → h.kind ≡ Clause which f
      → StandsFor o words (of_outline known) f (claim p)
      → ClausesStandFor o words known hs all c
      → ClausesStandFor o words known (h ∷ hs) all (with_clause which p c)

-- the rely: where it isn't given, all words stay the same
abbrev pub IsRely : List Word → List Proposition → Proposition → Type 0
IsRely words [] p = IsUnchanged words [] p
IsRely words (q ∷ qs) p = IsConjunction (q ∷ qs) p

-- the four formulas of a program are what the clauses give; a pre and a post are given once at most
pub record AreSpecified (words : List Word) (c : Clauses) (s : Specification) : Type 0 where
  pub one_pre : length c.pre ≤ 1
  pub one_post : length c.post ≤ 1
  pub pre : IsConjunction c.pre (bare_claim s.pre)
  pub rely : IsRely words c.rely (bare_claim s.rely)
  pub guar : IsConjunction c.guar (bare_claim s.guar)
  pub post : IsConjunction c.post (bare_claim s.post)

-- ---- parts

-- the first of these words
abbrev pub first_of : List ℕ → Option ℕ
first_of [] = None
first_of (k ∷ ks) = Some k

-- the first word from a place on that isn't fixed
abbrev pub first_changing : ℕ → List Bool → Option ℕ
first_changing k [] = None
first_changing k (true ∷ rest) = first_changing (suc k) rest
first_changing k (false ∷ rest) = Some k

-- the names that are known after the heads of a part, and the first word that it owns
pub data PartKnows (o : Outline) (words : List Word) : List Known → List Head → List Known → Option ℕ → Type 0 where
  no_part_heads : (known : List Known) → PartKnows o words known [] known None
  part_name : (known all : List Known) (h : Head) (hs : List Head) (k : Known) (owned : Option ℕ)
      → known_of o h.kind ≡ Some k
      → IsNewHead known k
      → PartKnows o words (known ++ k ∷ []) hs all owned
      → PartKnows o words known (h ∷ hs) all owned
  part_owns : (known all : List Known) (h : Head) (hs : List Head) (l : written.List) (ks : List ℕ) (later : Option ℕ)
      → h.kind ≡ Owns l
      → WordsStandFor o words (of_outline known) (listed o l) ks
      → PartKnows o words known hs all later
      → PartKnows o words known (h ∷ hs) all (option_or (first_of ks) later)
  part_other : (known all : List Known) (h : Head) (hs : List Head) (owned : Option ℕ)
      → known_of o h.kind ≡ None
      → ((l : written.List) → h.kind ≢ Owns l)
      → PartKnows o words known hs all owned
      → PartKnows o words known (h ∷ hs) all owned

-- a part of this name: a wait without assignments keeps the first word that it owns, else the first that isn't fixed
pub record PartStandsFor (o : Outline) (words : List Word) (known : List Known) (p : PartWritten) (name : List ℕ) (t : PartTree) : Type 0 where
  pub all : List Known
  pub owned : Option ℕ
  pub named : t.name ≡ name
  pub heads : PartKnows o words known (piece_of o.written.heads.items p.heads) all owned
  pub body : BlockStandsFor o words (option_or owned (first_changing 0 (fixed_of words))) (of_outline all) p.body (bare_statement t.body)

-- the members of a family of parts: of each its index is its number
abbrev pub MembersStandFor : Outline → List Word → List Known → PartWritten → Span → List ℤ → List PartTree → Type 0
MembersStandFor o words known p index [] [] = Unit {0}
MembersStandFor o words known p index (z ∷ zs) (t ∷ ts) =
    PartStandsFor o words (known ++ record { name = text_of o index; since = index.end; sense = part_number z } ∷ []) p (member_name (text_of o p.name) (z ∷ [])) t
    × MembersStandFor o words known p index zs ts
MembersStandFor o words known p index [] (t ∷ ts) = ⊥
MembersStandFor o words known p index (z ∷ zs) [] = ⊥

pub data PartsStandFor (o : Outline) (words : List Word) (known : List Known) : List PartWritten → List PartTree → Type 0 where
  no_parts : PartsStandFor o words known [] []
  part_and_more : (p : PartWritten) (ps : List PartWritten) (t : PartTree) (ts : List PartTree)
      → p.index ≡ None
      → PartStandsFor o words known p (text_of o p.name) t
      → PartsStandFor o words known ps ts
      → PartsStandFor o words known (p ∷ ps) (t ∷ ts)
  members_and_more : (p : PartWritten) (ps : List PartWritten) (index : Span) (range : ℕ) (zs : List ℤ) (ts us : List PartTree)
      → p.index ≡ Some (index, range)
      → IsNew (of_outline known) (text_of o index)
      → RangeIs o words (of_outline known) range zs
      → zs ≢ []
      → MembersStandFor o words known p index zs ts
      → PartsStandFor o words known ps us
      → PartsStandFor o words known (p ∷ ps) (ts ++ us)

-- ---- the program

-- an outline stands for a program: for its words, the formulas at its head, and the names and the bodies of its parts. What its parts rely on and promise
-- serves the proof alone. It says nothing of how the bytes were read as trees. Names are made known in three rounds: those of the heads that stand before
-- words, in all files, then the words, then those of the other heads; but each is known only after its place in the bytes (`Knows`)
pub record OutlineStandsFor (o : Outline) (p : ProgramTree) : Type 0 where
  pub before_words : List Known
  pub with_words : List Known
  pub with_lets : List Known
  pub clauses : Clauses
  pub names : KnownAfter o [] (piece_of o.written.heads.items o.written.before_words) before_words
  pub words : AreDeclared o p.words before_words o.written.declarations.items with_words p.words
  pub formulas : ClausesStandFor o p.words with_words (piece_of o.written.heads.items o.written.following_words) with_lets clauses
  pub specified : AreSpecified p.words clauses p.spec
  pub parts : PartsStandFor o p.words with_lets o.written.parts.items p.parts
