-- What the reading of heads, declarations and parts is proved by: one step of each. Only proofs need it.
use Rattle.std.specs.Prelude.{◌≡◌, ℕ, ℤ, pos, Bool, true, false, List, [], ◌∷◌, ◌++◌, length, map, take, Option, Some, None}
use Rattle.rg_words.specs.Layout.{Word}
use Rattle.rg_tree.specs.Trees.{Proposition}
use Rattle.rg_tree.specs.Statements.{PartTree}
use Rattle.rg_tree.specs.declared.part.Part.{Part}
use Rattle.rg_tree.specs.ProgramView.{part}
use Rattle.rg_outline_syntax.specs.declared.span.Span.{Span}
use Rattle.rg_outline_syntax.specs.declared.written.List as written
use Rattle.rg_outline_syntax.specs.declared.written.HeadKind.{HeadKind}
use Rattle.rg_outline_syntax.specs.declared.written.HeadKind.TheVariants.{Let, Procedure, Owns, Interrupts, Clause}
use Rattle.rg_outline_syntax.specs.declared.written.Clause as clause
use Rattle.rg_outline_syntax.specs.declared.written.Clause.TheVariants.{Invariant, Pre, Rely, Guar, Post}
use Rattle.rg_outline_syntax.specs.declared.written.Declaration.{Declaration}
use Rattle.rg_outline_syntax.specs.declared.written.PartWritten.{PartWritten}
use Rattle.rg_outline_meaning.specs.Meanings.{whole, claim}
use Rattle.rg_outline_meaning.specs.Members.{member_name}
use Rattle.rg_outline_meaning.specs.Names.{Outline, text_of, listed, family, Known, IsNew}
use Rattle.rg_outline_meaning.specs.Expressions.{StandsFor, WordsStandFor}
use Rattle.rg_outline_meaning.specs.Programs.{of_outline, known_of, IsNewHead, AreIndexRanges, declared_words, Clauses, first_of, PartStandsFor, MembersStandFor, PartsStandFor}
use Rattle.rg_outline_meaning.specs.View.{outline, words}
use Rattle.rg_outline_meaning.specs.declared.names.Reader.{Reader}

-- a reader of the same outline and the same words
abbrev pub ReadsSame : Reader → Reader → Type 0
ReadsSame r s = (outline s ≡ outline r) × (words s ≡ words r)

-- what is known after a head, which makes a name known or doesn't
abbrev pub LearnsHead : Outline → List Known → HeadKind → List Known → Bool → Type 0
LearnsHead o known kind all true = (k : Known) × (known_of o kind ≡ Some k) × IsNewHead known k × (all ≡ known ++ k ∷ [])
LearnsHead o known kind all false = (known_of o kind ≡ None) × (all ≡ known)

-- with one more formula, after those of its clause
abbrev pub with_one : clause.Clause → Proposition → Clauses → Clauses
with_one Invariant p c = c
with_one Pre p c = record { pre = c.pre ++ p ∷ []; rely = c.rely; guar = c.guar; post = c.post }
with_one Rely p c = record { pre = c.pre; rely = c.rely ++ p ∷ []; guar = c.guar; post = c.post }
with_one Guar p c = record { pre = c.pre; rely = c.rely; guar = c.guar ++ p ∷ []; post = c.post }
with_one Post p c = record { pre = c.pre; rely = c.rely; guar = c.guar; post = c.post ++ p ∷ [] }

-- the formulas of both, one clause after the other
abbrev pub both : Clauses → Clauses → Clauses
both c d = record { pre = c.pre ++ d.pre; rely = c.rely ++ d.rely; guar = c.guar ++ d.guar; post = c.post ++ d.post }

-- a head is a clause, whose formula comes to the others
abbrev pub IsClauseOf : Outline → List Word → List Known → HeadKind → Clauses → Clauses → Type 0
IsClauseOf o words known kind c d =
    (which : clause.Clause) × (f : ℕ) × (p : Proposition)
    × (kind ≡ Clause which f)
    × StandsFor o words (of_outline known) f (claim p)
    × (d ≡ with_one which p c)

-- the first word that a head of a part owns
abbrev pub OwnsFirst : Outline → List Word → List Known → HeadKind → Option ℕ → Type 0
OwnsFirst o words known (Owns l) k = (ks : List ℕ) × WordsStandFor o words (of_outline known) (listed o l) ks × (k ≡ first_of ks)
OwnsFirst o words known (Let l) k = k ≡ None
OwnsFirst o words known (Procedure l) k = k ≡ None
OwnsFirst o words known (Interrupts n l) k = k ≡ None
OwnsFirst o words known (Clause c f) k = k ≡ None

-- the parts from one place to another are what a part or a family of parts stands for
abbrev pub ArePartsOf : Outline → List Word → List Known → PartWritten → List Part → ℕ → ℕ → Type 0
ArePartsOf o words known p parts first next =
    (ts : List PartTree)
    × (take next (map part parts) ≡ take first (map part parts) ++ ts)
    × ((ps : List PartWritten) (us : List PartTree) → PartsStandFor o words known ps us → PartsStandFor o words known (p ∷ ps) (ts ++ us))

-- a declaration, whose words are those from one place to another
pub record Declares (o : Outline) (words : List Word) (known all : List Known) (d : Declaration) (first next : ℕ) : Type 0 where
  pub ranges : List (ℤ × ℤ)
  pub width : ℕ
  pub indices : AreIndexRanges o words known (listed o d.ranges) ranges
  pub stands : StandsFor o words (of_outline known) d.width (whole (pos width))
  pub new : IsNew (of_outline known) (text_of o d.name)
  pub learned : all ≡ known ++ record { name = text_of o d.name; since = d.name.end; sense = family ranges } ∷ []
  pub words_are : take next words ≡ take first words ++ declared_words o d ranges width

-- a part, of which all these names are known inside
pub record PartKnown (o : Outline) (words : List Word) (known all : List Known) (p : PartWritten) (name : List ℕ) (t : PartTree) : Type 0 where
  pub longer : (n : ℕ) → n ≡ length known → take n all ≡ known
  pub stands : PartStandsFor o words known p name t

-- the part at a place is what a part stands for
abbrev pub IsPartOf : Outline → List Word → List Known → PartWritten → List ℤ → List Part → ℕ → ℕ → Type 0
IsPartOf o words known p zs parts place next =
    (t : PartTree)
    × (take next (map part parts) ≡ take place (map part parts) ++ t ∷ [])
    × PartStandsFor o words known p (member_name (text_of o p.name) zs) t

-- the parts from one place to another are the members of a family with these numbers
abbrev pub AreMembersOf : Outline → List Word → List Known → PartWritten → Span → List ℤ → List Part → ℕ → ℕ → Type 0
AreMembersOf o words known p index zs parts first next =
    (ts : List PartTree)
    × (take next (map part parts) ≡ take first (map part parts) ++ ts)
    × MembersStandFor o words known p index zs ts
