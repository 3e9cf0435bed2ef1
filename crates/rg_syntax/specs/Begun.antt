-- The statements that the first tokens of a program begin, in the order of their numbers, each as the line of its first token.
use Rattle.std.specs.Prelude.{◌≡◌, ℕ, zero, suc, ◌-◌, Bool, false, ◌||◌, cond, nat_lt, List, [], ◌∷◌, ◌++◌, length}
use Rattle.rg_text.specs.Text.{Leaf}
use Rattle.rg_text.specs.declared.kind.Terminal.TheVariants.{Semicolon, Section, Then, Else}
use Rattle.rg_text.specs.declared.kind.Keyword.TheVariants.{Part, Begin, Do}
use Rattle.rg_syntax.specs.Grammar.{Lexeme, fixed, opening, name, an_if, a_while, FormulaSpelling, formula, StatementSpelling, BlockSpelling, skipping, assigning, awaiting, branching, looping, one_statement, and_statement, block, specification, words, PartSpelling, PartsSpelling, one_part, and_part, parts, ProgramSpelling, program}
use Rattle.rg_syntax.specs.Texts.{program_of}
use Rattle.rg_syntax.specs.ProgramLimits.{count_in_parts}

-- the line of the first token of a statement, and of a block
abbrev pub first_line : StatementSpelling → ℕ
first_line (skipping i) = i.line
first_line (assigning a) = a.target.line
first_line (awaiting i f as_) = i.line
first_line (branching i f b c) = i.line
first_line (looping i f b) = i.line

-- the line on which a block begins
abbrev pub block_line : BlockSpelling → ℕ
block_line (one_statement s) = first_line s
block_line (and_statement b s) = block_line b

-- with n of its tokens met a statement is begun, unless n is 0
abbrev pub where_met : ℕ → ℕ → List ℕ
where_met zero line = []
where_met (suc n) line = line ∷ []

-- whether a `;` between the statements of a block is one of its first n tokens
abbrev pub is_joined : BlockSpelling → ℕ → Bool
is_joined (one_statement s) n = false
is_joined (and_statement b s) n = nat_lt (length (block b [])) n || is_joined b n

-- where it is, the block is a statement of its own, on the line of its first
abbrev pub own_begun : BlockSpelling → ℕ → List ℕ
own_begun b n = cond (is_joined b n) (block_line b ∷ []) []

-- the tokens of a branch before its first block and before its second, of a loop before its body, and of a part before its body
abbrev pub before_first : Leaf → FormulaSpelling → List Lexeme
before_first i f = opening an_if i ∷ formula f (fixed Then ∷ [])

-- the tokens of an `if` up to its second block
abbrev pub before_second : Leaf → FormulaSpelling → BlockSpelling → List Lexeme
before_second i f b = opening an_if i ∷ formula f (fixed Then ∷ block b (fixed Else ∷ []))

-- the tokens of a `while` up to its block
abbrev pub before_loop : Leaf → FormulaSpelling → List Lexeme
before_loop i f = opening a_while i ∷ formula f (fixed (Section Do) ∷ [])

-- the tokens of a part up to its body
abbrev pub before_body : PartSpelling → List Lexeme
before_body p = fixed (Section Part) ∷ name p.name ∷ specification p.spec (fixed (Section Begin) ∷ [])

-- what the first n tokens of a statement begin: itself, and then what those of them begin that stand in its blocks
abbrev mutual
  pub statement_begun : StatementSpelling → ℕ → List ℕ
  statement_begun (branching i f b c) n =
      let first = n - length (before_first i f) in
      let second = n - length (before_second i f b) in
      where_met n i.line ++ ((own_begun b first ++ items_begun b first) ++ (own_begun c second ++ items_begun c second))
  statement_begun (looping i f b) n =
      let body = n - length (before_loop i f) in
      where_met n i.line ++ (own_begun b body ++ items_begun b body)
  statement_begun s n = where_met n (first_line s)

  -- what the first n tokens of a block begin, without the block itself: its statements stand one after another, with a `;` between two
  pub items_begun : BlockSpelling → ℕ → List ℕ
  items_begun (one_statement s) n = statement_begun s n
  items_begun (and_statement b s) n = items_begun b n ++ statement_begun s (n - length (block b (fixed Semicolon ∷ [])))

-- the same, and before it the block itself, where it is a statement of its own
abbrev pub block_begun : BlockSpelling → ℕ → List ℕ
block_begun b n = own_begun b n ++ items_begun b n

-- what the first n tokens of a part begin, all of it in its body, and of parts, one after another
abbrev pub part_begun : PartSpelling → ℕ → List ℕ
part_begun p n = block_begun p.body (n - length (before_body p))

-- the lines of the statements that the first n tokens of parts begin
abbrev pub parts_begun : PartsSpelling → ℕ → List ℕ
parts_begun (one_part p) n = part_begun p n
parts_begun (and_part ps p) n = parts_begun ps n ++ part_begun p (n - length (parts ps []))

-- what the first n tokens of a program begin, all of it in its parts, after its words and its specification
abbrev pub program_begun : ProgramSpelling → ℕ → List ℕ
program_begun p n = parts_begun p.parts (n - length (words p.words (specification p.spec [])))

-- the statements that these tokens begin, in a program that goes on from them
pub record AreBegun (tokens : List Lexeme) (lines : List ℕ) : Type 0 where
  pub spelling : ProgramSpelling
  pub rest : List Lexeme
  pub goes_on : program spelling [] ≡ tokens ++ rest
  pub are : lines ≡ program_begun spelling (length tokens)

-- the same tokens begin the same statements, whatever program goes on from them
abbrev pub OneBeginning : Type 0
OneBeginning = (tokens : List Lexeme) (a b : List ℕ) → AreBegun tokens a → AreBegun tokens b → a ≡ b

-- a whole program begins as many statements as it has
abbrev pub AllBegun : Type 0
AllBegun = (p : ProgramSpelling) → length (program_begun p (length (program p []))) ≡ count_in_parts (program_of p).parts
