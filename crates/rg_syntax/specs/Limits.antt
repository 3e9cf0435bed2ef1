-- The limits of a text: of its depth, and of the lists in it.
use Rattle.std.specs.Prelude.{◌≡◌, ℕ, suc, ◌+◌, ◌≤◌, Bool, true, false, not, ◌||◌, ◌&&◌, nat_lt, List, [], ◌++◌, IsTrue}
use Rattle.rg_words.specs.declared.limits.TheConstants.{MOST_OPENERS, MOST_OPERANDS, MOST_WORDS, MOST_PARTS, MOST_ASSIGNMENTS, MOST_DERIVATION_LINES}
use Rattle.rg_syntax.specs.Grammar.{Lexeme, FormulaSpelling, ChainSpelling, ExpressionSpelling, WordsSpelling, truth, negation, junction, conditional, comparison, pair, longer, numeral, word, next_word, inverse, operation, shift, choice, one, more, AssignmentsSpelling, one_assignment, and_assignment, StatementSpelling, BlockSpelling, skipping, assigning, awaiting, branching, looping, one_statement, and_statement, SpecSpelling, PartSpelling, PartsSpelling, one_part, and_part, DerivationSpelling, no_line, and_line, Spelling, spelled}
use Rattle.rg_syntax.specs.declared.text_kind.TextKind.{TextKind}
use Rattle.rg_syntax.specs.declared.text_kind.TextKind.TheVariants as texts

-- how many operands a chain has
abbrev pub operand_count : ChainSpelling → ℕ
operand_count (pair f g) = 2
operand_count (longer c f) = operand_count c + 1

-- where so many openers are open around it, each of its own is inside fewer than the most, and no chain has more than the most operands
abbrev mutual
  pub formula_fits : ℕ → FormulaSpelling → Bool
  formula_fits n (truth b) = true
  formula_fits n (negation f) = nat_lt n MOST_OPENERS && formula_fits (suc n) f
  formula_fits n (junction j c) = nat_lt n MOST_OPENERS && chain_fits (suc n) c
  formula_fits n (conditional d f g) = nat_lt n MOST_OPENERS && (formula_fits (suc n) f && formula_fits (suc n) g)
  formula_fits n (comparison c a b) = nat_lt n MOST_OPENERS && (expression_fits (suc n) a && expression_fits (suc n) b)

  pub chain_fits : ℕ → ChainSpelling → Bool
  chain_fits n (pair f g) = formula_fits n f && formula_fits n g
  chain_fits n (longer c f) = chain_fits n c && (nat_lt (operand_count c) MOST_OPERANDS && formula_fits n f)

  pub expression_fits : ℕ → ExpressionSpelling → Bool
  expression_fits n (numeral leaf) = true
  expression_fits n (word leaf) = true
  expression_fits n (next_word leaf) = true
  expression_fits n (inverse a) = nat_lt n MOST_OPENERS && expression_fits (suc n) a
  expression_fits n (operation o a b) = nat_lt n MOST_OPENERS && (expression_fits (suc n) a && expression_fits (suc n) b)
  expression_fits n (shift s a leaf) = nat_lt n MOST_OPENERS && expression_fits (suc n) a
  expression_fits n (choice i f a b) =
      nat_lt n MOST_OPENERS && (nat_lt (suc n) MOST_OPENERS && (formula_fits (suc (suc n)) f && (expression_fits (suc (suc n)) a && expression_fits (suc (suc n)) b)))

-- how many words are declared
abbrev pub word_count : WordsSpelling → ℕ
word_count (one w) = 1
word_count (more ws w) = word_count ws + 1

-- how many assignments an await has, and how many parts a program
abbrev pub assignment_count : AssignmentsSpelling → ℕ
assignment_count (one_assignment a) = 1
assignment_count (and_assignment as_ a) = assignment_count as_ + 1

-- how many parts a program has
abbrev pub part_count : PartsSpelling → ℕ
part_count (one_part p) = 1
part_count (and_part ps p) = part_count ps + 1

-- where so many openers are open around it, its openers and chains are within the limits, and where lists are asked about, each
-- assignment of an await is one of the first 16
abbrev pub assignments_fit : Bool → ℕ → AssignmentsSpelling → Bool
assignments_fit lists n (one_assignment a) = expression_fits n a.value
assignments_fit lists n (and_assignment as_ a) =
    assignments_fit lists n as_ && ((nat_lt (assignment_count as_) MOST_ASSIGNMENTS || not lists) && expression_fits n a.value)

-- the same of a statement, and of a block
abbrev mutual
  pub statement_fits : Bool → ℕ → StatementSpelling → Bool
  statement_fits lists n (skipping i) = true
  statement_fits lists n (assigning a) = expression_fits n a.value
  statement_fits lists n (awaiting i f as_) = formula_fits n f && assignments_fit lists n as_
  statement_fits lists n (branching i f b c) =
      nat_lt n MOST_OPENERS && (formula_fits (suc n) f && (block_fits lists (suc n) b && block_fits lists (suc n) c))
  statement_fits lists n (looping i f b) = nat_lt n MOST_OPENERS && (formula_fits (suc n) f && block_fits lists (suc n) b)

  pub block_fits : Bool → ℕ → BlockSpelling → Bool
  block_fits lists n (one_statement s) = statement_fits lists n s
  block_fits lists n (and_statement b s) = block_fits lists n b && statement_fits lists n s

-- the openers and chains of the four formulas are within the limits
abbrev pub specification_fits : SpecSpelling → Bool
specification_fits s = formula_fits 0 s.pre && (formula_fits 0 s.rely && (formula_fits 0 s.guar && formula_fits 0 s.post))

-- the same of a part
abbrev pub part_fits : Bool → PartSpelling → Bool
part_fits lists p = specification_fits p.spec && block_fits lists 0 p.body

-- the same, and each part is one of the first 32
abbrev pub parts_fit : Bool → PartsSpelling → Bool
parts_fit lists (one_part p) = part_fits lists p
parts_fit lists (and_part ps p) = parts_fit lists ps && ((nat_lt (part_count ps) MOST_PARTS || not lists) && part_fits lists p)

-- the openers and chains of each line are within the limits
abbrev pub lines_fit : DerivationSpelling → Bool
lines_fit no_line = true
lines_fit (and_line d l) = lines_fit d && specification_fits l.spec

-- how many lines a derivation has
abbrev pub line_count : DerivationSpelling → ℕ
line_count no_line = 0
line_count (and_line d l) = line_count d + 1

-- its openers and chains are within the limits
abbrev pub IsShallow : (k : TextKind) → Spelling k → Type 0
IsShallow texts.Formula f = IsTrue (formula_fits 0 f)
IsShallow texts.Show s = IsTrue (formula_fits 0 s.formula)
IsShallow texts.Start ss = Unit {0}
IsShallow texts.Moves ms = Unit {0}
IsShallow texts.Program p = IsTrue (specification_fits p.spec && parts_fit false p.parts)
IsShallow texts.Derivation d = IsTrue (lines_fit d)

-- its lists are no longer than the limits
abbrev pub IsShort : (k : TextKind) → Spelling k → Type 0
IsShort texts.Formula f = Unit {0}
IsShort texts.Show s = word_count s.words ≤ MOST_WORDS
IsShort texts.Start ss = Unit {0}
IsShort texts.Moves ms = Unit {0}
IsShort texts.Program p = (word_count p.words ≤ MOST_WORDS) × IsTrue (parts_fit true p.parts)
IsShort texts.Derivation d = line_count d ≤ MOST_DERIVATION_LINES

-- the tokens spell a text of this kind within the limits
abbrev pub IsTextWithin : TextKind → List Lexeme → Type 0
IsTextWithin k tokens = (s : Spelling k) × IsShallow k s × IsShort k s × (tokens ≡ spelled k s [])

-- a text of this kind within the limits may begin with these tokens
abbrev pub BeginsWithin : TextKind → List Lexeme → Type 0
BeginsWithin k tokens = (s : Spelling k) × (rest : List Lexeme) × IsShallow k s × IsShort k s × (spelled k s [] ≡ tokens ++ rest)

-- the same, whatever the length of its lists
abbrev pub BeginsShallow : TextKind → List Lexeme → Type 0
BeginsShallow k tokens = (s : Spelling k) × (rest : List Lexeme) × IsShallow k s × (spelled k s [] ≡ tokens ++ rest)
