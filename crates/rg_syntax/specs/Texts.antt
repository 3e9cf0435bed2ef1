-- What the ways to write a text say.
use Rattle.std.specs.Prelude.{List, [], ◌∷◌, ◌++◌, Option, Some, None}
use Rattle.rg_text.specs.Text.{Leaf}
use Rattle.rg_text.specs.declared.kind.Junction.{Junction}
use Rattle.rg_syntax.specs.Grammar as grammar
use Rattle.rg_syntax.specs.Grammar.{FormulaSpelling, ChainSpelling, ExpressionSpelling, WordsSpelling, ShowSpelling, SettingsSpelling, MovesSpelling, AssignmentSpelling, AssignmentsSpelling, StatementSpelling, BlockSpelling, SpecSpelling, PartSpelling, PartsSpelling, ProgramSpelling, PremisesSpelling, LineSpelling, DerivationSpelling}
use Rattle.rg_syntax.specs.Written.{Term, Claim, number, word, next_word, inverse, binary, shifted, choice, truth, negation, joined, implied, compared, DeclaredWord, ShownClaim, SettingTree, WrittenMove, AssignedTree, StatementTree, skip, assign, await, branch, loop, listed, SpecTree, WrittenPart, WrittenProgram, WrittenLine}

-- what a way to write a formula says
abbrev mutual
  pub claim_of : FormulaSpelling → Claim
  claim_of (grammar.truth b) = truth b
  claim_of (grammar.negation f) = negation (claim_of f)
  claim_of (grammar.junction j c) = chain_of c j
  claim_of (grammar.conditional d f g) = implied d (claim_of f) (claim_of g)
  claim_of (grammar.comparison c a b) = compared c (term_of a) (term_of b)

  pub chain_of : ChainSpelling → Junction → Claim
  chain_of (grammar.pair f g) j = joined j (claim_of f) (claim_of g)
  chain_of (grammar.longer c f) j = joined j (chain_of c j) (claim_of f)

  pub term_of : ExpressionSpelling → Term
  term_of (grammar.numeral leaf) = number leaf
  term_of (grammar.word leaf) = word leaf
  term_of (grammar.next_word leaf) = next_word leaf
  term_of (grammar.inverse a) = inverse (term_of a)
  term_of (grammar.operation o a b) = binary o (term_of a) (term_of b)
  term_of (grammar.shift s a leaf) = shifted s (term_of a) leaf
  term_of (grammar.choice i f a b) = choice (claim_of f) (term_of a) (term_of b)

-- the words that are declared, in their order
abbrev pub declared_words : WordsSpelling → List DeclaredWord
declared_words (grammar.one w) = w ∷ []
declared_words (grammar.more ws w) = declared_words ws ++ w ∷ []

-- what a way to write a text to show says
abbrev pub shown_claim : ShowSpelling → ShownClaim
shown_claim s = record { words = declared_words s.words; formula = claim_of s.formula }

-- the words that are set, in their order
abbrev pub settings_of : SettingsSpelling → List SettingTree
settings_of grammar.no_setting = []
settings_of (grammar.and_setting ss s) = settings_of ss ++ s ∷ []

-- the moves, in their order
abbrev pub moves_of : MovesSpelling → List WrittenMove
moves_of grammar.no_move = []
moves_of (grammar.and_move ms n ss) = moves_of ms ++ record { number = n; settings = settings_of ss } ∷ []

-- what a way to write a specification says
abbrev pub spec_of : SpecSpelling → SpecTree
spec_of s = record { pre = claim_of s.pre; rely = claim_of s.rely; guar = claim_of s.guar; post = claim_of s.post }

-- the premises of a line, in their order
abbrev pub some_premises_of : PremisesSpelling → List Leaf
some_premises_of (grammar.one_premise n) = n ∷ []
some_premises_of (grammar.and_premise ps n) = some_premises_of ps ++ n ∷ []

-- the premises of a line, if it has any, in their order
abbrev pub premises_of : Option PremisesSpelling → List Leaf
premises_of None = []
premises_of (Some ps) = some_premises_of ps

-- what a way to write a line of a derivation says, and the lines, in their order
abbrev pub line_of : LineSpelling → WrittenLine
line_of l = record {
  begin = l.begin;
  number = l.number;
  rule = l.rule;
  statement = l.statement;
  premises = premises_of l.premises;
  spec = spec_of l.spec;
}

-- the lines of a derivation, in their order
abbrev pub derivation_of : DerivationSpelling → List WrittenLine
derivation_of grammar.no_line = []
derivation_of (grammar.and_line d l) = derivation_of d ++ line_of l ∷ []

-- what a way to write an assignment says, and assignments, in their order
abbrev pub assigned_of : AssignmentSpelling → AssignedTree
assigned_of a = record { target = a.target; value = term_of a.value }

-- the assignments of an await, in their order
abbrev pub assignments_of : AssignmentsSpelling → List AssignedTree
assignments_of (grammar.one_assignment a) = assigned_of a ∷ []
assignments_of (grammar.and_assignment as_ a) = assignments_of as_ ++ assigned_of a ∷ []

-- what a way to write a statement says, and the statements of a block, in their order
abbrev mutual
  pub statement_of : StatementSpelling → StatementTree
  statement_of (grammar.skipping i) = skip i
  statement_of (grammar.assigning a) = assign (assigned_of a)
  statement_of (grammar.awaiting i f as_) = await i (claim_of f) (assignments_of as_)
  statement_of (grammar.branching i f b c) = branch i (claim_of f) (listed (block_of b)) (listed (block_of c))
  statement_of (grammar.looping i f b) = loop i (claim_of f) (listed (block_of b))

  pub block_of : BlockSpelling → List StatementTree
  block_of (grammar.one_statement s) = statement_of s ∷ []
  block_of (grammar.and_statement b s) = block_of b ++ statement_of s ∷ []

-- what a way to write a part says, and parts, in their order
abbrev pub part_of : PartSpelling → WrittenPart
part_of p = record { name = p.name; spec = spec_of p.spec; body = listed (block_of p.body) }

-- the parts, in their order
abbrev pub parts_of : PartsSpelling → List WrittenPart
parts_of (grammar.one_part p) = part_of p ∷ []
parts_of (grammar.and_part ps p) = parts_of ps ++ part_of p ∷ []

-- what a way to write a program says
abbrev pub program_of : ProgramSpelling → WrittenProgram
program_of p = record { words = declared_words p.words; spec = spec_of p.spec; parts = parts_of p.parts }
