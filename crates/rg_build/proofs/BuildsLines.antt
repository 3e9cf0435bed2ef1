-- What the tokens of a derivation build.
use Rattle.std.proofs.Common.{◌≡◌, ℕ, ◌+◌, ◌<◌, Bool, true, false, ◌&&◌, List, [], ◌∷◌, ◌++◌, map, length, take, get_or, Option, Some, None, refl, sym, ap, ◌∙◌}
use Rattle.std.proofs.lemmas.List.{take_more, map-append}
use Rattle.rg_text.specs.Text.{Leaf}
use Rattle.rg_text.specs.declared.token.Token.{Token}
use Rattle.rg_text.specs.declared.kind.Kind.TheVariants.{Fixed}
use Rattle.rg_text.specs.declared.kind.Terminal.TheVariants.{Open, Close, Compare, Operate, ShiftBy, Join, Imply, Not, Inv, Section, Then, Else}
use Rattle.rg_text.specs.declared.kind.Keyword.TheVariants.{Rely, Guar, Post}
use Rattle.rg_text.specs.declared.kind.Junction.{Junction}
use Rattle.rg_tree.specs.declared.line.Rule.{Rule}
use Rattle.rg_tree.specs.declared.line.Rule.TheVariants as rules
use Rattle.rg_syntax.specs.Grammar.{Lexeme, fixed, opening, a_line, an_if, number, lexeme_as, lexeme_of, FormulaSpelling, ChainSpelling, ExpressionSpelling, truth, negation, junction, conditional, comparison, pair, longer, numeral, word, next_word, inverse, operation, shift, choice, formula, chain, expression, SpecSpelling, specification, PremisesSpelling, one_premise, and_premise, LineSpelling, DerivationSpelling, no_line, and_line, rule_terminal, some_premises, premises, a_derived_line, derivation}
use Rattle.rg_syntax.specs.Written.{WrittenLine}
use Rattle.rg_build.specs.Frames as frames
use Rattle.rg_build.specs.Frames.{whole, finished}
use Rattle.rg_syntax.specs.Texts.{claim_of, some_premises_of, premises_of, derivation_of}
use Rattle.rg_build.specs.Steps.{step}
use Rattle.rg_build.specs.Inner.Building.{steps}
use Rattle.rg_build.specs.Inner.BuildingLines.{Said, begins, counts, rules_by, to_pre, to_next, nothing, said, LineStart, Earlier, no_claim, a_pre, a_rely, a_guar, numbered, ruled, with_premises, in_head, in_claim, Drafted, nothing_read, on_claim, line_step, line_steps, whole_lines}
use Rattle.rg_syntax.specs.OneReading.{OneDerivation}
use Rattle.rg_build.proofs.Builds.{builds_formula}
use Rattle.rg_syntax.proofs.Clauses.{clauses_of, and_both}

-- whether a token may stand in a formula of a line
abbrev inside : Said → Bool
inside (begins b) = false
inside to_next = false
inside _ = true

abbrev all_inside : List Lexeme → Bool
all_inside [] = true
all_inside (l ∷ ls) = inside (said l) && all_inside ls

mutual
  formula_inside : (f : FormulaSpelling) (r : List Lexeme) → all_inside (formula f r) ≡ all_inside r
  formula_inside (truth b) r = refl
  formula_inside (negation f) r = formula_inside f r
  formula_inside (junction j c) r = chain_inside c j (fixed Close ∷ r)
  formula_inside (conditional d f g) r = formula_inside f (fixed (Imply d) ∷ formula g (fixed Close ∷ r)) ∙ formula_inside g (fixed Close ∷ r)
  formula_inside (comparison c a b) r = expression_inside a (fixed (Compare c) ∷ expression b (fixed Close ∷ r)) ∙ expression_inside b (fixed Close ∷ r)

  chain_inside : (c : ChainSpelling) (j : Junction) (r : List Lexeme) → all_inside (chain j c r) ≡ all_inside r
  chain_inside (pair f g) j r = formula_inside f (fixed (Join j) ∷ formula g r) ∙ formula_inside g r
  chain_inside (longer c f) j r = chain_inside c j (fixed (Join j) ∷ formula f r) ∙ formula_inside f r

  expression_inside : (a : ExpressionSpelling) (r : List Lexeme) → all_inside (expression a r) ≡ all_inside r
  expression_inside (numeral leaf) r = refl
  expression_inside (word leaf) r = refl
  expression_inside (next_word leaf) r = refl
  expression_inside (inverse a) r = expression_inside a r
  expression_inside (operation o a b) r = expression_inside a (fixed (Operate o) ∷ expression b (fixed Close ∷ r)) ∙ expression_inside b (fixed Close ∷ r)
  expression_inside (shift s a leaf) r = expression_inside a (fixed (ShiftBy s) ∷ number leaf ∷ fixed Close ∷ r)
  expression_inside (choice i f a b) r =
      formula_inside f (fixed Then ∷ expression a (fixed Else ∷ expression b (fixed Close ∷ r)))
      ∙ expression_inside a (fixed Else ∷ expression b (fixed Close ∷ r))
      ∙ expression_inside b (fixed Close ∷ r)

-- the tokens of a formula, and then the rest
mutual
  formula_append : (f : FormulaSpelling) (r s : List Lexeme) → formula f (r ++ s) ≡ formula f r ++ s
  formula_append (truth b) r s = refl
  formula_append (negation f) r s = ap (λ ls. fixed Not ∷ ls) (formula_append f r s)
  formula_append (junction j c) r s = ap (λ ls. fixed Open ∷ ls) (chain_append c j (fixed Close ∷ r) s)
  formula_append (conditional d f g) r s =
      ap (λ ls. fixed Open ∷ ls) (ap (λ ls. formula f (fixed (Imply d) ∷ ls)) (formula_append g (fixed Close ∷ r) s) ∙ formula_append f (fixed (Imply d) ∷ formula g (fixed Close ∷ r)) s)
  formula_append (comparison c a b) r s =
      ap (λ ls. fixed Open ∷ ls) (ap (λ ls. expression a (fixed (Compare c) ∷ ls)) (expression_append b (fixed Close ∷ r) s) ∙ expression_append a (fixed (Compare c) ∷ expression b (fixed Close ∷ r)) s)

  chain_append : (c : ChainSpelling) (j : Junction) (r s : List Lexeme) → chain j c (r ++ s) ≡ chain j c r ++ s
  chain_append (pair f g) j r s = ap (λ ls. formula f (fixed (Join j) ∷ ls)) (formula_append g r s) ∙ formula_append f (fixed (Join j) ∷ formula g r) s
  chain_append (longer c f) j r s = ap (λ ls. chain j c (fixed (Join j) ∷ ls)) (formula_append f r s) ∙ chain_append c j (fixed (Join j) ∷ formula f r) s

  expression_append : (a : ExpressionSpelling) (r s : List Lexeme) → expression a (r ++ s) ≡ expression a r ++ s
  expression_append (numeral leaf) r s = refl
  expression_append (word leaf) r s = refl
  expression_append (next_word leaf) r s = refl
  expression_append (inverse a) r s = ap (λ ls. fixed Inv ∷ ls) (expression_append a r s)
  expression_append (operation o a b) r s =
      ap (λ ls. fixed Open ∷ ls) (ap (λ ls. expression a (fixed (Operate o) ∷ ls)) (expression_append b (fixed Close ∷ r) s) ∙ expression_append a (fixed (Operate o) ∷ expression b (fixed Close ∷ r)) s)
  expression_append (shift x a leaf) r s = ap (λ ls. fixed Open ∷ ls) (expression_append a (fixed (ShiftBy x) ∷ number leaf ∷ fixed Close ∷ r) s)
  expression_append (choice i f a b) r s =
      ap (λ ls. fixed Open ∷ opening an_if i ∷ ls) (ap (λ ls. formula f (fixed Then ∷ expression a (fixed Else ∷ ls))) (expression_append b (fixed Close ∷ r) s)
      ∙ ap (λ ls. formula f (fixed Then ∷ ls)) (expression_append a (fixed Else ∷ expression b (fixed Close ∷ r)) s)
      ∙ formula_append f (fixed Then ∷ expression a (fixed Else ∷ expression b (fixed Close ∷ r))) s)

-- a line in one of its formulas
abbrev reading : List WrittenLine → LineStart → Earlier → List frames.Open → Drafted
reading ls h c os = record { lines = ls; place = in_claim h c os }

one_inside : (ls : List WrittenLine) (h : LineStart) (c : Earlier) (os : List frames.Open) (s : Said) (l : Lexeme) → inside s ≡ true → on_claim ls h c os s l ≡ reading ls h c (step os l)
one_inside ls h c os (begins b) l e = cc
one_inside ls h c os to_next l e = cc
one_inside ls h c os (counts n) l e = refl
one_inside ls h c os (rules_by x) l e = refl
one_inside ls h c os to_pre l e = refl
one_inside ls h c os nothing l e = refl

-- the tokens of a formula are read as those of a formula
reads_inside : (xs r : List Lexeme) → all_inside xs ≡ true → (ls : List WrittenLine) (h : LineStart) (c : Earlier) (os : List frames.Open) → line_steps (reading ls h c os) (xs ++ r) ≡ line_steps (reading ls h c (steps os xs)) r
reads_inside [] r u ls h c os = refl
reads_inside (x ∷ xs) r u ls h c os =
    let a = and_both (inside (said x)) (all_inside xs) u in
    ap (λ d. line_steps d (xs ++ r)) (one_inside ls h c os (said x) x a.0) ∙ reads_inside xs r a.1 ls h c (step os x)

reads_claim : (f : FormulaSpelling) (r : List Lexeme) (ls : List WrittenLine) (h : LineStart) (c : Earlier) → line_steps (reading ls h c (whole ∷ [])) (formula f r) ≡ line_steps (reading ls h c (finished (claim_of f) ∷ [])) r
reads_claim f r ls h c =
    ap (line_steps (reading ls h c (whole ∷ []))) (formula_append f [] r)
    ∙ reads_inside (formula f []) r (formula_inside f []) ls h c (whole ∷ [])
    ∙ ap (λ os. line_steps (reading ls h c os) r) (builds_formula f)

-- a line with its last formula read
abbrev all_read : List WrittenLine → LineStart → SpecSpelling → Drafted
all_read ls h s = reading ls h (a_guar (claim_of s.pre) (claim_of s.rely) (claim_of s.guar)) (finished (claim_of s.post) ∷ [])

reads_clauses : (s : SpecSpelling) (r : List Lexeme) (ls : List WrittenLine) (h : LineStart) → line_steps (reading ls h no_claim (whole ∷ [])) (clauses_of s r) ≡ line_steps (all_read ls h s) r
reads_clauses s r ls h =
    reads_claim s.pre (fixed (Section Rely) ∷ formula s.rely (fixed (Section Guar) ∷ formula s.guar (fixed (Section Post) ∷ formula s.post r))) ls h no_claim
    ∙ reads_claim s.rely (fixed (Section Guar) ∷ formula s.guar (fixed (Section Post) ∷ formula s.post r)) ls h (a_pre (claim_of s.pre))
    ∙ reads_claim s.guar (fixed (Section Post) ∷ formula s.post r) ls h (a_rely (claim_of s.pre) (claim_of s.rely))
    ∙ reads_claim s.post r ls h (a_guar (claim_of s.pre) (claim_of s.rely) (claim_of s.guar))

-- a line with these premises
abbrev started : LineSpelling → List Leaf → LineStart
started l ps = record { begin = l.begin; number = l.number; rule = l.rule; statement = l.statement; premises = ps }

abbrev before_claims : List WrittenLine → LineSpelling → List Leaf → Drafted
before_claims ls l ps = record { lines = ls; place = in_head (with_premises (started l ps)) }

reads_premises : (ps : PremisesSpelling) (ls : List WrittenLine) (l : LineSpelling) (r : List Lexeme) → line_steps (before_claims ls l []) (some_premises ps r) ≡ line_steps (before_claims ls l (some_premises_of ps)) r
reads_premises (one_premise n) ls l r = refl
reads_premises (and_premise ps n) ls l r = reads_premises ps ls l (number n ∷ r)

reads_to_pre : (p : Option PremisesSpelling) (s : SpecSpelling) (ls : List WrittenLine) (l : LineSpelling) (r : List Lexeme) → line_steps (before_claims ls l []) (premises p (specification s r)) ≡ line_steps (reading ls (started l (premises_of p)) no_claim (whole ∷ [])) (clauses_of s r)
reads_to_pre None s ls l r = refl
reads_to_pre (Some ps) s ls l r = reads_premises ps ls l (specification s r)

reads_rule : (x : Rule) (w : Leaf) (ls : List WrittenLine) (b n : Leaf) (r : List Lexeme) → line_steps (record { lines = ls; place = in_head (numbered b n) }) (lexeme_as (Fixed (rule_terminal x)) w ∷ r) ≡ line_steps (record { lines = ls; place = in_head (ruled b n x) }) r
reads_rule rules.Basic w ls b n r = refl
reads_rule rules.Atomic w ls b n r = refl
reads_rule rules.Seq w ls b n r = refl
reads_rule rules.If w ls b n r = refl
reads_rule rules.Loop w ls b n r = refl
reads_rule rules.Conseq w ls b n r = refl

-- what is open after lines
abbrev after_lines : DerivationSpelling → Drafted
after_lines no_line = nothing_read
after_lines (and_line d l) = all_read (derivation_of d) (started l (premises_of l.premises)) l.spec

reads_begin : (d : DerivationSpelling) (b n : Leaf) (r : List Lexeme) → line_steps (after_lines d) (opening a_line b ∷ number n ∷ r) ≡ line_steps (record { lines = derivation_of d; place = in_head (numbered b n) }) r
reads_begin no_line b n r = refl
reads_begin (and_line d l) b n r = refl

builds_lines : (d : DerivationSpelling) (r : List Lexeme) → line_steps nothing_read (derivation d r) ≡ line_steps (after_lines d) r
builds_lines no_line r = refl
builds_lines (and_line d l) r =
    builds_lines d (a_derived_line l r)
    ∙ reads_begin d l.begin l.number (lexeme_as (Fixed (rule_terminal l.rule)) l.rule_word ∷ number l.statement ∷ premises l.premises (specification l.spec r))
    ∙ reads_rule l.rule l.rule_word (derivation_of d) l.begin l.number (number l.statement ∷ premises l.premises (specification l.spec r))
    ∙ reads_to_pre l.premises l.spec (derivation_of d) l r
    ∙ reads_clauses l.spec r (derivation_of d) (started l (premises_of l.premises))

abbrev pub lines_in : Drafted → List WrittenLine
lines_in d = whole_lines d.lines d.place

pub builds_derivation : (d : DerivationSpelling) → lines_in (line_steps nothing_read (derivation d [])) ≡ derivation_of d
builds_derivation d = ap lines_in (builds_lines d []) ∙ ends d
  where
    ends : (d : DerivationSpelling) → lines_in (after_lines d) ≡ derivation_of d
    ends no_line = refl
    ends (and_line d l) = refl

-- the same tokens say one thing
pub one_derivation : OneDerivation
one_derivation s t e = sym (builds_derivation s) ∙ ap (λ ls. lines_in (line_steps nothing_read ls)) e ∙ builds_derivation t

lines-append : (d : Drafted) (xs ys : List Lexeme) → line_steps d (xs ++ ys) ≡ line_steps (line_steps d xs) ys
lines-append d [] ys = refl
lines-append d (x ∷ xs) ys = lines-append (line_step d x) xs ys

-- one token more
pub lines_more : (src : List ℕ) (start : Drafted) (ts : List Token) (i : ℕ) (t : Token) (d e : Drafted) → i < length ts → line_steps start (map (lexeme_of src) (take i ts)) ≡ d → e ≡ line_step d (lexeme_of src (get_or ts i t)) → line_steps start (map (lexeme_of src) (take (i + 1) ts)) ≡ e
lines_more src start ts i t d e lt ran one =
    ap (λ xs. line_steps start (map (lexeme_of src) xs)) (take_more ts i t lt)
    ∙ ap (line_steps start) (map-append (lexeme_of src) (take i ts) (get_or ts i t ∷ []))
    ∙ lines-append start (map (lexeme_of src) (take i ts)) (lexeme_of src (get_or ts i t) ∷ [])
    ∙ ap (λ x. line_step x (lexeme_of src (get_or ts i t))) ran
    ∙ sym one
