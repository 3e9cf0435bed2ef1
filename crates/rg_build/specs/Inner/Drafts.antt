-- What is read of a program between two tokens, without where it lies in memory, and what a token does to it.
-- No public contract cites it: what the tokens of a program say and begin is defined over the grammar, in Texts and Begun.
use Rattle.std.specs.Prelude.{ℕ, nat_lt, Bool, true, false, length, List, [], ◌∷◌, ◌++◌, map, reverse, Option, Some, None, Vec}
use Rattle.std.specs.Global.{Global}
use Rattle.rg_text.specs.Text.{Leaf, leaf_of}
use Rattle.rg_text.specs.declared.kind.Terminal.TheVariants.{Section, Else, Semicolon}
use Rattle.rg_text.specs.declared.kind.Keyword.TheVariants as keywords
use Rattle.rg_syntax.specs.Grammar.{Lexeme, fixed, opening, name, number, an_if, a_skip, an_await, a_while}
use Rattle.rg_syntax.specs.Written.{Term, Claim, DeclaredWord, AssignedTree, StatementTree, skip, assign, await, branch, loop, listed, SpecTree, WrittenPart, WrittenProgram, claim, declared_word, assigned, statement, part_text}
use Rattle.rg_build.specs.Frames.{Piece, a_claim, a_term, Open, whole, finished, whole_value, valued, open_of}
use Rattle.rg_build.specs.Steps.{step}
use Rattle.rg_build.specs.declared.programs.ProgramSign.{ProgramSign}
use Rattle.rg_build.specs.declared.programs.ProgramSign.TheVariants as signs
use Rattle.rg_build.specs.declared.programs.Around.{Around}
use Rattle.rg_build.specs.declared.programs.Around.TheVariants as arounds
use Rattle.rg_build.specs.declared.programs.OpenBlock.{OpenBlock}
use Rattle.rg_build.specs.declared.programs.Purpose.{Purpose}
use Rattle.rg_build.specs.declared.programs.Purpose.TheVariants as purposes
use Rattle.rg_build.specs.declared.programs.ProgramDraft.{ProgramDraft}
use Rattle.rg_build.specs.declared.programs.ProgramPlace.{ProgramPlace}
use Rattle.rg_build.specs.declared.programs.ProgramPlace.TheVariants as places

-- what a token says outside formulas and values
pub data Said : Type 0 where
  names : Leaf → Said
  counts : Leaf → Said
  marks_fixed : Said
  to_pre : Said
  skips : Leaf → Said
  tests : Leaf → Said
  awaits : Leaf → Said
  loops : Leaf → Said
  goes_on : Said
  otherwise : Said
  ends : Said
  nothing : Said

abbrev pub sign : List ℕ → ProgramSign → Said
sign src (signs.Name t) = names (leaf_of src t)
sign src (signs.Number t) = counts (leaf_of src t)
sign src signs.Fixed = marks_fixed
sign src signs.Pre = to_pre
sign src (signs.Skip t) = skips (leaf_of src t)
sign src (signs.If t) = tests (leaf_of src t)
sign src (signs.Await t) = awaits (leaf_of src t)
sign src (signs.While t) = loops (leaf_of src t)
sign src signs.Semicolon = goes_on
sign src signs.Else = otherwise
sign src signs.End = ends
sign src signs.Other = nothing

abbrev pub said : Lexeme → Said
said (name x) = names x
said (number n) = counts n
said (fixed (Section keywords.Fixed)) = marks_fixed
said (fixed (Section keywords.Pre)) = to_pre
said (opening a_skip i) = skips i
said (opening an_if i) = tests i
said (opening an_await i) = awaits i
said (opening a_while i) = loops i
said (fixed Semicolon) = goes_on
said (fixed Else) = otherwise
said (fixed (Section keywords.End)) = ends
said _ = nothing

-- what a list of statements is the body of
pub data BodyOf : Type 0 where
  a_part : BodyOf
  a_then : Leaf → Claim → BodyOf
  an_else : Leaf → Claim → List StatementTree → BodyOf
  a_loop : Leaf → Claim → BodyOf

abbrev pub body_of : List ℕ → Around → BodyOf
body_of src arounds.Part = a_part
body_of src (arounds.Then t f) = a_then (leaf_of src t) (claim src f)
body_of src (arounds.Else t f ss) = an_else (leaf_of src t) (claim src f) (map (statement src) ss.items)
body_of src (arounds.Loop t f) = a_loop (leaf_of src t) (claim src f)

-- a list of statements that isn't ended, and whether a `;` stood after one of them
pub record BlockSoFar : Type 0 where
  pub around : BodyOf
  pub statements : List StatementTree
  pub joined : Bool

abbrev pub open_block : List ℕ → OpenBlock → BlockSoFar
open_block src b = record { around = body_of src b.around; statements = map (statement src) b.statements.items; joined = b.joined }

-- the lists of statements that aren't ended, the innermost first
abbrev pub open_blocks : List ℕ → Vec OpenBlock Global → List BlockSoFar
open_blocks src blocks = map (open_block src) (reverse blocks.items)

-- what a formula or a value is read for: a clause of the program, a clause of the part of this name; in that part an assignment to
-- this word, the guard of the await that begins here, an assignment of it to this word, or the test of what begins here
pub data ReadFor : Type 0 where
  a_program_clause : ReadFor
  a_part_clause : Leaf → ReadFor
  an_assignment : Leaf → Leaf → ReadFor
  a_guard : Leaf → Leaf → ReadFor
  an_act : Leaf → Leaf → Leaf → ReadFor
  a_branch_test : Leaf → Leaf → ReadFor
  a_loop_test : Leaf → Leaf → ReadFor

abbrev pub read_for : List ℕ → Purpose → ReadFor
read_for src purposes.ProgramClause = a_program_clause
read_for src (purposes.PartClause n) = a_part_clause (leaf_of src n)
read_for src (purposes.Assign n x) = an_assignment (leaf_of src n) (leaf_of src x)
read_for src (purposes.Guard n t) = a_guard (leaf_of src n) (leaf_of src t)
read_for src (purposes.Act n t x) = an_act (leaf_of src n) (leaf_of src t) (leaf_of src x)
read_for src (purposes.Branch n t) = a_branch_test (leaf_of src n) (leaf_of src t)
read_for src (purposes.Loop n t) = a_loop_test (leaf_of src n) (leaf_of src t)

-- where a program is read
pub data PlaceSoFar : Type 0 where
  in_words : Bool → PlaceSoFar
  in_word : Bool → Leaf → PlaceSoFar
  between_parts : PlaceSoFar
  between_statements : Leaf → PlaceSoFar
  between_acts : Leaf → Leaf → PlaceSoFar
  reading : ReadFor → PlaceSoFar

abbrev pub place_of : List ℕ → ProgramPlace → PlaceSoFar
place_of src (places.Words b) = in_words b
place_of src (places.Word b n) = in_word b (leaf_of src n)
place_of src places.Parts = between_parts
place_of src (places.Statements n) = between_statements (leaf_of src n)
place_of src (places.Acts n t) = between_acts (leaf_of src n) (leaf_of src t)
place_of src (places.Reading w) = reading (read_for src w)

-- what is read of a program: its words, its clauses and its whole parts; of the part that is open its clauses and its open lists of
-- statements; of the await that is open its guard and its assignments; and the open parts of a formula or a value. What is
-- innermost stands first
pub record Drafted : Type 0 where
  pub words : List DeclaredWord
  pub clauses : List Claim
  pub parts : List WrittenPart
  pub part_clauses : List Claim
  pub blocks : List BlockSoFar
  pub guards : List Claim
  pub acts : List AssignedTree
  pub within : List Open
  pub place : PlaceSoFar

abbrev pub drafted : List ℕ → ProgramDraft → Drafted
drafted src d = record {
  words = map (declared_word src) d.words.items;
  clauses = map (claim src) d.clauses.items;
  parts = map (part_text src) d.parts.items;
  part_clauses = map (claim src) d.part_clauses.items;
  blocks = map (open_block src) (reverse d.blocks.items);
  guards = map (claim src) (reverse d.guards.items);
  acts = map (assigned src) d.acts.items;
  within = map (open_of src) (reverse d.frames.items);
  place = place_of src d.place;
}

-- the innermost list of statements
abbrev pub and_statement : StatementTree → List BlockSoFar → List BlockSoFar
and_statement s [] = []
and_statement s (b ∷ bs) = record { around = b.around; statements = b.statements ++ s ∷ []; joined = b.joined } ∷ bs

abbrev pub and_more : List BlockSoFar → List BlockSoFar
and_more [] = []
and_more (b ∷ bs) = record { around = b.around; statements = b.statements; joined = true } ∷ bs

abbrev pub opened : BodyOf → List BlockSoFar → List BlockSoFar
opened a bs = record { around = a; statements = []; joined = false } ∷ bs

-- after the first block of a branch comes its second; elsewhere nothing changes
abbrev pub second_block : BlockSoFar → BodyOf → List BlockSoFar → List BlockSoFar
second_block b (a_then i f) bs = opened (an_else i f b.statements) bs
second_block b _ bs = b ∷ bs

abbrev pub on_else : List BlockSoFar → List BlockSoFar
on_else [] = []
on_else (b ∷ bs) = second_block b b.around bs

-- a formula or a value is to be read
abbrev pub claim_wanted : Drafted → ReadFor → Drafted
claim_wanted d w = record d { within = whole ∷ d.within; place = reading w }

abbrev pub term_wanted : Drafted → ReadFor → Drafted
term_wanted d w = record d { within = whole_value ∷ d.within; place = reading w }

-- with a whole statement in the part of this name
abbrev pub with_statement : Drafted → Leaf → StatementTree → Drafted
with_statement d n s = record d { blocks = and_statement s d.blocks; place = between_statements n }

-- four clauses are a specification
abbrev pub spec_from : List Claim → Option SpecTree
spec_from (f ∷ g ∷ k ∷ x ∷ []) = Some (record { pre = f; rely = g; guar = k; post = x })
spec_from _ = None

-- the parts with one more, where it has a specification
abbrev pub and_part : List WrittenPart → Leaf → Option SpecTree → List StatementTree → List WrittenPart
and_part ps n None ss = ps
and_part ps n (Some s) ss = ps ++ record { name = n; spec = s; body = listed ss } ∷ []

-- the end of a list of statements
abbrev pub end_of : Drafted → Leaf → BodyOf → List StatementTree → List BlockSoFar → Drafted
end_of d n a_part ss bs = record d { parts = and_part d.parts n (spec_from d.part_clauses) ss; part_clauses = []; blocks = bs; place = between_parts }
end_of d n (a_then i f) ss bs = record d { blocks = bs; place = between_statements n }
end_of d n (an_else i f first) ss bs = with_statement (record d { blocks = bs }) n (branch i f (listed first) (listed ss))
end_of d n (a_loop i f) ss bs = with_statement (record d { blocks = bs }) n (loop i f (listed ss))

abbrev pub on_end : Drafted → Leaf → List BlockSoFar → Drafted
on_end d n [] = record d { place = between_statements n }
on_end d n (b ∷ bs) = end_of d n b.around b.statements bs

-- the end of an await
abbrev pub end_acts : Drafted → Leaf → Leaf → List Claim → Drafted
end_acts d n i [] = record d { place = between_statements n }
end_acts d n i (g ∷ gs) = with_statement (record d { guards = gs; acts = [] }) n (await i g d.acts)

-- what a token does outside formulas and values; where it may not stand nothing changes
abbrev pub on_words : Drafted → Bool → Said → Drafted
on_words d b (names n) = record d { place = in_word b n }
on_words d b marks_fixed = record d { place = in_words true }
on_words d b to_pre = claim_wanted d a_program_clause
on_words d b _ = record d { place = in_words b }

abbrev pub on_word : Drafted → Bool → Leaf → Said → Drafted
on_word d b n (counts w) = record d { words = d.words ++ record { fixed = b; name = n; width = w } ∷ []; place = in_words false }
on_word d b n _ = record d { place = in_word b n }

abbrev pub on_parts : Drafted → Said → Drafted
on_parts d (names n) = claim_wanted d (a_part_clause n)
on_parts d _ = record d { place = between_parts }

abbrev pub on_statements : Drafted → Leaf → Said → Drafted
on_statements d n (names x) = term_wanted d (an_assignment n x)
on_statements d n (skips i) = with_statement d n (skip i)
on_statements d n (awaits i) = claim_wanted d (a_guard n i)
on_statements d n (tests i) = claim_wanted d (a_branch_test n i)
on_statements d n (loops i) = claim_wanted d (a_loop_test n i)
on_statements d n goes_on = record d { blocks = and_more d.blocks; place = between_statements n }
on_statements d n otherwise = record d { blocks = on_else d.blocks; place = between_statements n }
on_statements d n ends = on_end d n d.blocks
on_statements d n _ = record d { place = between_statements n }

abbrev pub on_acts : Drafted → Leaf → Leaf → Said → Drafted
on_acts d n i (names x) = term_wanted d (an_act n i x)
on_acts d n i ends = end_acts d n i d.guards
on_acts d n i _ = record d { place = between_acts n i }

-- after a clause comes the next, or what follows the fourth
abbrev pub and_clause : List Claim → Claim → List Claim
and_clause cs f = cs ++ f ∷ []

abbrev pub after_program_clause : Drafted → Bool → Drafted
after_program_clause d true = claim_wanted d a_program_clause
after_program_clause d false = record d { place = between_parts }

abbrev pub after_part_clause : Drafted → Leaf → Bool → Drafted
after_part_clause d n true = claim_wanted d (a_part_clause n)
after_part_clause d n false = record d { blocks = opened a_part d.blocks; place = between_statements n }

-- what a whole formula does; where a value is read none comes
abbrev pub with_claim : Drafted → ReadFor → Claim → Drafted
with_claim d a_program_clause f = after_program_clause (record d { clauses = and_clause d.clauses f }) (nat_lt (length (and_clause d.clauses f)) 4)
with_claim d (a_part_clause n) f = after_part_clause (record d { part_clauses = and_clause d.part_clauses f }) n (nat_lt (length (and_clause d.part_clauses f)) 4)
with_claim d (a_guard n i) f = record d { guards = f ∷ d.guards; place = between_acts n i }
with_claim d (a_branch_test n i) f = record d { blocks = opened (a_then i f) d.blocks; place = between_statements n }
with_claim d (a_loop_test n i) f = record d { blocks = opened (a_loop i f) d.blocks; place = between_statements n }
with_claim d (an_assignment n x) f = record d { place = between_statements n }
with_claim d (an_act n i x) f = record d { place = between_acts n i }

-- what a whole value does; where a formula is read none comes
abbrev pub with_term : Drafted → ReadFor → Term → Drafted
with_term d (an_assignment n x) a = with_statement d n (assign (record { target = x; value = a }))
with_term d (an_act n i x) a = record d { acts = d.acts ++ record { target = x; value = a } ∷ []; place = between_acts n i }
with_term d (a_guard n i) a = record d { place = between_statements n }
with_term d (a_branch_test n i) a = record d { place = between_statements n }
with_term d (a_loop_test n i) a = record d { place = between_statements n }
with_term d _ a = record d { place = between_parts }

-- what a whole formula or value does; where there is none it is read on
abbrev pub with_item : Drafted → ReadFor → Option Piece → List Open → Drafted
with_item d w None os = record d { within = os; place = reading w }
with_item d w (Some (a_claim f)) os = with_claim (record d { within = os }) w f
with_item d w (Some (a_term a)) os = with_term (record d { within = os }) w a

-- after a token of a formula or of a value
abbrev pub settled : Drafted → ReadFor → List Open → Drafted
settled d w (finished f ∷ os) = with_claim (record d { within = os }) w f
settled d w (valued a ∷ os) = with_term (record d { within = os }) w a
settled d w os = record d { within = os; place = reading w }

-- what is read, but for what is being read
abbrev pub rest_of : Drafted → Drafted
rest_of d = record d { within = []; place = between_parts }

abbrev pub step_at : Drafted → PlaceSoFar → Lexeme → Drafted
step_at d (in_words b) l = on_words d b (said l)
step_at d (in_word b n) l = on_word d b n (said l)
step_at d between_parts l = on_parts d (said l)
step_at d (between_statements n) l = on_statements d n (said l)
step_at d (between_acts n i) l = on_acts d n i (said l)
step_at d (reading w) l = settled (rest_of d) w (step d.within l)

abbrev pub program_step : Drafted → Lexeme → Drafted
program_step d l = step_at d d.place l

abbrev pub program_steps : Drafted → List Lexeme → Drafted
program_steps d [] = d
program_steps d (l ∷ ls) = program_steps (program_step d l) ls

-- before all tokens
abbrev pub no_token : Drafted
no_token = record { words = []; clauses = []; parts = []; part_clauses = []; blocks = []; guards = []; acts = []; within = []; place = in_words false }

-- the program, where its clauses are a specification
abbrev pub with_spec : Drafted → Option SpecTree → Option WrittenProgram
with_spec d None = None
with_spec d (Some s) = Some (record { words = d.words; spec = s; parts = d.parts })

abbrev pub whole_program : Drafted → Option WrittenProgram
whole_program d = with_spec d (spec_from d.clauses)
