-- What is read of a derivation between two tokens, without where it lies in memory, and what a token does to it.
use Rattle.std.specs.Prelude.{ℕ, List, [], ◌∷◌, ◌++◌, map, reverse, Option, Some}
use Rattle.rg_text.specs.Text.{Leaf, leaf_of}
use Rattle.rg_text.specs.declared.kind.Terminal.TheVariants.{Section}
use Rattle.rg_text.specs.declared.kind.Keyword.TheVariants as keywords
use Rattle.rg_tree.specs.declared.line.Rule.{Rule}
use Rattle.rg_tree.specs.declared.line.Rule.TheVariants as rules
use Rattle.rg_syntax.specs.Grammar.{Lexeme, fixed, opening, number, an_if, a_line}
use Rattle.rg_syntax.specs.Written.{Claim, WrittenLine, claim, line_text}
use Rattle.rg_build.specs.Frames.{Open, whole, open_of}
use Rattle.rg_build.specs.Steps.{step}
use Rattle.rg_build.specs.Inner.Building.{whole_of}
use Rattle.rg_build.specs.declared.derivations.LineSign.{LineSign}
use Rattle.rg_build.specs.declared.derivations.LineSign.TheVariants as signs
use Rattle.rg_build.specs.declared.derivations.LineHead.{LineHead}
use Rattle.rg_build.specs.declared.derivations.Claims.{Claims}
use Rattle.rg_build.specs.declared.derivations.Claims.TheVariants as claims
use Rattle.rg_build.specs.declared.derivations.HeadSoFar.{HeadSoFar}
use Rattle.rg_build.specs.declared.derivations.HeadSoFar.TheVariants as heads
use Rattle.rg_build.specs.declared.derivations.LinePlace.{LinePlace}
use Rattle.rg_build.specs.declared.derivations.LinePlace.TheVariants as places
use Rattle.rg_build.specs.declared.derivations.DerivationDraft.{DerivationDraft}

-- what a token says outside the formulas of a derivation
pub data Said : Type 0 where
  begins : Leaf → Said
  counts : Leaf → Said
  rules_by : Rule → Said
  to_pre : Said
  to_next : Said
  nothing : Said

abbrev pub sign : List ℕ → LineSign → Said
sign src (signs.Line t) = begins (leaf_of src t)
sign src (signs.Number t) = counts (leaf_of src t)
sign src (signs.Rule x) = rules_by x
sign src signs.Pre = to_pre
sign src signs.Next = to_next
sign src signs.Other = nothing

abbrev pub said : Lexeme → Said
said (opening a_line i) = begins i
said (opening an_if i) = rules_by rules.If
said (number n) = counts n
said (fixed (Section keywords.Basic)) = rules_by rules.Basic
said (fixed (Section keywords.Atomic)) = rules_by rules.Atomic
said (fixed (Section keywords.Seq)) = rules_by rules.Seq
said (fixed (Section keywords.Loop)) = rules_by rules.Loop
said (fixed (Section keywords.Conseq)) = rules_by rules.Conseq
said (fixed (Section keywords.Pre)) = to_pre
said (fixed (Section keywords.Rely)) = to_next
said (fixed (Section keywords.Guar)) = to_next
said (fixed (Section keywords.Post)) = to_next
said _ = nothing

-- a line before its specification
pub record LineStart : Type 0 where
  pub begin : Leaf
  pub number : Leaf
  pub rule : Rule
  pub statement : Leaf
  pub premises : List Leaf

abbrev pub line_start : List ℕ → LineHead → LineStart
line_start src h = record {
  begin = leaf_of src h.begin;
  number = leaf_of src h.number;
  rule = h.rule;
  statement = leaf_of src h.statement;
  premises = map (leaf_of src) h.premises.items;
}

-- the formulas of a line before the one that is read
pub data Earlier : Type 0 where
  no_claim : Earlier
  a_pre : Claim → Earlier
  a_rely : Claim → Claim → Earlier
  a_guar : Claim → Claim → Claim → Earlier

abbrev pub earlier : List ℕ → Claims → Earlier
earlier src claims.None = no_claim
earlier src (claims.Pre f) = a_pre (claim src f)
earlier src (claims.Rely f g) = a_rely (claim src f) (claim src g)
earlier src (claims.Guar f g h) = a_guar (claim src f) (claim src g) (claim src h)

-- how far a line is read before its specification
pub data Begun : Type 0 where
  unread : Begun
  begun : Leaf → Begun
  numbered : Leaf → Leaf → Begun
  ruled : Leaf → Leaf → Rule → Begun
  with_premises : LineStart → Begun

abbrev pub head : List ℕ → HeadSoFar → Begun
head src heads.Unread = unread
head src (heads.Begun b) = begun (leaf_of src b)
head src (heads.Numbered b n) = numbered (leaf_of src b) (leaf_of src n)
head src (heads.Ruled b n x) = ruled (leaf_of src b) (leaf_of src n) x
head src (heads.Premises h) = with_premises (line_start src h)

-- where a derivation is read: before the specification of a line, or in one of its formulas
pub data OpenLine : Type 0 where
  in_head : Begun → OpenLine
  in_claim : LineStart → Earlier → List Open → OpenLine

abbrev pub open_line : List ℕ → LinePlace → OpenLine
open_line src (places.Head h) = in_head (head src h)
open_line src (places.Claim h c fs) = in_claim (line_start src h) (earlier src c) (map (open_of src) (reverse fs.items))

-- the whole lines, and the one that is open
pub record Drafted : Type 0 where
  pub lines : List WrittenLine
  pub place : OpenLine

abbrev pub drafted : List ℕ → DerivationDraft → Drafted
drafted src d = record { lines = map (line_text src) d.lines.items; place = open_line src d.place }

-- what a token does before the specification of a line; where it may not stand nothing changes
abbrev pub after_unread : Said → Begun
after_unread (begins b) = begun b
after_unread _ = unread

abbrev pub after_begun : Leaf → Said → Begun
after_begun b (counts n) = numbered b n
after_begun b _ = begun b

abbrev pub after_number : Leaf → Leaf → Said → Begun
after_number b n (rules_by x) = ruled b n x
after_number b n _ = numbered b n

abbrev pub after_rule : Leaf → Leaf → Rule → Said → Begun
after_rule b n x (counts s) = with_premises (record { begin = b; number = n; rule = x; statement = s; premises = [] })
after_rule b n x _ = ruled b n x

abbrev pub one_premise_more : LineStart → Leaf → LineStart
one_premise_more h n = record { begin = h.begin; number = h.number; rule = h.rule; statement = h.statement; premises = h.premises ++ n ∷ [] }

abbrev pub after_premises : LineStart → Said → OpenLine
after_premises h (counts n) = in_head (with_premises (one_premise_more h n))
after_premises h to_pre = in_claim h no_claim (whole ∷ [])
after_premises h _ = in_head (with_premises h)

abbrev pub on_head : Begun → Said → OpenLine
on_head unread s = in_head (after_unread s)
on_head (begun b) s = in_head (after_begun b s)
on_head (numbered b n) s = in_head (after_number b n s)
on_head (ruled b n x) s = in_head (after_rule b n x s)
on_head (with_premises h) s = after_premises h s

-- after a formula that another follows
abbrev pub next_claim : LineStart → Earlier → Option Claim → OpenLine
next_claim h no_claim (Some f) = in_claim h (a_pre f) (whole ∷ [])
next_claim h (a_pre f) (Some g) = in_claim h (a_rely f g) (whole ∷ [])
next_claim h (a_rely f g) (Some k) = in_claim h (a_guar f g k) (whole ∷ [])
next_claim h c f = in_head unread

-- the whole lines with one that ends after this formula
abbrev pub end_line : List WrittenLine → LineStart → Earlier → Option Claim → List WrittenLine
end_line ls h (a_guar f g k) (Some x) =
    ls ++ record { begin = h.begin; number = h.number; rule = h.rule; statement = h.statement; premises = h.premises; spec = record { pre = f; rely = g; guar = k; post = x } } ∷ []
end_line ls h c f = ls

-- what a token does in a formula of a line
abbrev pub on_claim : List WrittenLine → LineStart → Earlier → List Open → Said → Lexeme → Drafted
on_claim ls h c os (begins b) l = record { lines = end_line ls h c (whole_of os); place = in_head (begun b) }
on_claim ls h c os to_next l = record { lines = ls; place = next_claim h c (whole_of os) }
on_claim ls h c os _ l = record { lines = ls; place = in_claim h c (step os l) }

abbrev pub on_line : List WrittenLine → OpenLine → Lexeme → Drafted
on_line ls (in_head h) l = record { lines = ls; place = on_head h (said l) }
on_line ls (in_claim h c os) l = on_claim ls h c os (said l) l

-- before all tokens
abbrev pub nothing_read : Drafted
nothing_read = record { lines = []; place = in_head unread }

abbrev pub line_step : Drafted → Lexeme → Drafted
line_step d l = on_line d.lines d.place l

abbrev pub line_steps : Drafted → List Lexeme → Drafted
line_steps d [] = d
line_steps d (l ∷ ls) = line_steps (line_step d l) ls

-- all lines, with the one that ends with the text
abbrev pub whole_lines : List WrittenLine → OpenLine → List WrittenLine
whole_lines ls (in_head h) = ls
whole_lines ls (in_claim h c os) = end_line ls h c (whole_of os)
