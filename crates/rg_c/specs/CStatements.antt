-- Statements of C that stand in the functions of a header.
use Rattle.std.specs.Prelude.{ℕ, List, [], ◌∷◌}
use Rattle.rg_c_values.specs.declared.print.Read.{Read}
use Rattle.rg_c_values.specs.CTrees.{CValue, CTest}
use Rattle.rg_c.specs.declared.tree.Flag.{Flag}

-- what an `if` asks: a test, or a flag
pub data Question : Type 0 where
  asks : CTest → Question
  flag : Flag → Question

-- what is written: the k-th word, or the item at an index of the array that begins at the j-th
pub data Place : Type 0 where
  member : ℕ → Place
  item : ℕ → CValue → Place

infixr 30 ◌⨾◌
-- a statement: none; one and then another; one whose words are read so; a comment; a macro that changes none of the words; a call of a function of the header;
-- a local gets its word's value, by a load; that is loaded, and not read; so is a word that is to be exchanged, into `rgc_old` and its local; a local gets its word's
-- value, which is read plainly; a local gets another value; a plain write; a store; a compare-and-exchange of a word for its local; a word gets its local's value;
-- a flag is declared; it gets the value of a test; the end of the loop around it; a block; a loop, whose controlling expression is none, since of a loop with
-- another one, and that accesses no atomic word, a compiler may take for granted that it ends (C11, 6.8.5, paragraph 6); what is done where a question is answered by
-- yes; where it is by no; and either
pub data CStatement : Type 0 where
  nothing : CStatement
  ◌⨾◌ : CStatement → CStatement → CStatement
  reading : List Read → CStatement → CStatement
  remark : List ℕ → CStatement
  hook : List ℕ → CStatement
  calls : List ℕ → CStatement
  loads : ℕ → CStatement
  discards : ℕ → CStatement
  begins : ℕ → CStatement
  copies : ℕ → CStatement
  changes : ℕ → CValue → CStatement
  writes : Place → CValue → CStatement
  stores : Place → CValue → CStatement
  exchanges : ℕ → CStatement
  returns : ℕ → CStatement
  declares : Flag → CStatement
  decides : Flag → CTest → CStatement
  breaks : CStatement
  block : CStatement → CStatement
  forever : CStatement → CStatement
  when : Question → CStatement → CStatement
  unless : Question → CStatement → CStatement
  either : Question → CStatement → CStatement → CStatement

-- such a statement for each of a list, in order
abbrev pub each : {A : Type 0} → (A → CStatement) → List A → CStatement
each f [] = nothing
each f (x ∷ xs) = f x ⨾ each f xs
