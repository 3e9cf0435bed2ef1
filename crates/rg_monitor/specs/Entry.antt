-- What the record of a step says.
use Rattle.std.specs.Prelude.{ℕ, suc, List, [], ◌∷◌, if◌then◌else◌}
use Rattle.rg_words.specs.States.{AreValues}
use Rattle.rg_tree.specs.Statements.{PartTree, ProgramTree}
use Rattle.rg_tree.specs.Traces.{State}
use Rattle.rg_tree.specs.Inside.{is_inside}

-- the number of the step, from 1; who made it, 0 for the environment, else a part's number, from 1; the line of the
-- statement, 0 for the environment; the states before and after; and the numbers of the parts that cover the step
pub record Entry : Type 0 where
  pub number : ℕ
  pub who : ℕ
  pub line : ℕ
  pub before : State
  pub after : State
  pub cover : List ℕ

-- of these parts, numbered from n, those whose guarantee a step from s to t is inside, in order
abbrev pub covering : ℕ → List PartTree → State → State → List ℕ
covering n [] s t = []
covering n (p ∷ ps) s t =
    if is_inside p.spec.guar s t then n ∷ covering (suc n) ps s t else covering (suc n) ps s t

-- the entry of a step: all parts are looked at, whoever made it
abbrev pub entry_of : ProgramTree → ℕ → ℕ → ℕ → State → State → Entry
entry_of program number who line s t =
    record { number = number; who = who; line = line; before = s; after = t; cover = covering 1 program.parts s t }

-- both are states of the same words, whichever these are
abbrev pub OfSameWords : State → State → Type 0
OfSameWords s t = (widths : List ℕ) × AreValues widths s × AreValues widths t
