-- What the machine does: configurations, and the steps that lead from one to another.
use Rattle.std.specs.Prelude.{◌≡◌, ℕ, ◌-◌, true, false, List, [], Option, Some, None, slice_get, slice_index, slice_index_or}
use Rattle.rg_words.specs.Layout.{Word}
use Rattle.rg_words.specs.States.{IsPair}
use Rattle.rg_tree.specs.Traces.{State}
use Rattle.rg_code.specs.Code.{BlockTree, do_block, await_block, test_block, end_block, Makes_step, is_end, PlacesGo}
use Rattle.rg_machine.specs.declared.config.Stepped.{Stepped}
use Rattle.rg_machine.specs.declared.config.Stepped.TheVariants.{Did, Blocked, Ended}

-- the words and the code of all parts, which stay, the state of the words, and the place of each part
pub record Configuration : Type 0 where
  pub words : List Word
  pub codes : List (List BlockTree)
  pub state : State
  pub places : List ℕ

-- the block at which part i stands, numbered from 1
abbrev pub block_of : Configuration → ℕ → Option BlockTree
block_of c i = slice_get (slice_index_or c.codes (i - 1) []) (slice_index c.places (i - 1))

-- part i leads from the one to the other by a step of its block: its place goes on, all other places stay
pub record IsStepOf (c : Configuration) (i : ℕ) (d : Configuration) : Type 0 where
  pub words : d.words ≡ c.words
  pub codes : d.codes ≡ c.codes
  pub goes : PlacesGo 1 c.codes c.places d.places c.state (record { who = i; after = d.state })
  pub pair : IsPair c.words c.state d.state

-- the block makes some step from s
abbrev pub CanLead : Option BlockTree → State → Type 0
CanLead b s = (t : State) × (to : ℕ) × Makes_step b s t to

-- so does the block of part i
abbrev pub CanStep : Configuration → ℕ → Type 0
CanStep c i = CanLead (block_of c i) c.state

-- part i stands at its end
abbrev pub IsAtEnd : Configuration → ℕ → Type 0
IsAtEnd c i = is_end (block_of c i) ≡ true

-- what a step of part i answers: Did where its block makes a step, which is then made; Ended at its end; else Blocked. All but Did
-- change nothing
abbrev pub StepFits : Configuration → ℕ → Stepped → Configuration → Type 0
StepFits c i Did d = IsStepOf c i d
StepFits c i Blocked d = (CanStep c i → ⊥) × (is_end (block_of c i) ≡ false) × (d ≡ c)
StepFits c i Ended d = IsAtEnd c i × (d ≡ c)

-- the line of a block's statement; 0 at an end
abbrev pub line_of : Option BlockTree → ℕ
line_of None = 0
line_of (Some (do_block row next act)) = row
line_of (Some (await_block row next b act)) = row
line_of (Some (test_block row yes_place no_place b)) = row
line_of (Some end_block) = 0
