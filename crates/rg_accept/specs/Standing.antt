-- Where the parts stand after a run of the code, and what the lines of a derivation say of the state then.
use Rattle.std.specs.Prelude.{◌≡◌, ℕ, ◌+◌, Bool, true, false, List, [], ◌∷◌, ◌++◌, Option, Some, length, slice_get, option_and_then, if◌then◌else◌}
use Rattle.rg_tree.specs.Statements.{Statement, skip, assign, await, sequence, branch, loop, PartTree, ProgramTree}
use Rattle.rg_tree.specs.Numbering.{statements}
use Rattle.rg_tree.specs.Meaning.{holds}
use Rattle.rg_tree.specs.Traces.{State, Step, holds_at, IsTraceOf, last_of}
use Rattle.rg_tree.specs.Programs.{nth, OthersInside}
use Rattle.rg_tree.specs.RuleConditions.{AllConditionsHold}
use Rattle.rg_tree.specs.Lines.{LineTree, AreTypedLines}
use Rattle.rg_tree.specs.declared.line.Rule.{Rule}
use Rattle.rg_tree.specs.declared.line.Rule.TheVariants.{Basic, Atomic, Seq, If, Loop, Conseq}
use Rattle.rg_rules.specs.Faults.{Derives}
use Rattle.rg_code.specs.Code.{BlockTree, PlacesGo, zeros, program_code}
use Rattle.rg_accept.specs.Accepted.{conditions_of}

-- after these steps of the code, which begins at the first places, the parts stand at the others
abbrev pub StandAfter : List (List BlockTree) → List ℕ → State → List Step → List ℕ → Type 0
StandAfter codes places s [] at = at ≡ places
StandAfter codes places s (x ∷ xs) at = (next : List ℕ) × PlacesGo 1 codes places next s x × StandAfter codes next x.after xs at

-- the steps are a run of the program's code, after which its parts stand at these places
pub record AreStanding (p : ProgramTree) (s : State) (xs : List Step) (at : List ℕ) : Type 0 where
  pub trace : IsTraceOf p.words (length p.parts) s xs
  pub run : StandAfter (program_code p.parts) (zeros (program_code p.parts)) s xs at

-- a statement has a block of its own: it is no sequence
abbrev pub has_block : Statement → Bool
has_block (skip row) = true
has_block (assign row a) = true
has_block (await row b act) = true
has_block (sequence row s items) = false
has_block (branch row b s t) = true
has_block (loop row b s) = true

-- of these statements, numbered from n, the numbers of those with blocks: block by block
abbrev pub block_numbers : ℕ → List Statement → List ℕ
block_numbers n [] = []
block_numbers n (s ∷ ss) = (if has_block s then n ∷ [] else []) ++ block_numbers (n + 1) ss

-- part by part, where the first statement of the first part has this number
abbrev pub numbers_of_blocks : ℕ → List PartTree → List (List ℕ)
numbers_of_blocks n [] = []
numbers_of_blocks n (p ∷ ps) = block_numbers n (statements p.body) ∷ numbers_of_blocks (n + length (statements p.body)) ps

-- the number of the statement whose block stands at place k of the i-th part's code; the end of the code is of none
abbrev pub number_at : List PartTree → ℕ → ℕ → Option ℕ
number_at parts i k = option_and_then (λ ns. slice_get ns k) (slice_get (numbers_of_blocks 1 parts) i)

-- a line follows from another line of its statement
abbrev pub is_conseq : Rule → Bool
is_conseq Basic = false
is_conseq Atomic = false
is_conseq Seq = false
is_conseq If = false
is_conseq Loop = false
is_conseq Conseq = true

-- a line of this statement, by another rule than that of consequence, has a pre that holds
pub record IsAsserted (lines : List LineTree) (number : ℕ) (s : State) : Type 0 where
  pub place : ℕ
  pub line : LineTree
  pub found : nth lines place ≡ Some line
  pub same_number : line.number ≡ number
  pub own_rule : is_conseq line.rule ≡ false
  pub holding : holds_at line.spec.pre s ≡ true

-- where lines derive a program's parts and their conditions are true: after each run from the pre, with steps of the environment inside the rely, the pre of such
-- a line holds of each statement at whose block a part stands
abbrev pub AssertionsHold : Type 0
AssertionsHold =
    (p : ProgramTree) (lines : List LineTree) → AreTypedLines p.words lines → Derives p.parts lines → AllConditionsHold (conditions_of p lines) →
    (s : State) (xs : List Step) (at : List ℕ) → AreStanding p s xs at → holds_at p.spec.pre s ≡ true → OthersInside (holds p.spec.rely) s xs →
    (i k n : ℕ) → slice_get at i ≡ Some k → number_at p.parts i k ≡ Some n → IsAsserted lines n (last_of s xs)
