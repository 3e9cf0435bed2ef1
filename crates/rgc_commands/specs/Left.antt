-- What is left of an accepted program where words are erased, or all of it.
use Rattle.std.specs.Prelude.{◌≡◌, ◌⊎◌, ℕ, Bool, true, false, List, [], Option, Some, None}
use Rattle.std.specs.List.{list_any}
use Rattle.std.specs.Borrow.{Bor}
use Rattle.rg_words.specs.Layout.{Word}
use Rattle.rg_tree.specs.Statements.{ProgramTree}
use Rattle.rg_tree.specs.Programs.{IsSatisfied}
use Rattle.rg_code.specs.Code.{BlockTree, program_code}
use Rattle.rg_erase.specs.Erased.{erased_program}
use Rattle.rg_erase.specs.Faults.{fault_of}
use Rattle.rg_erase.specs.Shadows.{AreShadows}
use Rattle.rg_erase.specs.declared.fault.Fault.{Fault}
use Rattle.rg_c_plan.specs.Kinds.{unplanned}
use Rattle.rg_c_plan.specs.declared.order.Rank.{Rank}
use Rattle.rg_c_plan.specs.declared.planned.Unplanned.{Unplanned}
use Rattle.rgc_commands.specs.Flagged.{stranger, flags_for}
use Rattle.rgc_commands.specs.Priority.{misordered, order_for}
use Rattle.rgc_commands.specs.Sentences.{unknown_line, fault_line, unplanned_line}

-- these words are erased from a program; what is left satisfies its specification, its runs are what stays of the program's, and these are exactly the blocks of
-- its code
pub record IsErasedBy (erased : List Bool) (p q : ProgramTree) (blocks : List (List BlockTree)) : Type 0 where
  pub erasable : fault_of erased p ≡ None
  pub is : q ≡ erased_program erased p
  pub compiled : blocks ≡ program_code q.parts
  pub shadows : AreShadows erased p q
  pub satisfied : ∥ IsSatisfied q ∥₁

-- one of the names is that of no word, and these lines report the first such one
abbrev pub NamesStranger : List Word → Option (Bor (List ℕ)) → List ℕ → Type 0
NamesStranger words None lines = ⊥
NamesStranger words (Some names) lines = (name : List ℕ) × (stranger words names.now ≡ Some name) × (lines ≡ unknown_line name)

-- some words are flagged, and they can't be erased, for a fault that these lines report, with these places for the lines of its text
pub record CantBeErased (erased : List Bool) (p : ProgramTree) (places lines : List ℕ) : Type 0 where
  pub some : list_any (λ b. b) erased ≡ true
  pub fault : Fault
  pub is : fault_of erased p ≡ Some fault
  pub line_is : lines ≡ fault_line p.words places fault

-- words of a program have to stay: one of the names is that of no word, or those that are named and flagged can't be erased
abbrev pub HaveToStay : Option (Bor (List ℕ)) → List Bool → ProgramTree → List ℕ → List ℕ → Type 0
HaveToStay names flagged p places lines = NamesStranger p.words names lines ⊎ CantBeErased (flags_for p.words names flagged) p places lines

-- whether some words are erased: it is left without those that are flagged, or whole
abbrev pub IsLeft : Bool → List Bool → ProgramTree → List (List BlockTree) → ProgramTree → List (List BlockTree) → Type 0
IsLeft true erased p code q blocks = IsErasedBy erased p q blocks
IsLeft false erased p code q blocks = (q ≡ p) × (blocks ≡ code)

-- it is left without the words that are flagged, whole where none is
abbrev pub IsLeftBy : List Bool → ProgramTree → List (List BlockTree) → ProgramTree → List (List BlockTree) → Type 0
IsLeftBy erased p code q blocks = IsLeft (list_any (λ b. b) erased) erased p code q blocks

-- there is no C for a program whose parts interrupt each other so, as these lines report, with these places for those of its text
abbrev pub IsUnplanned : List (Option Rank) → ProgramTree → List ℕ → List ℕ → Type 0
IsUnplanned order p places lines = (why : Unplanned) × (unplanned p order [] ≡ Some why) × (lines ≡ unplanned_line p.words places why)

-- its parts aren't those of which a text says which interrupt which, or there is no C
abbrev pub LacksPlan : Option (List ℕ) → ProgramTree → List ℕ → List ℕ → Type 0
LacksPlan priority p places lines = (misordered p priority ≡ Some lines) ⊎ IsUnplanned (order_for p priority) p places lines

-- the same of what is left
pub record HasNoC (IsLeft : ProgramTree → List (List BlockTree) → Type 0) (priority : Option (List ℕ)) (places lines : List ℕ) : Type 0 where
  pub left : ProgramTree
  pub blocks : List (List BlockTree)
  pub is_left : IsLeft left blocks
  pub lacks : LacksPlan priority left places lines

-- the code of a program that is built isn't had without words that are named and flagged: these have to stay; or C is asked for, with such an order of the parts, and what
-- is left has none; these places stand for the lines of its text
pub record LacksCode (IsBuilt : ProgramTree → List (List BlockTree) → Type 0) (names : Option (Bor (List ℕ))) (flagged : List Bool) (priority : Option (List ℕ)) (in_c : Bool) (places lines : List ℕ) : Type 0 where
  pub program : ProgramTree
  pub whole : List (List BlockTree)
  pub built : IsBuilt program whole
  pub why : HaveToStay names flagged program places lines ⊎ ((in_c ≡ true) × HasNoC (IsLeftBy (flags_for program.words names flagged) program whole) priority places lines)
