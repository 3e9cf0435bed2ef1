-- Flat code: blocks with targets, one place for each part, its runs, and the code of a program.
use Rattle.std.specs.Prelude.{◌≡◌, ◌≢◌, ℕ, suc, ◌+◌, Bool, true, false, ◌&&◌, List, [], ◌∷◌, ◌++◌, if◌then◌else◌, Option, Some, None, option_and_then, option_map, map, slice_get, slice_set, length, ◌↔◌}
use Rattle.rg_words.specs.Layout.{Word}
use Rattle.rg_tree.specs.Trees.{Assignment}
use Rattle.rg_tree.specs.Statements.{Statement, skip, assign, await, sequence, branch, loop, Items, one, more, PartTree, ProgramTree}
use Rattle.rg_tree.specs.Traces.{State, Step, IsTraceOf}
use Rattle.rg_tree.specs.Programs.{IsRun}
use Rattle.rg_code.specs.Operations.{left_by, reported_by, expression_operations, formula_operations}
use Rattle.rg_code.specs.declared.operation.Operation.{Operation}

-- a store: the number that the operations leave goes to a word
pub record StoreTree : Type 0 where
  pub target : ℕ
  pub value : List Operation

-- a block: its line, the places that it leads to, its guard, and its stores
pub data BlockTree : Type 0 where
  do_block : ℕ → ℕ → List StoreTree → BlockTree
  await_block : ℕ → ℕ → List Operation → List StoreTree → BlockTree
  test_block : ℕ → ℕ → ℕ → List Operation → BlockTree
  end_block : BlockTree

-- the state after stores, in order, if the operations of each leave a number
abbrev pub stored : List StoreTree → State → Option State
stored [] s = Some s
stored (a ∷ act) s = option_and_then (λ x. stored act (slice_set s a.target x)) (left_by a.value s)

-- the block may lead from s to t, and to this place
abbrev pub Makes_step : Option BlockTree → State → State → ℕ → Type 0
Makes_step None s t to = ⊥
Makes_step (Some (do_block row next act)) s t to = (stored act s ≡ Some t) × (to ≡ next)
Makes_step (Some (await_block row next b act)) s t to = (reported_by b s ≡ Some true) × (stored act s ≡ Some t) × (to ≡ next)
Makes_step (Some (test_block row yes_place no_place b)) s t to = (t ≡ s) × (option_map (λ v. if v then yes_place else no_place) (reported_by b s) ≡ Some to)
Makes_step (Some end_block) s t to = ⊥

-- there is a block, and it is an end
abbrev pub is_end : Option BlockTree → Bool
is_end None = false
is_end (Some (do_block row next act)) = false
is_end (Some (await_block row next b act)) = false
is_end (Some (test_block row yes_place no_place b)) = false
is_end (Some end_block) = true

-- one step of the code of all parts, numbered from i: the part who makes it goes on from its place, all others stay
abbrev pub PlacesGo : ℕ → List (List BlockTree) → List ℕ → List ℕ → State → Step → Type 0
PlacesGo i [] [] [] s x = Unit {0}
PlacesGo i (c ∷ cs) (k ∷ ks) (k' ∷ ks') s x =
    (x.who ≡ i → Makes_step (slice_get c k) s x.after k') × (x.who ≢ i → k' ≡ k) × PlacesGo (suc i) cs ks ks' s x
PlacesGo i _ _ _ s x = ⊥

-- each part's place is an end of its code
abbrev pub all_at_end : List (List BlockTree) → List ℕ → Bool
all_at_end (c ∷ cs) (k ∷ ks) = is_end (slice_get c k) && all_at_end cs ks
all_at_end _ _ = true

-- runs of the code of all parts from these places. It has ended where each place is an end
abbrev pub AllCodeRuns : List (List BlockTree) → List ℕ → State → List Step → Bool → Type 0
AllCodeRuns codes places s [] ended = ended ≡ all_at_end codes places
AllCodeRuns codes places s (x ∷ xs) ended =
    (places' : List ℕ) × PlacesGo 1 codes places places' s x × AllCodeRuns codes places' x.after xs ended

-- the first place of each part's code
abbrev pub zeros : List (List BlockTree) → List ℕ
zeros [] = []
zeros (c ∷ cs) = 0 ∷ zeros cs

-- a run of the code from the first places
pub record IsCodeRun (words : List Word) (codes : List (List BlockTree)) (s : State) (xs : List Step) (ended : Bool) : Type 0 where
  pub trace : IsTraceOf words (length codes) s xs
  pub run : AllCodeRuns codes (zeros codes) s xs ended

-- how many blocks a statement has: one for each statement in it that is no sequence
abbrev mutual
  pub count_of : Statement → ℕ
  count_of (skip row) = 1
  count_of (assign row a) = 1
  count_of (await row b act) = 1
  count_of (sequence row s items) = count_of s + count_of_items items
  count_of (branch row b s t) = suc (count_of s + count_of t)
  count_of (loop row b s) = suc (count_of s)

  pub count_of_items : Items → ℕ
  count_of_items (one s) = count_of s
  count_of_items (more s items) = count_of s + count_of_items items

-- the store of an assignment
abbrev pub store_of : Assignment → StoreTree
store_of a = record { target = a.target; value = expression_operations a.value }

-- the blocks of a statement whose first block stands at place first, and after which comes the block at place next
abbrev mutual
  pub code_of : Statement → ℕ → ℕ → List BlockTree
  code_of (skip row) first next = do_block row next [] ∷ []
  code_of (assign row a) first next = do_block row next (store_of a ∷ []) ∷ []
  code_of (await row b act) first next = await_block row next (formula_operations b) (map store_of act) ∷ []
  code_of (sequence row s items) first next = code_of s first (first + count_of s) ++ code_of_items items (first + count_of s) next
  code_of (branch row b s t) first next =
      test_block row (suc first) (suc first + count_of s) (formula_operations b) ∷ (code_of s (suc first) next ++ code_of t (suc first + count_of s) next)
  code_of (loop row b s) first next = test_block row (suc first) next (formula_operations b) ∷ code_of s (suc first) first

  pub code_of_items : Items → ℕ → ℕ → List BlockTree
  code_of_items (one s) first next = code_of s first next
  code_of_items (more s items) first next = code_of s first (first + count_of s) ++ code_of_items items (first + count_of s) next

-- the code of a part's body, with its end
abbrev pub part_code : Statement → List BlockTree
part_code s = code_of s 0 (count_of s) ++ end_block ∷ []

-- the code of each part, in their order
abbrev pub program_code : List PartTree → List (List BlockTree)
program_code [] = []
program_code (p ∷ ps) = part_code p.body ∷ program_code ps

-- the code has exactly the program's runs
abbrev pub HasRunsOf : ProgramTree → List (List BlockTree) → Type 0
HasRunsOf program codes =
    (s : State) (xs : List Step) (ended : Bool) → IsCodeRun program.words codes s xs ended ↔ IsRun program s xs ended

-- the code of each program has exactly its runs
abbrev pub CompilerIsRight : Type 0
CompilerIsRight = (program : ProgramTree) → HasRunsOf program (program_code program.parts)
