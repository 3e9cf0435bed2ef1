-- What all code keeps, whatever made it.
use Rattle.std.specs.Prelude.{◌≡◌, ℕ, ◌<◌, ◌≤◌, ◌^◌, true, false, List, [], ◌∷◌, Option, Some, None, length, get_or, slice_index}
use Rattle.rg_words.specs.Layout.{Word, widths_of, fixed_of}
use Rattle.rg_words.specs.States.{IsState}
use Rattle.rg_words.specs.declared.limits.TheConstants.{MOST_WIDTH, MOST_SHIFT}
use Rattle.rg_tree.specs.Traces.{State}
use Rattle.rg_code.specs.declared.operation.Operation.{Operation}
use Rattle.rg_code.specs.declared.operation.Operation.TheVariants as variants
use Rattle.rg_code.specs.Operations.{left_by}
use Rattle.rg_code.specs.Code.{StoreTree, BlockTree, do_block, await_block, test_block, end_block, is_end}

-- an operation over n words: its word is there, its width and its shift count are within the limits
abbrev pub OperationFits : ℕ → Operation → Type 0
OperationFits n (variants.Word k) = k < n
OperationFits n (variants.Inverse w) = w ≤ MOST_WIDTH
OperationFits n (variants.Binary o w) = w ≤ MOST_WIDTH
OperationFits n (variants.Shifted d w k) = (w ≤ MOST_WIDTH) × (k ≤ MOST_SHIFT)
OperationFits n _ = Unit {0}

-- each of these operations speaks of the first n words alone
abbrev pub OperationsFit : ℕ → List Operation → Type 0
OperationsFit n [] = Unit {0}
OperationsFit n (o ∷ os) = OperationFits n o × OperationsFit n os

-- the number is there, and is below the bound
abbrev pub IsBelow : ℕ → Option ℕ → Type 0
IsBelow bound None = ⊥
IsBelow bound (Some x) = x < bound

-- in every state of the words the operations find their operands and leave one number, which is below the bound
abbrev pub LeavesBelow : List Word → ℕ → List Operation → Type 0
LeavesBelow words bound os = OperationsFit (length words) os × ((s : State) → IsState words s → IsBelow bound (left_by os s))

-- the store is to a word that isn't fixed, and within its width
abbrev pub IsLegalStore : List Word → StoreTree → Type 0
IsLegalStore words a =
    (a.target < length words) × (get_or (fixed_of words) a.target false ≡ false) × LeavesBelow words (2 ^ slice_index (widths_of words) a.target) a.value

-- each of these stores is legal
abbrev pub AreLegalStores : List Word → List StoreTree → Type 0
AreLegalStores words [] = Unit {0}
AreLegalStores words (a ∷ act) = IsLegalStore words a × AreLegalStores words act

-- a block of a part with n blocks: it leads to these alone, its guard leaves a truth value, and its stores are legal
abbrev pub IsLegalBlock : List Word → ℕ → BlockTree → Type 0
IsLegalBlock words n (do_block row next act) = (next < n) × AreLegalStores words act
IsLegalBlock words n (await_block row next b act) = (next < n) × LeavesBelow words 2 b × AreLegalStores words act
IsLegalBlock words n (test_block row yes_place no_place b) = (yes_place < n) × (no_place < n) × LeavesBelow words 2 b
IsLegalBlock words n end_block = Unit {0}

-- each of these blocks is legal, in a part with n blocks
abbrev pub AreLegalBlocks : List Word → ℕ → List BlockTree → Type 0
AreLegalBlocks words n [] = Unit {0}
AreLegalBlocks words n (b ∷ bs) = IsLegalBlock words n b × AreLegalBlocks words n bs

-- the last block is an end, and no other is
abbrev pub EndsOnce : List BlockTree → Type 0
EndsOnce [] = ⊥
EndsOnce (b ∷ []) = is_end (Some b) ≡ true
EndsOnce (b ∷ c ∷ bs) = (is_end (Some b) ≡ false) × EndsOnce (c ∷ bs)

-- the code of all parts, over these words
abbrev pub AreLegalParts : List Word → List (List BlockTree) → Type 0
AreLegalParts words [] = Unit {0}
AreLegalParts words (c ∷ cs) = AreLegalBlocks words (length c) c × EndsOnce c × AreLegalParts words cs
