-- That code is legal in one way at most, as a fact that is kept with a value must.
use Rattle.std.specs.Prelude.{◌≡◌, ℕ, ◌^◌, Bool, List, [], ◌∷◌, Option, Some, None, length, slice_index}
use Rattle.std.specs.Coded.{×_prop, Π_prop, Unit-prop, le_prop, Coded-set, coded_bool}
use Rattle.rg_words.specs.Layout.{Word, widths_of}
use Rattle.rg_code.specs.declared.operation.Operation.{Operation}
use Rattle.rg_code.specs.declared.operation.Operation.TheVariants as variants
use Rattle.rg_code.specs.Operations.{left_by}
use Rattle.rg_code.specs.Code.{StoreTree, BlockTree, do_block, await_block, test_block, end_block}
use Rattle.rg_code.specs.Legal.{OperationFits, OperationsFit, IsBelow, LeavesBelow, IsLegalStore, AreLegalStores, IsLegalBlock, AreLegalBlocks, EndsOnce, AreLegalParts}

same_bool : {a b : Bool} → IsProp (a ≡ b)
same_bool = Coded-set coded_bool _ _

nothing : IsProp ⊥
nothing a b = absurd a

operation-prop : (n : ℕ) (o : Operation) → IsProp (OperationFits n o)
operation-prop n (variants.Number k) = Unit-prop
operation-prop n (variants.Word k) = le_prop
operation-prop n (variants.Inverse w) = le_prop
operation-prop n (variants.Binary o w) = le_prop
operation-prop n (variants.Shifted d w k) = ×_prop le_prop le_prop
operation-prop n variants.Pick = Unit-prop
operation-prop n (variants.Compare c) = Unit-prop
operation-prop n (variants.Truth b) = Unit-prop
operation-prop n variants.Not = Unit-prop
operation-prop n (variants.Connect c) = Unit-prop

operations-prop : (n : ℕ) (os : List Operation) → IsProp (OperationsFit n os)
operations-prop n [] = Unit-prop
operations-prop n (o ∷ os) = ×_prop (operation-prop n o) (operations-prop n os)

below-prop : (bound : ℕ) (o : Option ℕ) → IsProp (IsBelow bound o)
below-prop bound None = nothing
below-prop bound (Some x) = le_prop

leaves-prop : (words : List Word) (bound : ℕ) (os : List Operation) → IsProp (LeavesBelow words bound os)
leaves-prop words bound os =
    ×_prop (operations-prop (length words) os) (Π_prop λ s. Π_prop λ _. below-prop bound (left_by os s))

store-prop : (words : List Word) (a : StoreTree) → IsProp (IsLegalStore words a)
store-prop words a = hlevel (le_prop, same_bool, leaves-prop words (2 ^ slice_index (widths_of words) a.target) a.value)

stores-prop : (words : List Word) (act : List StoreTree) → IsProp (AreLegalStores words act)
stores-prop words [] = Unit-prop
stores-prop words (a ∷ act) = ×_prop (store-prop words a) (stores-prop words act)

block-prop : (words : List Word) (n : ℕ) (b : BlockTree) → IsProp (IsLegalBlock words n b)
block-prop words n (do_block row next act) = ×_prop le_prop (stores-prop words act)
block-prop words n (await_block row next b act) = hlevel (le_prop, leaves-prop words 2 b, stores-prop words act)
block-prop words n (test_block row yes_place no_place b) = hlevel (le_prop, leaves-prop words 2 b)
block-prop words n end_block = Unit-prop

blocks-prop : (words : List Word) (n : ℕ) (bs : List BlockTree) → IsProp (AreLegalBlocks words n bs)
blocks-prop words n [] = Unit-prop
blocks-prop words n (b ∷ bs) = ×_prop (block-prop words n b) (blocks-prop words n bs)

ends-prop : (bs : List BlockTree) → IsProp (EndsOnce bs)
ends-prop [] = nothing
ends-prop (b ∷ []) = same_bool
ends-prop (b ∷ c ∷ bs) = ×_prop same_bool (ends-prop (c ∷ bs))

pub AreLegalParts-prop : (words : List Word) (cs : List (List BlockTree)) → IsProp (AreLegalParts words cs)
AreLegalParts-prop words [] = Unit-prop
AreLegalParts-prop words (c ∷ cs) = hlevel (blocks-prop words (length c) c, ends-prop c, AreLegalParts-prop words cs)
