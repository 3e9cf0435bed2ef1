-- What a configuration keeps.
use Rattle.std.specs.Prelude.{◌≡◌, ℕ, ◌<◌, ◌≤◌, max, List, [], ◌∷◌, length}
use Rattle.rg_words.specs.Layout.{Word, widths_of}
use Rattle.rg_code.specs.Code.{StoreTree, BlockTree, do_block, await_block, test_block, end_block}

-- each part stands at a block of its code
abbrev pub AreAtBlocks : List (List BlockTree) → List ℕ → Type 0
AreAtBlocks [] [] = Unit {0}
AreAtBlocks (c ∷ cs) (k ∷ ks) = (k < length c) × AreAtBlocks cs ks
AreAtBlocks [] (k ∷ ks) = ⊥
AreAtBlocks (c ∷ cs) [] = ⊥

-- the most operations of one of these stores
abbrev pub stores_room : List StoreTree → ℕ
stores_room [] = 0
stores_room (a ∷ act) = max (length a.value) (stores_room act)

-- the most operations of one list in a block
abbrev pub block_room : BlockTree → ℕ
block_room (do_block row next act) = stores_room act
block_room (await_block row next b act) = max (length b) (stores_room act)
block_room (test_block row yes_place no_place b) = length b
block_room end_block = 0

-- the same in the code of a part
abbrev pub blocks_room : List BlockTree → ℕ
blocks_room [] = 0
blocks_room (b ∷ bs) = max (block_room b) (blocks_room bs)

-- the same in the code of all parts
abbrev pub codes_room : List (List BlockTree) → ℕ
codes_room [] = 0
codes_room (c ∷ cs) = max (blocks_room c) (codes_room cs)

-- the state has the words' widths, the parts stand at blocks, and the stack has room
pub record IsKept (words : List Word) (codes : List (List BlockTree)) (kept_widths places : List ℕ) (space : ℕ) : Type 0 where
  pub widths : kept_widths ≡ widths_of words
  pub at_blocks : AreAtBlocks codes places
  pub room : codes_room codes ≤ space
