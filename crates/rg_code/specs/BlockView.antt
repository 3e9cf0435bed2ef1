-- Blocks of the code, without where they lie in memory.
use Rattle.std.specs.Prelude.{List, map}
use Rattle.rg_code.specs.declared.block.Store.{Store}
use Rattle.rg_code.specs.declared.block.Block.{Block}
use Rattle.rg_code.specs.declared.block.Block.TheVariants.{Do, Await, Test, End}
use Rattle.rg_code.specs.declared.code.PartCode.{PartCode}
use Rattle.rg_code.specs.Code.{StoreTree, BlockTree, do_block, await_block, test_block, end_block}

-- a store of the code, without where it lies in memory
abbrev pub store : Store → StoreTree
store a = record { target = a.word; value = a.value.items }

-- a block of the code, without where it lies in memory
abbrev pub block : Block → BlockTree
block (Do row next act) = do_block row next (map store act.items)
block (Await row next b act) = await_block row next b.items (map store act.items)
block (Test row yes_place no_place b) = test_block row yes_place no_place b.items
block End = end_block

-- the blocks of a part
abbrev pub blocks : PartCode → List BlockTree
blocks p = map block p.blocks.items
