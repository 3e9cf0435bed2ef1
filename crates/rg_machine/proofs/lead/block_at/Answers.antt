use Rattle.std.proofs.Common.{◌-◌, ◌<◌, length, arith, rules}
use Rattle.std.proofs.lemmas.List.{length-map}
use Rattle.rg_code.specs.BlockView.{blocks, block}
use Rattle.rg_code.specs.CodeTrees.{code_blocks}
use Rattle.rg_machine.proofs.Steps.{place_in, found_at, legal_at}
use Rattle.rg_machine.proofs.lead.block_at.Goals as goal

pub bounds-places-part : goal.bounds-places-part
bounds-places-part c =
    let size = length-map c.args.code.now.parts.items blocks in
    let less : c.args.part - 1 < length c.args.code.now.parts.items = omega (arith, size, c.requires.part.0, c.requires.part.1) in
    (place_in c.args.code.now.parts.items c.args.places.now (c.args.part - 1) c.index.result.now c.requires.places less c.index.ensures).0

pub offset_bounds-places-part : goal.offset_bounds-places-part
offset_bounds-places-part c =
    let size = length-map c.args.code.now.parts.items blocks in
    let less : c.args.part - 1 < length c.args.code.now.parts.items = omega (arith, size, c.requires.part.0, c.requires.part.1) in
    let h = (place_in c.args.code.now.parts.items c.args.places.now (c.args.part - 1) c.index.result.now c.requires.places less c.index.ensures).0 in
    search (rules, h)

pub index-requires-2 : goal.index-requires-2
index-requires-2 c =
    let size = length-map c.args.code.now.parts.items blocks in
    let less : c.args.part - 1 < length c.args.code.now.parts.items = omega (arith, size, c.requires.part.0, c.requires.part.1) in
    let h = (place_in c.args.code.now.parts.items c.args.places.now (c.args.part - 1) c.index.result.now c.requires.places less c.index.ensures).1 in
    omega (arith, h, c.index.result.now.blocks.ok.0)

pub returns-clause-found : goal.returns-clause-found
returns-clause-found c =
    let size = length-map c.args.code.now.parts.items blocks in
    let less : c.args.part - 1 < length c.args.code.now.parts.items = omega (arith, size, c.requires.part.0, c.requires.part.1) in
    found_at c.args.code.now.parts.items c.args.places.now (c.args.part - 1) c.index.result.now c.requires.places less c.index.ensures c.index-2.result.now c.index-2.ensures

pub returns-clause-legal : goal.returns-clause-legal
returns-clause-legal c =
    (legal_at c.args.code.now.layout (code_blocks c.args.code.now) (c.args.part - 1) _ (block c.index-2.result.now) c.args.code.now.legal (returns-clause-found c)).0

pub returns-clause-room : goal.returns-clause-room
returns-clause-room c =
    (legal_at c.args.code.now.layout (code_blocks c.args.code.now) (c.args.part - 1) _ (block c.index-2.result.now) c.args.code.now.legal (returns-clause-found c)).1
