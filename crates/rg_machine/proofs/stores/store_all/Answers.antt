use Rattle.std.proofs.Common.{arith, rules}
use Rattle.rg_machine.proofs.Lookups.{store_at, room_at}
use Rattle.rg_machine.proofs.stores.store_all.Goals as goal

pub store_one-requires-clause-legal : goal.store_one-requires-clause-legal
store_one-requires-clause-legal c =
    store_at c.args.layout.now c.args.act.now c.loop-store.store-index c.store-item.result c.requires.legal (search rules) (search rules)

pub store_one-requires-clause-room : goal.store_one-requires-clause-room
store_one-requires-clause-room c =
    let h = room_at c.args.act.now c.loop-store.store-index c.store-item.result (search rules) (search rules) in
    omega (arith, h, c.requires.room, c.loop-store.invariant.capacity)
