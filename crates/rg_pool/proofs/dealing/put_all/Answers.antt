use Rattle.std.proofs.Common.{ℕ, ◌<◌, arith}
use Rattle.std.specs.Prelude.{vec_len, length}
use Rattle.std.proofs.lemmas.List.Elements.{All-contains}
use Rattle.rg_pool.proofs.DealSteps.{last_in, others_in, fills_more}
use Rattle.rg_pool.proofs.dealing.put_all.Goals as goal

pub index_mut-requires : goal.index_mut-requires
index_mut-requires g c =
    let inv = c.loop-index.invariant in
    let one : ℕ × g.row.X.Denot = (c.in-Some.index, c.in-Some.answer) in
    let taken = inv.left one (last_in c.loop-index.answers.items c.pop.new.self.items one c.in-Some.ensures.items) in
    let below : c.in-Some.index < vec_len c.args.places.now = All-contains (λ a. a.0 < vec_len c.args.places.now) c.args.answers.items one c.requires taken in
    omega (arith, below, inv.filled.size, c.args.places.now.ok.0, c.loop-index.places.ok.0)

pub loop-index-preserved-in-Some : goal.loop-index-preserved-in-Some
loop-index-preserved-in-Some g c =
    let inv = c.loop-index.invariant in
    let one : ℕ × g.row.X.Denot = (c.in-Some.index, c.in-Some.answer) in
    let items = c.in-Some.ensures.items in
    let taken = inv.left one (last_in c.loop-index.answers.items c.pop.new.self.items one items) in
    let below : c.in-Some.index < vec_len c.args.places.now = All-contains (λ a. a.0 < vec_len c.args.places.now) c.args.answers.items one c.requires taken in
    let small : c.in-Some.index < length c.loop-index.places.items = omega (arith, below, inv.filled.size, c.args.places.now.ok.0) in
    record {
      filled = fills_more c.args.answers.items c.args.places.now.items c.loop-index.places.items inv.filled c.in-Some.index c.in-Some.answer taken small;
      left = λ a h. inv.left a (others_in c.loop-index.answers.items c.pop.new.self.items one items a h);
    }

pub loop-index-preserved : goal.loop-index-preserved
loop-index-preserved g c =
    let inv = c.loop-index.invariant in
    let one : ℕ × g.row.X.Denot = (c.in-Some.index, c.in-Some.answer) in
    let items = c.in-Some.ensures.items in
    let taken = inv.left one (last_in c.loop-index.answers.items c.pop.new.self.items one items) in
    let below : c.in-Some.index < vec_len c.args.places.now = All-contains (λ a. a.0 < vec_len c.args.places.now) c.args.answers.items one c.requires taken in
    let small : c.in-Some.index < length c.loop-index.places.items = omega (arith, below, inv.filled.size, c.args.places.now.ok.0) in
    record {
      filled = fills_more c.args.answers.items c.args.places.now.items c.loop-index.places.items inv.filled c.in-Some.index c.in-Some.answer taken small;
      left = λ a h. inv.left a (others_in c.loop-index.answers.items c.pop.new.self.items one items a h);
    }
