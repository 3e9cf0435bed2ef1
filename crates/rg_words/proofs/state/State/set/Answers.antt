use Rattle.std.proofs.Common.{◌≡◌, ◌<◌, ◌^◌, ap}
use Rattle.std.specs.Prelude.{slice_index}
use Rattle.rg_words.proofs.Values.{AreValues-set}
use Rattle.rg_words.proofs.state.State.set.Goals as goal

pub invariant_of-self : goal.invariant_of-self
invariant_of-self c =
    let widths : c.self.inside.widths.items ≡ c.args.self.now.widths = ap (λ v. v.widths) c.self.view_is in
    let below : c.args.value < 2 ^ slice_index c.self.inside.widths.items c.args.word = rw widths c.requires.value in
    AreValues-set c.self.inside.widths.items c.self.inside.values.items c.args.word c.args.value c.self.invariant below
