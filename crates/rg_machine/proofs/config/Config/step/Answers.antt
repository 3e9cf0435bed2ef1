use Rattle.std.proofs.Common.{◌-◌, ◌<◌, ◌∙◌, length, refl, arith}
use Rattle.rg_code.specs.BlockView.{block}
use Rattle.rg_code.specs.CodeTrees.{code_blocks}
use Rattle.rg_code.proofs.LegalSteps.{block_steps_are_pairs}
use Rattle.rg_machine.proofs.Steps.{place_below, goes, set_at}
use Rattle.rg_machine.proofs.config.Config.step.Goals as goal

pub index_mut-requires : goal.index_mut-requires
index_mut-requires c =
    let codes = code_blocks c.self.inside.code.now in
    let part = rw (← c.self.view_is) at c.requires in
    let less : c.args.part - 1 < length codes = omega (arith, part.0, part.1) in
    let h = (place_below codes c.self.inside.places.items (c.args.part - 1) c.self.invariant.at_blocks less).0 in
    omega (arith, h, c.self.inside.places.ok.0)

pub invariant_of-self : goal.invariant_of-self
invariant_of-self c =
    let code = c.self.inside.code.now in
    let st = rw c.self.invariant.widths at c.facts.ensures.state in
    let made = c.in-Some.ensures.made in
    let pair = block_steps_are_pairs code.layout _ (block c.block_at-block.result.now) c.self.inside.state.values c.lead.new.state.values c.in-Some.to c.block_at-block.ensures.legal st made in
    record {
      widths = c.in-Some.ensures.widths ∙ c.self.invariant.widths;
      at_blocks = set_at (code_blocks code) c.self.inside.places.items (c.args.part - 1) c.in-Some.to c.self.invariant.at_blocks pair.1;
      room = omega (arith, c.in-Some.ensures.capacity, c.self.invariant.room);
    }

pub returns-in-Some : goal.returns-in-Some
returns-in-Some c =
    let code = c.self.inside.code.now in
    let codes = code_blocks code in
    let part = rw (← c.self.view_is) at c.requires in
    let less : c.args.part - 1 < length codes = omega (arith, part.0, part.1) in
    let st = rw c.self.invariant.widths at c.facts.ensures.state in
    let made = c.in-Some.ensures.made in
    let found = rw c.deref.ensures.value at c.block_at-block.ensures.found in
    let pair = block_steps_are_pairs code.layout _ (block c.block_at-block.result.now) c.self.inside.state.values c.lead.new.state.values c.in-Some.to c.block_at-block.ensures.legal st made in
    rw (← c.self.view_is)
    (record {
      words = refl;
      codes = refl;
      goes = goes 1 codes c.self.inside.places.items (c.args.part - 1) c.in-Some.to c.self.inside.state.values (record { who = c.args.part; after = c.lead.new.state.values }) c.self.invariant.at_blocks less (omega (arith, part.0)) (rw found made);
      pair = pair.0;
    })
