use Rattle.std.proofs.Common.{refl, arith}
use Rattle.std.proofs.lemmas.List.{length-map}
use Rattle.rg_tree.specs.ProgramView.{part}
use Rattle.rg_outline_meaning.specs.View.{outline, known, knowns}
use Rattle.rg_outline_meaning.proofs.Placed.{at_place}
use Rattle.rg_outline_meaning.proofs.ProgramRules.{truncated, one_part}
use Rattle.rg_outline_meaning.proofs.names.Reader.after_part.Goals as goal

pub returns-clause-known : goal.returns-clause-known
returns-clause-known c =
    let r = c.args.self.now in
    truncated c.want_part.new.self c.len-count.result c.truncate.new.self.items (knowns r) c.truncate.ensures.items
    (c.in_ok-want_part.ensures.part.longer c.len-count.result (omega (arith, r.known.ok.0, length-map r.known.items (known (outline r)))))

pub returns-clause-part : goal.returns-clause-part
returns-clause-part c =
    let p = c.in-Some.part.now in
    let found = c.in-Some.ensures.lookup in
    (part p, one_part c.args.parts.now c.args.place _ p (at_place c.args.parts.now c.args.place p found.1 found.3.0) refl, c.in_ok-want_part.ensures.part.stands)
