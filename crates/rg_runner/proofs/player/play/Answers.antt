use Rattle.std.proofs.Common.{length, ap, arith}
use Rattle.rg_runner.proofs.Opening.{some_part}
use Rattle.rg_runner.proofs.player.play.Goals as goal

pub play_at-requires-clause-some : goal.play_at-requires-clause-some
play_at-requires-clause-some g c =
    let some = some_part (g.E.Checked.program_of c.args.checked.now) (g.E.Checked.code_of c.args.checked.now) (g.met.E.Checked.lawful c.args.checked.now) in
    let count = ap (λ x. length x.parts.items) c.code.ensures in
    omega (arith, some, count, c.new-blank.ensures)
