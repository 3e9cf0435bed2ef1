use Rattle.std.proofs.Common.{Bool, List, subst, sym}
use Rattle.rgc_commands.specs.Code.{AreAmong}
use Rattle.rgc_commands.proofs.Apart.{among_itself}
use Rattle.rgc_commands.proofs.code.kinds_of.Goals as goal

pub loop-init : goal.loop-init
loop-init c = subst (λ (flags : List Bool). AreAmong flags c.args.apart.now) (sym c.in_ok-some.ensures.items) (among_itself c.args.apart.now)
