use Rattle.rgc_commands.proofs.Apart.{among_cleared}
use Rattle.rgc_commands.proofs.code.clear.Goals as goal

pub returns : goal.returns
returns c = λ those among. among_cleared _ those c.args.word among
