use Rattle.rg_rules.proofs.Lines.{rules_are_sound}
use Rattle.rg_rules.proofs.laws.rules_are_sound.Goals as goal

pub returns : goal.returns
returns c = rules_are_sound
