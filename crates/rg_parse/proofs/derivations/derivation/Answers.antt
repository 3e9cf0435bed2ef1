use Rattle.rg_parse.proofs.derivations.derivation.Goals as goal

pub returns-clause-accepts : goal.returns-clause-accepts
returns-clause-accepts c = λ ls last spelled. c.read_with_last_line.ensures.accepts ls spelled.spells
