use Rattle.rg_parse.proofs.FaultlessTexts.{show_faultless, programs_faultless, formulas_faultless, derivations_faultless, starts_faultless, moves_faultless}
use Rattle.rg_parse.proofs.faultless.faultless_texts_spell.Goals as goal

pub returns : goal.returns
returns c = record { show = show_faultless; program = programs_faultless; formula = formulas_faultless; derivation = derivations_faultless; start = starts_faultless; moves = moves_faultless }
