use Rattle.rg_syntax.specs.declared.text_kind.TextKind.TheVariants as texts
use Rattle.rg_resolve.specs.Settings.{StartStandsFor, MovesStandFor}
use Rattle.rg_resolve.proofs.Set.{one_start, one_list_of_moves}
use Rattle.rg_parse.proofs.Spelled.{one_spelled}
use Rattle.rg_parse.proofs.inputs.one_reading.Goals as goal

pub returns-clause-start : goal.returns-clause-start
returns-clause-start c = λ words source s t. one_spelled texts.Start (StartStandsFor words) (one_start words) source s t

pub returns-clause-moves : goal.returns-clause-moves
returns-clause-moves c = λ words source ms ns. one_spelled texts.Moves (MovesStandFor words) (one_list_of_moves words) source ms ns
