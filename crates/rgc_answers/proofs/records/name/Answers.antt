use Rattle.std.proofs.Common.{◌∙◌, arith}
use Rattle.rg_monitor.proofs.Names.{name_there, no_name}
use Rattle.rgc_answers.proofs.records.name.Goals as goal

pub returns-in-Some : goal.returns-in-Some
returns-in-Some c =
    let found = c.in-Some.ensures.lookup in
    c.deref.ensures ∙ name_there c.args.parts.now _ c.args.who c.in-Some.part.now (omega (arith, c.if-who-eq0.false)) found.1 found.3.0

pub returns-in-None : goal.returns-in-None
returns-in-None c =
    let missing = c.in-None.ensures.lookup in
    no_name c.args.parts.now _ c.args.who (omega (arith, c.if-who-eq0.false)) missing.3
