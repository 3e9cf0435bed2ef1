use Rattle.std.proofs.Common.{map, Vec, inl, sym, ap, subst}
use Rattle.std.specs.Global.{Global}
use Rattle.rg_tree.specs.declared.line.DerivationLine.{DerivationLine}
use Rattle.rg_tree.specs.Lines.{line_tree}
use Rattle.rg_tree.specs.ProgramTrees.{program as program_tree}
use Rattle.rg_rules.specs.Faults.{Derives}
use Rattle.rg_rules.specs.Reading.{FitsProgram}
use Rattle.rg_rules.proofs.Reading.{lines_fit, lines_refused, lines_accepted}
use Rattle.rg_rules.proofs.derivation.Derivation.read.Goals as goal

pub returns-in-Err-clause-refused : goal.returns-in-Err-clause-refused
returns-in-Err-clause-refused c = inl c.in-Err.ensures.refused

pub returns-in-Err-clause-accepts : goal.returns-in-Err-clause-accepts
returns-in-Err-clause-accepts c = λ ls fits. c.in-Err.ensures.accepts ls fits.last fits.spelled

pub returns-in-Ok-of_lines-clause-fits : goal.returns-in-Ok-of_lines-clause-fits
returns-in-Ok-of_lines-clause-fits c =
    let lines = ap (λ (l : Vec DerivationLine Global). map line_tree l.items) c.in-Ok-of_lines.ensures.lines in
    let fits = lines_fit (program_tree c.args.program.now) c.args.source.now _ _ c.in-Ok.ensures.spells in
    subst (λ l. FitsProgram (program_tree c.args.program.now) c.args.source.now l) (sym lines) (fits (subst (λ l. Derives (program_tree c.args.program.now).parts l) lines c.in-Ok-of_lines.ensures.derives))

pub returns-in-Err-of_lines-clause-refused : goal.returns-in-Err-of_lines-clause-refused
returns-in-Err-of_lines-clause-refused c = lines_refused (program_tree c.args.program.now) c.args.source.now _ _ c.in-Ok.ensures.spells _ c.in-Err-of_lines.ensures.fault

pub returns-in-Err-of_lines-clause-accepts : goal.returns-in-Err-of_lines-clause-accepts
returns-in-Err-of_lines-clause-accepts c = λ ls fits. lines_accepted (program_tree c.args.program.now) c.args.source.now _ _ c.in-Ok.ensures.spells _ ls fits c.in-Err-of_lines.ensures.fault
