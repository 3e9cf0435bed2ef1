use Rattle.std.proofs.Common.{◌∙◌, sym, arith}
use Rattle.rg_hint_lines.specs.Lines.{no_line}
use Rattle.rg_hint_lines.proofs.ZippedLines.{parts, no_head}
use Rattle.rg_hint_lines.proofs.lines.Lines.literals.Goals as goal

pub row-requires : goal.row-requires
row-requires c =
    let a = c.self.inside in
    let p = parts a.given a.heads.items a.literals a.hints c.args.self.now c.self.invariant c.self.view_is in
    omega (arith, p.literals_length, c.requires)

pub returns-clause-value : goal.returns-clause-value
returns-clause-value c =
    let a = c.self.inside in
    let p = parts a.given a.heads.items a.literals a.hints c.args.self.now c.self.invariant c.self.view_is in
    c.row.ensures ∙ sym (p.at c.args.index no_head c.requires).literals_

pub returns-clause-literals : goal.returns-clause-literals
returns-clause-literals c =
    let a = c.self.inside in
    let p = parts a.given a.heads.items a.literals a.hints c.args.self.now c.self.invariant c.self.view_is in
    rw (c.row.ensures ∙ sym (p.at c.args.index no_head c.requires).literals_) (p.section.each c.args.index no_line c.requires).literals

pub returns-clause-section : goal.returns-clause-section
returns-clause-section c =
    let a = c.self.inside in
    let p = parts a.given a.heads.items a.literals a.hints c.args.self.now c.self.invariant c.self.view_is in
    p.section
