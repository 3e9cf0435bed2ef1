use Rattle.std.proofs.Common.{◌∙◌, sym, arith}
use Rattle.rg_hint_lines.proofs.ZippedLines.{parts, no_head}
use Rattle.rg_hint_lines.proofs.lines.Lines.hints.Goals as goal

pub row-requires : goal.row-requires
row-requires c =
    let a = c.self.inside in
    let p = parts a.given a.heads.items a.literals a.hints c.args.self.now c.self.invariant c.self.view_is in
    omega (arith, p.hints_length, c.requires)

pub returns : goal.returns
returns c =
    let a = c.self.inside in
    let p = parts a.given a.heads.items a.literals a.hints c.args.self.now c.self.invariant c.self.view_is in
    c.row.ensures ∙ sym (p.at c.args.index no_head c.requires).hints_
