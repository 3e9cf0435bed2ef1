use Rattle.std.proofs.Common.{◌∙◌, sym, arith, ap}
use Rattle.rg_hint_lines.specs.declared.lines.Head.{Head}
use Rattle.rg_hint_lines.proofs.ZippedLines.{parts}
use Rattle.rg_hint_lines.proofs.lines.Lines.text_line.Goals as goal

pub index-requires : goal.index-requires
index-requires c =
    let a = c.self.inside in
    let p = parts a.given a.heads.items a.literals a.hints c.args.self.now c.self.invariant c.self.view_is in
    omega (arith, p.heads_length, a.heads.ok.0, c.requires)

pub returns : goal.returns
returns c =
    let a = c.self.inside in
    let p = parts a.given a.heads.items a.literals a.hints c.args.self.now c.self.invariant c.self.view_is in
    ap (λ (h : Head). h.text_line) c.index.ensures ∙ sym (p.at c.args.index c.index.result.now c.requires).text_line
