use Rattle.std.proofs.Common.{◌∙◌}
use Rattle.rg_hint_lines.proofs.ZippedLines.{parts}
use Rattle.rg_hint_lines.proofs.lines.Lines.len.Goals as goal

pub returns-clause-value : goal.returns-clause-value
returns-clause-value c =
    let a = c.self.inside in
    let p = parts a.given a.heads.items a.literals a.hints c.args.self.now c.self.invariant c.self.view_is in
    c.len.ensures ∙ a.heads.ok.0 ∙ p.heads_length
