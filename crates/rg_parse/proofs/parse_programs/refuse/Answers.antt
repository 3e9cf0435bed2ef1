use Rattle.std.proofs.Common.{sym, ◌∙◌}
use Rattle.rg_parse.proofs.ParseLemmas.{statement_first, fault_first}
use Rattle.rg_parse.proofs.parse_programs.refuse.Goals as goal

pub returns-in-Some : goal.returns-in-Some
returns-in-Some c = record {
  refused = λ src.
      rw c.limit.ensures (statement_first c.args.file src c.args.tokens.now _ c.args.fault c.reported_fault-reported.result c.in_default.not-Memory (c.requires src) (c.reported_fault-reported.ensures src) c.met_before-met.ensures c.in-Some.line (λ ls begun. sym c.in-Some.is ∙ c.in-Ok.ensures src ls begun));
  memory = λ e. absurd (c.in_default.not-Memory e);
}

pub returns-in-None : goal.returns-in-None
returns-in-None c = record {
  refused = λ src.
      rw c.refusal.ensures (fault_first c.args.file src c.args.tokens.now _ c.args.fault c.reported_fault-reported.result c.in_default.not-Memory (c.requires src) (c.reported_fault-reported.ensures src) c.met_before-met.ensures (λ ls begun. sym c.in-None.is ∙ c.in-Ok.ensures src ls begun));
  memory = λ e. absurd (c.in_default.not-Memory e);
}
