use Rattle.std.proofs.Common.{◌+◌, inr, ap, ◌∙◌}
use Rattle.rg_words.specs.Refusals.{refused_at}
use Rattle.rg_words.specs.declared.refusal.RefusalNumber.TheVariants.{BadByte}
use Rattle.rg_text.proofs.CutSteps.{line_after_gap, bad_byte, tokens_to, line_there, end_within}
use Rattle.rg_text.proofs.tokens.cut.Goals as goal

pub returns-in_default-clause-refused : goal.returns-in_default-clause-refused
returns-in_default-clause-refused c =
    let source = c.args.source.now in
    let turn = c.loop-file.invariant in
    inr (
      c.loop-file.end + c.gap_len.result,
      bad_byte source _ _ _ _ c.gap_len.ensures.is turn.line c.line_feeds.ensures _ turn.tokens turn.within c.gap_len.ensures.within c.if-start-source.false c.in_default.ensures,
      c.refusal.ensures ∙ ap (refused_at BadByte c.args.file) (line_after_gap source _ _ _ _ c.gap_len.ensures.is turn.line c.line_feeds.ensures),
    )

pub loop-file-preserved : goal.loop-file-preserved
loop-file-preserved c =
    let source = c.args.source.now in
    let turn = c.loop-file.invariant in
    record {
      within = end_within source _ _ _ _ c.gap_len.ensures.is turn.line c.line_feeds.ensures _ _ c.in-Some.ensures turn.within c.gap_len.ensures.within;
      line = line_there source _ _ _ _ c.gap_len.ensures.is turn.line c.line_feeds.ensures _ _ c.in-Some.ensures;
      tokens = tokens_to source _ _ _ _ c.gap_len.ensures.is turn.line c.line_feeds.ensures _ _ c.in-Some.ensures _ _ turn.tokens c.in_ok-push.ensures.items;
    }
