use Rattle.std.proofs.Common.{◌≡◌, ◌<◌, ap, ◌∙◌, arith}
use Rattle.std.specs.Str.Lines.{lines}
use Rattle.rg_hint_lines.specs.declared.read.LineForm.{LineForm}
use Rattle.rg_hint_lines.specs.Inner.LineForms.{reading_as}
use Rattle.rg_hint_lines.specs.Text.{fields_of}
use Rattle.rg_hint_lines.specs.Reading.{reading_of, passed_over, hint_line}
use Rattle.rg_hint_lines.specs.Lines.{HintLine}
use Rattle.rg_hint_lines.proofs.ReadSteps.{line_passed, line_added, below_more}
use Rattle.rg_hint_lines.proofs.lines.Lines.read.Goals as goal
use Rattle.rg_hint_lines.proofs.lines.Lines.read.Goals.{in-PassedOver, in-HintLine+else-id-last+in_ok-lines-in-HintLine}

pub with_line-requires-clause-literals : goal.with_line-requires-clause-literals
with_line-requires-clause-literals c = rw c.deref.ensures.value (c.in_ok-read_line.ensures.fit c.in-HintLine.id c.in-HintLine.is)

pub with_line-requires-clause-rises : goal.with_line-requires-clause-rises
with_line-requires-clause-rises c = λ k d l. omega (arith, c.loop-rest.invariant.below k d l, c.if-id-last.false)

pub loop-rest-preserved : goal.loop-rest-preserved
loop-rest-preserved c =
    let old = c.loop-rest.lines.lines in
    let line = c.split_line.result.0.now in
    let rest = lines c.split_line.result.1.now in
    let literals = c.read_line.new.literals.items in
    let hints = c.read_line.new.hints.items in
    elim c.match-branch-3.branch [
      | in-PassedOver w ↦
          let reading : reading_of (fields_of line) ≡ passed_over = c.in_ok-read_line.ensures.value ∙ ap (λ (f : LineForm). reading_as f literals hints) w.in-PassedOver.is in
          rw (w.lines-is, w.last-is) (record {
            given = c.loop-rest.invariant.given;
            low = c.loop-rest.invariant.low;
            below = c.loop-rest.invariant.below;
            room = omega arith;
            found = line_passed old (lines c.loop-rest.rest.now) rest line c.loop-rest.number c.loop-rest.last _ c.split_line.ensures.lines c.loop-rest.invariant.found reading;
          })
      | in-HintLine+else-id-last+in_ok-lines-in-HintLine w ↦
          let id = w.in-HintLine.id in
          let reading : reading_of (fields_of line) ≡ hint_line id literals hints = c.in_ok-read_line.ensures.value ∙ ap (λ (f : LineForm). reading_as f literals hints) w.in-HintLine.is in
          let added : HintLine = record { id = id; text_line = c.loop-rest.number; literals = literals; hints = hints } in
          let above : c.loop-rest.last < id = w.if-id-last.false in
          rw (w.lines-is, w.last-is, w.in_ok-lines-in-HintLine.ensures, w.deref.ensures.value, w.deref-in-HintLine.ensures.value) (record {
            given = c.loop-rest.invariant.given;
            low = omega (arith, c.loop-rest.invariant.low, above);
            below = below_more old added c.loop-rest.last c.loop-rest.invariant.below above;
            room = omega arith;
            found = line_added old (lines c.loop-rest.rest.now) rest line c.loop-rest.number c.loop-rest.last _ c.split_line.ensures.lines c.loop-rest.invariant.found id literals hints reading above;
          })
    ]
