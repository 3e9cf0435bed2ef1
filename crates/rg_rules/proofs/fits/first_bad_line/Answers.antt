use Rattle.std.proofs.Common.{◌+◌, map, rules, ap, subst, sym, ◌∙◌, add-one, refl}
use Rattle.rg_words.specs.Refusals.{refused_at}
use Rattle.rg_words.specs.declared.refusal.SourceFile.TheVariants.{Derivation}
use Rattle.rg_rules.proofs.Find.{nth-at}
use Rattle.rg_rules.specs.Inner.View.{referred}
use Rattle.rg_tree.specs.Lines.{line_tree}
use Rattle.rg_rules.specs.Faults.{AreFaultlessBefore}
use Rattle.rg_rules.proofs.Faults.{faultless_more}
use Rattle.rg_rules.proofs.fits.first_bad_line.Goals as goal

pub returns-in-Some-clause-some : goal.returns-in-Some-clause-some
returns-in-Some-clause-some c = record {
  place = c.loop-i.i + 1;
  line = line_tree c.index-lines-i.result;
  number = c.in-Some.number;
  found = nth-at line_tree c.args.lines.now c.loop-i.i (c.loop-i.i + 1) c.index-lines-i.result refl (search rules) (search rules);
  fault = c.in-Some.ensures;
  before = subst (AreFaultlessBefore (map referred c.args.list.now) (map line_tree c.args.lines.now)) (sym (add-one c.loop-i.i)) c.loop-i.invariant;
  refused = c.at.ensures ∙ ap (refused_at c.in-Some.number Derivation) c.from.ensures;
}

pub loop-i-preserved : goal.loop-i-preserved
loop-i-preserved c =
    let all = map referred c.args.list.now in
    let lines = map line_tree c.args.lines.now in
    let before = subst (AreFaultlessBefore all lines) (sym (add-one c.loop-i.i)) c.loop-i.invariant in
    faultless_more all lines (c.loop-i.i + 1) (line_tree c.index-lines-i.result) before (nth-at line_tree c.args.lines.now c.loop-i.i (c.loop-i.i + 1) c.index-lines-i.result refl (search rules) (search rules)) c.in_default.ensures
