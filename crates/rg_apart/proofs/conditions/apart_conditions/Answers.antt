use Rattle.std.proofs.Common.{◌≡◌, List, map, rules, subst, sym}
use Rattle.rg_words.specs.Layout.{widths_of}
use Rattle.rg_tree.specs.Lines.{line_tree}
use Rattle.rg_tree.specs.ProgramTrees.{program as program_tree}
use Rattle.rg_c_plan.specs.Accesses.{steps_of_parts}
use Rattle.rg_apart.specs.Lifted.{old_places}
use Rattle.rg_apart.specs.Conditions.{VisitTree, stepping, visits}
use Rattle.rg_apart.specs.Inner.View.{visit, AreTypedVisits}
use Rattle.rg_apart.proofs.TypedVisits.{all_typed}
use Rattle.rg_apart.proofs.conditions.apart_conditions.Goals as goal

pub among-requires : goal.among-requires
among-requires c =
    let words = c.args.program.now.layout in
    let erased = c.args.erased.now in
    let q = program_tree c.args.left.now in
    let lines = map line_tree c.args.lines.now in
    let ns = stepping (program_tree c.args.program.now) in
    let same : map visit c.deref-5.result.now ≡ visits (old_places erased words) c.args.word lines (steps_of_parts q.parts) ns = search rules in
    subst (λ (vs : List VisitTree). AreTypedVisits (widths_of words) vs) (sym same) (all_typed words erased q c.args.word lines ns c.args.left.now.typed c.requires.words c.requires.lines)
