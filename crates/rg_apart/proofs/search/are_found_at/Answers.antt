use Rattle.std.proofs.Common.{◌≡◌, ◌∙◌, List, true, map, ap, subst}
use Rattle.std.proofs.lemmas.Result.{IfOk-weaker}
use Rattle.rg_tree.specs.ConditionTrees.{ConditionTree}
use Rattle.rg_tree.specs.Conditions.{condition_tree}
use Rattle.rg_tree.specs.Lines.{LineTree, line_tree}
use Rattle.rg_tree.specs.ProgramTrees.{program as program_tree}
use Rattle.rg_tree.specs.RuleConditions.{as_condition, AllConditionsHold}
use Rattle.rg_tree.specs.declared.condition.Condition.{Condition}
use Rattle.rg_tree.specs.declared.program.Program.{Program}
use Rattle.rg_accept.specs.Stages.{emitted_program, emitted_lines}
use Rattle.rg_apart.specs.Lifted.{old_places}
use Rattle.rg_apart.specs.Conditions.{apart_asked}
use Rattle.rg_apart.specs.Laws.{AreTrueAt}
use Rattle.rg_apart.proofs.search.are_found_at.Goals as goal

pub returns : goal.returns
returns g c =
    let p = emitted_program c.args.emitted.now in
    let q = program_tree c.args.left.now in
    let erased = c.args.erased.now in
    let lines = emitted_lines c.args.emitted.now in
    let word = c.args.word in
    let own = c.program-program.result.now in
    let of_own : map condition_tree c.deref.result.now ≡ map (as_condition own.layout) (apart_asked (program_tree own) q (old_places erased own.layout) (map line_tree c.lines.result.now) word) =
    ap (λ (xs : List Condition). map condition_tree xs) c.deref.ensures.value ∙ c.in_ok-conditions.ensures in
    let of_lines : map condition_tree c.deref.result.now ≡ map (as_condition own.layout) (apart_asked (program_tree own) q (old_places erased own.layout) lines word) =
    of_own ∙ ap (λ (ls : List LineTree). map (as_condition own.layout) (apart_asked (program_tree own) q (old_places erased own.layout) ls word)) c.lines.ensures.lines in
    let same : map condition_tree c.deref.result.now ≡ map (as_condition p.words) (apart_asked p q (old_places erased p.words) lines word) =
    of_lines ∙ ap (λ (x : Program). map (as_condition x.layout) (apart_asked (program_tree x) q (old_places erased x.layout) lines word)) c.program-program.ensures in
    IfOk-weaker c.are_found.result _ (λ r. r ≡ true → AreTrueAt p q erased lines word)
    (λ r h yes. subst (λ (cs : List ConditionTree). AllConditionsHold cs) same (h yes)) c.are_found.ensures
