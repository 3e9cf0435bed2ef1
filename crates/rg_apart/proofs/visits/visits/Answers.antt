use Rattle.std.proofs.Common.{◌≡◌, ◌∙◌, ◌+◌, ◌++◌, List, Option, Some, None, map, drop, rules, ap, sym, subst, append_assoc}
use Rattle.rg_tree.specs.Lines.{line_tree}
use Rattle.rg_c_plan.specs.Accesses.{writes}
use Rattle.rg_c_plan.specs.Where.{step_where}
use Rattle.rg_c_plan.specs.View.{step}
use Rattle.rg_apart.specs.Lifted.{lifted_formula}
use Rattle.rg_apart.specs.Conditions.{VisitTree, visits_by, visits}
use Rattle.rg_apart.specs.Inner.View.{visit}
use Rattle.std.specs.Prelude.{option_map, slice_get}
use Rattle.std.specs.Borrow.{Bor}
use Rattle.std.specs.Slice.{IsItemAt}
use Rattle.std.proofs.lemmas.Option.{slice_get-get_or, slice_get_past}
use Rattle.rg_tree.specs.declared.numbered.Numbered.{Numbered}
use Rattle.rg_apart.proofs.Visited.{visits_here, visits_past}
use Rattle.rg_apart.proofs.visits.visits.Goals as goal
use Rattle.rg_apart.proofs.visits.visits.Goals.{in-Some+in_ok-site+in_ok-push_site, in_default}

pub loop-i-preserved : goal.loop-i-preserved
loop-i-preserved c =
    let old = c.args.old.now in
    let word = c.args.word in
    let lines = map line_tree c.args.lines.now in
    let steps = c.args.steps.now in
    let numbers = c.args.numbers.now in
    let i = c.loop-i.i in
    let rest = visits old word lines (map step (drop (i + 1) steps)) (drop (i + 1) numbers) in
    elim c.match-get.branch [
      | in-Some+in_ok-site+in_ok-push_site w ↦
          let s = w.index-steps-i.result in
          let n = w.in-Some.n.now in
          let own = visits_by lines n (option_map (lifted_formula old) (step_where word (step s).guard (step s).act)) (writes word (step s).act) in
          let found : IsItemAt numbers i (Some w.in-Some.n) = subst (λ (r : Option (Bor Numbered)). IsItemAt numbers i r) w.in-Some.is c.get.ensures.lookup in
          let there : slice_get numbers i ≡ Some n = slice_get-get_or numbers i n found.3.0 ∙ ap (λ x. Some x) (sym found.1) in
          let here = visits_here old word lines steps numbers i s n (search rules) (search rules) there in
          let more : map visit c.match-get.list.items ≡ map visit c.loop-i.list.items ++ own = search rules in
          ap (λ (vs : List VisitTree). vs ++ rest) more ∙ append_assoc (map visit c.loop-i.list.items) own rest ∙ ap (λ (vs : List VisitTree). map visit c.loop-i.list.items ++ vs) (sym here) ∙ c.loop-i.invariant
      | in_default w ↦
          let found : IsItemAt numbers i None = subst (λ (r : Option (Bor Numbered)). IsItemAt numbers i r) w.in_default.is c.get.ensures.lookup in
          let past = visits_past old word lines steps numbers i (slice_get_past numbers i found.3) in
          ap (λ v. map visit v.items ++ rest) w.list-is ∙ ap (λ (vs : List VisitTree). map visit c.loop-i.list.items ++ vs) (sym past) ∙ c.loop-i.invariant
    ]
