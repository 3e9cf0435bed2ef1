use Rattle.std.proofs.Common.{◌≡◌, ◌∙◌, ap, length, map, rules}
use Rattle.std.proofs.lemmas.List.{length-map}
use Rattle.rg_tree.specs.Numbering.{statements_of_parts}
use Rattle.rg_tree.specs.ProgramView.{part}
use Rattle.rg_tree.specs.ProgramTrees.{program}
use Rattle.rg_tree.specs.Lines.{line_tree}
use Rattle.rg_rules.specs.Inner.View.{referred}
use Rattle.rg_rules.proofs.Typed.{statement_typed}
use Rattle.rg_rules.proofs.Counts.{count_conditions}
use Rattle.std.proofs.Math.Logic.{∥∥₁_elim, ∥∥₁_map}
use Rattle.std.specs.Coded.{Coded-set, coded_ℕ}
use Rattle.rg_rules.proofs.Merely.{satisfies_merely}
use Rattle.rg_rules.proofs.Sound.{lines_hold, parts_satisfy}
use Rattle.rg_rules.proofs.derivation.Derivation.conditions.Goals as goal

pub add_lines-requires-clause-statements : goal.add_lines-requires-clause-statements
add_lines-requires-clause-statements c n s found =
    let p = c.args.program.now in
    let list : map referred c.as_slice-2.result.now ≡ statements_of_parts (map part p.parts.items) = search rules in
    statement_typed p.layout (map part p.parts.items) p.typed.parts n s (rw list at found)

pub returns-clause-list : goal.returns-clause-list
returns-clause-list c = search rules

pub returns-clause-count : goal.returns-clause-count
returns-clause-count c =
    let list = simp length-map at (ap length (returns-clause-list c)) in
    let all = statements_of_parts (map part c.args.program.now.parts.items) in
    let lines = map line_tree c.args.self.now.lines.items in
    list ∙ ∥∥₁_elim c.requires.derives (Coded-set coded_ℕ _ _) (λ d. count_conditions all lines d.lines_fit)

pub returns-clause-sound : goal.returns-clause-sound
returns-clause-sound c h k line s found number =
    let p = c.args.program.now in
    let typed = c.requires.typed in
    let true_list = rw (returns-clause-list c) at h in
    satisfies_merely p.layout line.spec s (∥∥₁_map c.requires.derives (λ d. lines_hold p.layout (map part p.parts.items) (map line_tree c.args.self.now.lines.items) typed d true_list k line s found number))

pub returns-clause-parts : goal.returns-clause-parts
returns-clause-parts c h i p found =
    let hold = returns-clause-sound c h in
    satisfies_merely c.args.program.now.layout p.spec p.body (∥∥₁_map c.requires.derives (λ d. parts_satisfy (program c.args.program.now) (map line_tree c.args.self.now.lines.items) d hold i p found))
