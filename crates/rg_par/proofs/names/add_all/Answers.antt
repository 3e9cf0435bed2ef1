use Rattle.std.proofs.Common.{[], ◌∷◌, map, rules}
use Rattle.std.specs.Prelude.{codes, string_bytes}
use Rattle.rg_tree.specs.ProgramView.{part}
use Rattle.rg_par.specs.Names.{of_part, cross_names}
use Rattle.rg_par.proofs.Joined.{six_lists}
use Rattle.rg_par.proofs.names.add_all.Goals as goal

pub returns : goal.returns
returns c =
    let parts = map part c.args.program.now.parts.items in
    six_lists (map string_bytes c.args.all.now.items) (map (of_part (codes "all pre ")) parts) (map (of_part (codes "all rely ")) parts) (cross_names parts 1 parts) (map (of_part (codes "all guar ")) parts) (codes "all post" ∷ [])
    (map string_bytes c.add_each.new.all.items) (map string_bytes c.add_each-2.new.all.items) (map string_bytes c.add_crosses.new.all.items) (map string_bytes c.add_each-3.new.all.items) (map string_bytes c.add_text.new.all.items)
    (search rules) (search rules) (search rules) (search rules) (search rules)
