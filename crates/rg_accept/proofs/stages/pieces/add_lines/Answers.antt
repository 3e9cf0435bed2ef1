use Rattle.std.proofs.Common.{◌≡◌, ◌++◌, map}
use Rattle.std.proofs.lemmas.List.{map-append}
use Rattle.rg_tree.specs.Lines.{line_tree}
use Rattle.rg_accept.proofs.InPieces.{typed_append}
use Rattle.rg_accept.proofs.stages.pieces.add_lines.Goals as goal

pub returns-clause-typed : goal.returns-clause-typed
returns-clause-typed c = λ typed.
    let items : c.append.new.self.items ≡ c.args.all.now.items ++ c.in-Ok.read.0.items = c.in_ok-append.ensures.items in
    rw (items, map-append) (typed_append c.args.layout.now (map line_tree c.args.all.now.items) (map line_tree c.in-Ok.read.0.items) typed c.in-Ok.ensures.typed)
