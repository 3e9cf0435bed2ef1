use Rattle.std.proofs.Common.{sym, ap, ◌∙◌}
use Rattle.rg_clauses.specs.Rows.{concatenated, places_from}
use Rattle.rg_clauses.proofs.Pieces.{joined_pieces, places_of_pieces}
use Rattle.rg_clauses.proofs.rows.Rows.flat.Goals as goal

pub returns-clause-items : goal.returns-clause-items
returns-clause-items g c =
    let a = c.self.inside in
    c.as_slice.ensures.value ∙ sym (joined_pieces a.items.items a.starts.items c.self.invariant) ∙ ap concatenated c.self.view_is

pub returns-clause-starts : goal.returns-clause-starts
returns-clause-starts g c =
    let a = c.self.inside in
    c.as_slice-2.ensures.value ∙ sym (places_of_pieces a.items.items a.starts.items c.self.invariant) ∙ ap (places_from 0) c.self.view_is
