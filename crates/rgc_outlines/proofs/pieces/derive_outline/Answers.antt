use Rattle.std.proofs.Common.{inr, map}
use Rattle.rgc_outlines.proofs.pieces.derive_outline.Goals as goal

pub returns-clause-refused : goal.returns-clause-refused
returns-clause-refused c =
    let refused = rw (c.deref.ensures.value, c.deref-2.ensures.value) at c.in-Err.ensures.refused in
    inr (map (λ piece. piece.now) c.in_ok-pieces.pieces.items, c.in_ok-pieces.ensures, refused)
