use Rattle.std.proofs.Common.{◌≡◌, ◌∙◌, ◌+◌, ◌++◌, ◌∷◌, [], ℕ, List, Bor, ap, get_or, refl, rules, sym, take}
use Rattle.std.proofs.lemmas.List.{append-nil, map-append, take_more}
use Rattle.std.proofs.lemmas.List.Folds.{concat-append}
use Rattle.std.specs.List.{concat}
use Rattle.rgc.specs.Pieces.{bytes_of}
use Rattle.rgc_commands.proofs.files.joined.Goals as goal

abbrev no_piece : Bor (List ℕ)
no_piece = record { ref_ptr = (0, 0); now = [] }

pub loop-piece-preserved : goal.loop-piece-preserved
loop-piece-preserved c =
    let pieces = c.args.pieces.now in
    let i = c.loop-piece.piece-index in
    let piece = (get_or pieces i no_piece).now in
    let more : bytes_of (take (i + 1) pieces) ≡ bytes_of (take i pieces) ++ piece ∷ [] =
    ap (λ (ps : List (Bor (List ℕ))). bytes_of ps) (take_more pieces i no_piece c.loop-piece-test.true)
    ∙ map-append (λ (p : Bor (List ℕ)). p.now) (take i pieces) (get_or pieces i no_piece ∷ []) in
    let whole : concat (bytes_of (take (i + 1) pieces)) ≡ concat (bytes_of (take i pieces)) ++ piece = rw (more, concat-append, append-nil) refl in
    let went : c.extend_from_slice.new.self.items ≡ c.loop-piece.all.items ++ piece = search rules in
    went ∙ ap (λ (b : List ℕ). b ++ piece) c.loop-piece.invariant ∙ sym whole
