use Rattle.std.proofs.Common.{◌<◌, ◌∙◌, length, ap, arith, rules}
use Rattle.std.specs.Prelude.{string_bytes}
use Rattle.std.specs.List.{flat_map}
use Rattle.std.proofs.lemmas.List.{take_all}
use Rattle.rgc_answers.specs.Proofs.{piece_text}
use Rattle.rgc_answers.proofs.Items.{item_added, flat_map_made}
use Rattle.rgc_answers.proofs.proof_lines.proofs_text.Goals as goal

pub loop-piece-preserved : goal.loop-piece-preserved
loop-piece-preserved c =
    let pieces = c.args.pieces.now in
    let i = c.loop-piece.piece-index in
    let within : i < length pieces = search rules in
    item_added (λ piece. piece_text c.args.format c.args.range (string_bytes piece)) pieces i c.piece-item.result _ (string_bytes c.in_ok-one.one) _ within c.loop-piece.invariant (search rules) (search rules)

pub returns : goal.returns
returns c =
    let f = piece_text c.args.format c.args.range in
    c.loop-piece.invariant
    ∙ ap (flat_map (λ piece. f (string_bytes piece))) (take_all c.loop-piece.piece-index c.args.pieces.now (omega (arith, c.loop-piece-test.false)))
    ∙ flat_map_made f string_bytes c.args.pieces.now
