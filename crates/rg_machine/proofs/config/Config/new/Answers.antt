use Rattle.std.proofs.Common.{◌≡◌, ◌∙◌, ap, length, replicate, arith, rules}
use Rattle.std.proofs.lemmas.List.{length-map}
use Rattle.rg_code.specs.BlockView.{blocks}
use Rattle.rg_code.specs.CodeTrees.{code_blocks}
use Rattle.rg_machine.proofs.Steps.{first_places}
use Rattle.rg_machine.proofs.config.Config.new.Goals as goal

pub invariant_of-result : goal.invariant_of-result
invariant_of-result c =
    let size = length-map c.args.code.now.parts.items blocks in
    let count : c.len.result ≡ length (code_blocks c.args.code.now) = omega (arith, c.len.ensures, size, c.args.code.now.parts.ok.0) in
    let zeros : c.in_ok-places.places.items ≡ replicate c.len.result 0 = search rules in
    let places = zeros ∙ ap (λ n. replicate n 0) count in
    record {
      widths = c.requires;
      at_blocks = (first_places c.args.code.now.layout (code_blocks c.args.code.now) c.in_ok-places.places.items c.args.code.now.legal places).1;
      room = omega (arith, c.code_room.ensures, c.in_ok-stack.ensures.capacity);
    }

pub returns : goal.returns
returns c =
    let size = length-map c.args.code.now.parts.items blocks in
    let count : c.len.result ≡ length (code_blocks c.args.code.now) = omega (arith, c.len.ensures, size, c.args.code.now.parts.ok.0) in
    let zeros : c.in_ok-places.places.items ≡ replicate c.len.result 0 = search rules in
    let places = zeros ∙ ap (λ n. replicate n 0) count in
    ap (λ ks. record { words = c.args.code.now.layout; codes = code_blocks c.args.code.now; state = c.args.state.values; places = ks }) (first_places c.args.code.now.layout (code_blocks c.args.code.now) c.in_ok-places.places.items c.args.code.now.legal places).0
