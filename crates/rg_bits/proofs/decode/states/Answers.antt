use Rattle.std.proofs.Common.{length, map, ap, ◌∙◌}
use Rattle.rg_tree.specs.Conditions.{condition_tree}
use Rattle.rg_rows.specs.Within.{rows_of}
use Rattle.rg_bits.proofs.Values.{pair_law, bits_law}
use Rattle.rg_bits.proofs.Widths.{first_lengths}
use Rattle.rg_bits.proofs.decode.states.Goals as goal

pub read_state-requires : goal.read_state-requires
read_state-requires c =
    ap (λ rows. map length (rows_of rows)) c.deref.ensures.value ∙ ap (map length) c.in_ok-rows.ensures.rows ∙ first_lengths 0 c.args.condition.now.layout

pub returns-clause-pair : goal.returns-clause-pair
returns-clause-pair c = pair_law (condition_tree c.args.condition.now) c.args.values.now

pub returns-clause-bits : goal.returns-clause-bits
returns-clause-bits c = bits_law (condition_tree c.args.condition.now) c.args.values.now c.requires
