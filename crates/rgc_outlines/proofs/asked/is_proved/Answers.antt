use Rattle.std.proofs.Common.{inl, inr, ⊎_elim, rules}
use Rattle.std.specs.Prelude.{IsTrue}
use Rattle.rg_accept.specs.Stages.{derived_program, derived_lines}
use Rattle.rgc_outlines.proofs.asked.is_proved.Goals as goal

pub returns-in-Err-judge_derived-clause-refused : goal.returns-in-Err-judge_derived-clause-refused
returns-in-Err-judge_derived-clause-refused g c =
    ⊎_elim
    (λ none. inl (inl none))
    (λ unjudged. inr (derived_program c.in-Ok.derived, derived_lines c.in-Ok.derived, c.in-Ok.ensures.derived, unjudged))
    c.in-Err-judge_derived.ensures

pub returns-then-branch-clause-proved : goal.returns-then-branch-clause-proved
returns-then-branch-clause-proved g c = λ _.
    let of_pieces = c.in-Ok.ensures.derived in
    let yes : IsTrue c.in_ok-has_proofs.field-0 = search rules in
    let has = c.in_ok-has_proofs.ensures.proved yes in
    record {
      derivation = c.args.files.now.derivation.items;
      pieces = of_pieces.pieces;
      proofs = has.proofs;
      program = derived_program c.in-Ok.derived;
      cut = of_pieces.cut;
      accepted = record {
        lines = derived_lines c.in-Ok.derived;
        derived = of_pieces.derived;
        proved = has.proved;
      };
      satisfied = has.satisfied;
    }
