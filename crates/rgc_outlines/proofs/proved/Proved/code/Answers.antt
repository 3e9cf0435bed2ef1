use Rattle.std.proofs.Common.{◌≡◌, ◌∙◌, ℕ, List, ap, inl, map, refl, subst, sym}
use Rattle.std.proofs.lemmas.Result.{err_from_is_err_and}
use Rattle.std.specs.Borrow.{Bor}
use Rattle.std.specs.Prelude.{String, string_bytes}
use Rattle.std.specs.Global.{Global}
use Rattle.rg_code.specs.Code.{HasRunsOf, program_code}
use Rattle.rg_tree.specs.Statements.{ProgramTree}
use Rattle.rg_pool.specs.ProofPieces.{AreProvedBy, AreProofsRefused}
use Rattle.rg_accept.specs.Stages.{derived_lines, emitted_blocks}
use Rattle.rgc.specs.Pieces.{bytes_of}
use Rattle.rgc_outlines.specs.Built.{IsBuiltOutline}
use Rattle.rgc_outlines.specs.Proved.{conditions_in, proofs_in}
use Rattle.rgc_outlines.proofs.proved.Proved.code.Goals as goal

-- what is emitted is the code of the program that was derived, whose files are these
pub returns-in-Ok-emit-clause-built : goal.returns-in-Ok-emit-clause-built
returns-in-Ok-emit-clause-built g c = λ files o.
    let same = c.in-Ok.ensures.program in
    let coded = c.in-Ok-emit.ensures in
    let blocks = emitted_blocks c.in-Ok-emit.emitted in
    subst (λ (p : ProgramTree). IsBuiltOutline files p blocks) (sym (coded.program ∙ same)) (record {
      pieces = o.derived.pieces;
      proofs = proofs_in c.args.self;
      cut = o.derived.cut;
      built = record {
        accepted = record { lines = derived_lines c.args.self.derived; derived = o.derived.derived; proved = o.proved };
        compiled = subst (λ (p : ProgramTree). blocks ≡ program_code p.parts) same coded.blocks;
        runs = subst (λ (p : ProgramTree). HasRunsOf p blocks) same coded.runs;
        satisfied = o.satisfied;
      };
    })

pub returns-in_err-pieces-clause-refused : goal.returns-in_err-pieces-clause-refused
returns-in_err-pieces-clause-refused g c =
    let p = err_from_is_err_and c.from_residual.result c.from_residual.ensures.1 in rw (p.1, p.2) (inl refl)

-- the pieces that were lent are those that were found
lent_pieces : (lent made : List (Bor (List ℕ))) (proofs own : List (String Global)) → lent ≡ made → bytes_of made ≡ map string_bytes proofs → proofs ≡ own → bytes_of lent ≡ map string_bytes own
lent_pieces lent made proofs own same are kept =
    ap (λ (pieces : List (Bor (List ℕ))). bytes_of pieces) same ∙ are ∙ ap (λ (texts : List (String Global)). map string_bytes texts) kept

pub returns-in-Err-clause-refused : goal.returns-in-Err-clause-refused
returns-in-Err-clause-refused g c =
    subst (λ (pieces : List (List ℕ)). AreProofsRefused (conditions_in c.args.self) pieces c.in-Err.refusal)
    (lent_pieces c.deref-2.result.now _ _ _ c.deref-2.ensures.value c.in_ok-pieces.ensures c.deref.ensures.value) c.in-Err.ensures.refused

pub returns-in-Err-clause-accepts : goal.returns-in-Err-clause-accepts
returns-in-Err-clause-accepts g c = λ proved.
    c.in-Err.ensures.accepts (subst (λ (pieces : List (List ℕ)). AreProvedBy (conditions_in c.args.self) pieces)
    (sym (lent_pieces c.deref-2.result.now _ _ _ c.deref-2.ensures.value c.in_ok-pieces.ensures c.deref.ensures.value)) proved)
