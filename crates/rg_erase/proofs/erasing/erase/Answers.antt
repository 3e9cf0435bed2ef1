use Rattle.std.proofs.Common.{◌≡◌, None, sym, subst, rules}
use Rattle.std.proofs.Math.Logic.{∥∥₁_map}
use Rattle.rg_tree.specs.declared.program.Program.{Program}
use Rattle.rg_tree.specs.ProgramTrees.{program as program_tree}
use Rattle.rg_tree.specs.Programs.{IsSatisfied}
use Rattle.rg_code.specs.Lawful.{IsLawful}
use Rattle.rg_erase.specs.Shadows.{AreShadows}
use Rattle.rg_erase.specs.Erased.{erased_program}
use Rattle.rg_erase.specs.Faults.{fault_of}
use Rattle.rg_erase.proofs.ShadowRuns.{comes_out_satisfied, comes_out_shadow}
use Rattle.rg_erase.proofs.erasing.erase.Goals as goal

pub invariant_of-result : goal.invariant_of-result
invariant_of-result g c =
    let p = c.program-program.result.now in
    let es = c.args.erased.now in
    let none : fault_of es (program_tree p) ≡ None = search rules in
    let comes : program_tree c.in_ok-program.program ≡ erased_program es (program_tree p) = c.in_ok-program.ensures in
    record {
      law = ∥∥₁_map (g.met.C.Checked.lawful c.args.checked.now) (λ (l : IsLawful (g.C.Checked.program_of c.args.checked.now) (g.C.Checked.code_of c.args.checked.now)). record {
        satisfied = comes_out_satisfied es (program_tree p) (program_tree c.in_ok-program.program) none p.typed comes (subst (λ (x : Program). IsSatisfied (program_tree x)) (sym c.program-program.ensures) l.satisfied);
        runs = c.in_ok-code.ensures.runs;
        words = c.in_ok-code.ensures.words;
        names = c.in_ok-code.ensures.names;
      });
    }

pub returns-clause-shadows : goal.returns-clause-shadows
returns-clause-shadows g c =
    let q = c.program-program.result.now in
    let es = c.args.erased.now in
    let none : fault_of es (program_tree q) ≡ None = search rules in
    let comes : program_tree c.in_ok-program.program ≡ erased_program es (program_tree q) = c.in_ok-program.ensures in
    subst (λ (x : Program). AreShadows es (program_tree x) (program_tree c.in_ok-program.program)) c.program-program.ensures (comes_out_shadow es (program_tree q) (program_tree c.in_ok-program.program) none q.typed comes)
