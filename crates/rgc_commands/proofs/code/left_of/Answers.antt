use Rattle.std.proofs.Common.{◌≡◌, ◌∙◌, Bool, None, Result, subst, sym, refl}
use Rattle.std.specs.Prelude.{OnOk, IfOk}
use Rattle.std.proofs.Math.Logic.{∥∥₁_map}
use Rattle.std.proofs.lemmas.Result.{err_from_is_err_and}
use Rattle.rg_tree.specs.ProgramTrees.{program as program_tree}
use Rattle.rg_tree.specs.Statements.{ProgramTree}
use Rattle.rg_tree.specs.declared.program.Program.{Program}
use Rattle.rg_accept.specs.Stages.{emitted_program, emitted_blocks}
use Rattle.rg_apart.specs.Laws.{IsLeftOf, PartsAreApart}
use Rattle.rg_code.specs.Code.{program_code}
use Rattle.rg_erase.specs.declared.fault.Fault.{Fault}
use Rattle.rg_erase.specs.declared.product.Erased.{Erased}
use Rattle.rg_erase.specs.Erased.{erased_program}
use Rattle.rg_erase.specs.Faults.{fault_of}
use Rattle.rg_erase.specs.Shadows.{AreShadows}
use Rattle.rg_erase.specs.Products.{program_left, blocks_left}
use Rattle.rgc_commands.specs.Left.{IsLeft, IsErasedBy}
use Rattle.rgc_commands.proofs.code.left_of.Goals as goal

pub returns-then-not-has_flag-clause-apart : goal.returns-then-not-has_flag-clause-apart
returns-then-not-has_flag-clause-apart g c = subst (λ (x : Program). PartsAreApart (program_tree x) c.in_ok-apart.apart.items) c.program.ensures c.in_ok-apart.ensures

pub returns-in_err-lost-in-Ok-clause-stopped : goal.returns-in_err-lost-in-Ok-clause-stopped
returns-in_err-lost-in-Ok-clause-stopped g c =
    let p = err_from_is_err_and c.from_residual-in_err-lost-in-Ok.result c.from_residual-in_err-lost-in-Ok.ensures.1 in
    rw (p.1, p.2) refl

pub returns-in_err-extend_from_slice-in-Ok-clause-stopped : goal.returns-in_err-extend_from_slice-in-Ok-clause-stopped
returns-in_err-extend_from_slice-in-Ok-clause-stopped g c =
    let p = err_from_is_err_and c.from_residual-in_err-extend_from_slice-in-Ok.result c.from_residual-in_err-extend_from_slice-in-Ok.ensures.1 in
    rw (p.1, p.2) refl

pub apart_of-requires-in-Ok : goal.apart_of-requires-in-Ok
apart_of-requires-in-Ok g c =
    let p = emitted_program c.args.emitted in
    let flags = c.args.flags.now in
    let left = c.in-Ok.left in
    let h = c.in_ok-left.ensures in
    let e = c.in-Ok.is in
    let erasable : fault_of flags p ≡ None = subst (λ (r : Result Erased Fault). OnOk r (fault_of flags p ≡ None)) e h.erasable in
    let same : program_left left ≡ erased_program flags p = subst (λ (r : Result Erased Fault). IfOk r (λ x. program_left x ≡ erased_program flags p)) e h.program in
    let of_left : IsLeftOf flags p (program_left left) = subst (λ (q : ProgramTree). IsLeftOf flags p q) (sym same) (c.parts_stand_where_they_stood.ensures.erased flags p c.args.emitted.program.typed erasable) in
    subst (λ (x : Program). IsLeftOf flags p (program_tree x)) (sym c.program-in-Ok-3.ensures) of_left

pub returns-in_err-apart-in-Ok-clause-stopped : goal.returns-in_err-apart-in-Ok-clause-stopped
returns-in_err-apart-in-Ok-clause-stopped g c =
    let p = err_from_is_err_and c.from_residual-in_err-apart-in-Ok.result c.from_residual-in_err-apart-in-Ok.ensures.1 in
    rw (p.1, p.2) refl

pub returns-in-Ok-clause-left : goal.returns-in-Ok-clause-left
returns-in-Ok-clause-left g c =
    let p = emitted_program c.args.emitted in
    let flags = c.args.flags.now in
    let left = c.in-Ok.left in
    let h = c.in_ok-left.ensures in
    let e = c.in-Ok.is in
    let erased : IsErasedBy flags p (program_left left) (blocks_left left) = record {
      erasable = subst (λ (r : Result Erased Fault). OnOk r (fault_of flags p ≡ None)) e h.erasable;
      is = subst (λ (r : Result Erased Fault). IfOk r (λ x. program_left x ≡ erased_program flags p)) e h.program;
      compiled = subst (λ (r : Result Erased Fault). IfOk r (λ x. blocks_left x ≡ program_code (program_left x).parts)) e h.blocks;
      shadows = subst (λ (r : Result Erased Fault). IfOk r (λ x. AreShadows flags p (program_left x))) e h.shadows;
      satisfied = ∥∥₁_map left.law (λ l. l.satisfied);
    } in
    subst (λ (b : Bool). IsLeft b flags p (emitted_blocks c.args.emitted) (program_left left) (blocks_left left)) (sym c.if-not-has_flag.false ∙ c.has_flag.ensures) erased

pub returns-in-Ok-clause-apart : goal.returns-in-Ok-clause-apart
returns-in-Ok-clause-apart g c = subst (λ (x : Program). PartsAreApart (program_tree x) c.in_ok-apart-in-Ok.apart.items) c.program-in-Ok-3.ensures c.in_ok-apart-in-Ok.ensures
