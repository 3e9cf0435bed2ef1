-- What opening a floor leaves to say of a run.
use Rattle.std.proofs.Common.{◌≤◌, List, ℕ, length, ap, arith}
use Rattle.std.specs.Prelude.{string_bytes}
use Rattle.std.proofs.Math.Logic.{∥∥₁_elim}
use Rattle.std.proofs.Math.Bridge.{le_prop}
use Rattle.std.proofs.lemmas.List.{length-map}
use Rattle.rg_tree.specs.declared.program.Program.{Program}
use Rattle.rg_tree.specs.declared.part.Part.{Part}
use Rattle.rg_tree.specs.ProgramView.{part}
use Rattle.rg_code.specs.declared.code.Code.{Code}
use Rattle.rg_code.specs.declared.code.PartCode.{PartCode}
use Rattle.rg_code.specs.Lawful.{IsLawful}

-- the code of a program has some part
pub some_part : (source : Program) (code : Code) → ∥ IsLawful source code ∥₁ → 1 ≤ length code.parts.items
some_part source code law = ∥∥₁_elim law le_prop (λ (l : IsLawful source code).
    let names = ap (λ (xs : List (List ℕ)). length xs) l.names in
    let a = length-map code.parts.items (λ (p : PartCode). string_bytes p.name) in
    let b = length-map source.parts.items (λ (p : Part). string_bytes p.name) in
    let c = length-map source.parts.items part in
    omega (arith, names, a, b, c, source.typed.some_part))
