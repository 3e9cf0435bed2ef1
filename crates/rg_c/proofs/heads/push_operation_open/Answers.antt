use Rattle.std.proofs.Common.{◌≡◌, ℕ, List, [], ◌++◌, OnOk, string_bytes, sym, ap, subst}
use Rattle.std.specs.Prelude.{codes}
use Rattle.rg_c.specs.Heads.{operation_open}
use Rattle.rg_c.proofs.NamesIn.{name_in}
use Rattle.rg_c.proofs.heads.push_operation_open.Goals as goal

pub returns : goal.returns
unfolding operation_open
returns c =
    let name = c.args.name.now in
    let part = c.args.part.now in
    let operation = c.args.operation.now in
    let rest = codes "(struct " ++ (name ++ (codes " *w)\n" ++ [])) in
    let around : List ℕ → List ℕ = λ t. codes "\n/* Of part " ++ (part ++ (codes ", the statements of one use alone, for a caller that makes the part's other steps by itself. */\nstatic inline void " ++ t)) in
    let P : List ℕ → Type 0 = λ t. OnOk c.push_all.result (string_bytes c.push_all.new.text ≡ string_bytes c.args.text.now ++ t) in
    subst P (ap around (sym (name_in name (codes "_perform_") operation rest))) c.push_all.ensures
