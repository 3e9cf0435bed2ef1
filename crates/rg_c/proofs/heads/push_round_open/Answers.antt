use Rattle.std.proofs.Common.{◌≡◌, ℕ, List, [], ◌++◌, OnOk, string_bytes, sym, ap, subst}
use Rattle.std.specs.Prelude.{codes}
use Rattle.rg_c.specs.Heads.{round_open}
use Rattle.rg_c.proofs.NamesIn.{name_in}
use Rattle.rg_c.proofs.heads.push_round_open.Goals as goal

pub returns : goal.returns
unfolding round_open
returns c =
    let name = c.args.name.now in
    let part = c.args.part.now in
    let rest = codes "(struct " ++ (name ++ (codes " *w)\n" ++ [])) in
    let around : List ℕ → List ℕ = λ t. codes "\n/* One round of part " ++ (part ++ (codes ", for a caller that goes round by itself. */\nstatic inline void " ++ t)) in
    let P : List ℕ → Type 0 = λ t. OnOk c.push_all.result (string_bytes c.push_all.new.text ≡ string_bytes c.args.text.now ++ t) in
    subst P (ap around (sym (name_in name (codes "_round_") part rest))) c.push_all.ensures
