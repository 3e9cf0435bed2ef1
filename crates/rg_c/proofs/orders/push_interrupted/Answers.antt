use Rattle.std.proofs.Common.{ℕ, List, ◌∙◌, ◌++◌, ap, append_assoc, codes, map, string_bytes}
use Rattle.rg_c_report.specs.Words.{commas}
use Rattle.rg_c.specs.Orders.{interrupted_text}
use Rattle.rg_c.proofs.orders.push_interrupted.Goals as goal

pub returns : goal.returns
unfolding interrupted_text
returns c =
    let old = string_bytes c.args.text.now in
    let what = codes " interrupts " in
    let names = commas (map (λ t. t.now) c.args.names.now) in
    let line = codes "\n" in
    c.in_ok-push_str.ensures.bytes
    ∙ (ap (λ (t : List ℕ). t ++ line) c.in_ok-push_listed.ensures
    ∙ (append_assoc old (what ++ names) line ∙ ap (λ (t : List ℕ). old ++ t) (append_assoc what names line)))
