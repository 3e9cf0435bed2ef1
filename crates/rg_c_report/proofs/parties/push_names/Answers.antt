use Rattle.std.proofs.Common.{◌≡◌, ◌∙◌, ℕ, ◌≤◌, ◌++◌, List, [], ◌∷◌, Bor, codes, length, map, string_bytes, refl, ap, arith, rules}
use Rattle.rg_c_report.specs.Words.{commas}
use Rattle.rg_c_report.specs.Parties.{names_text}
use Rattle.rg_c_report.proofs.Chains.{pushed_then}
use Rattle.rg_c_report.proofs.parties.push_names.Goals as goal

-- the names of the code
abbrev names : List (Bor (List ℕ)) → List (List ℕ)
names xs = map (λ (t : Bor (List ℕ)). t.now) xs

-- where somebody reads and somebody writes
both : (xs ys : List (Bor (List ℕ))) → 1 ≤ length xs → 1 ≤ length ys →
    (codes "read by " ++ commas (names xs)) ++ (codes "; written by " ++ commas (names ys)) ≡ names_text (names xs) (names ys)
both [] ys h k = absurd (omega (arith, h))
both (x ∷ xs) [] h k = absurd (omega (arith, k))
both (x ∷ xs) (y ∷ ys) h k = refl

pub returns-in_ok-push_listed-in-len1-up-len1-up-2 : goal.returns-in_ok-push_listed-in-len1-up-len1-up-2
returns-in_ok-push_listed-in-len1-up-len1-up-2 c =
    let readers = c.args.readers.now in
    let writers = c.args.writers.now in
    let some_read : 1 ≤ length readers = search rules in
    let some_write : 1 ≤ length writers = search rules in
    let old = string_bytes c.args.text.now in
    pushed_then old (codes "read by " ++ commas (names readers)) (codes "; written by " ++ commas (names writers)) _ _
    c.in_ok-push_listed-in-len1-up-len1-up.ensures c.in_ok-push_listed-in-len1-up-len1-up-2.ensures
    ∙ ap (λ (t : List ℕ). old ++ t) (both readers writers some_read some_write)
