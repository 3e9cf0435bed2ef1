-- A block of statements as the list in its `Vec`.
use Rattle.std.proofs.Common.{◌≡◌, ℕ, List, map, Vec, Global, refl, ap, ◌∙◌}
use mathlib.Core.Former.{Count}
use Rattle.rg_text.specs.Text.{leaf_of}
use Rattle.rg_text.specs.declared.token.Token.{Token}
use Rattle.rg_syntax.specs.declared.written.FormulaText.{FormulaText}
use Rattle.rg_syntax.specs.declared.written.StatementText.{StatementText, If, If', While, While', Row_of-StatementText, end_of-StatementText, more_of-StatementText, items-the_row-StatementText, items_hidden-the_row-StatementText-0}
use Rattle.rg_syntax.specs.Written.{branch, loop, also, listed, claim, statement, statements}

statements-row : (src : List ℕ) (n : _) (row : Row_of-StatementText n) → statements src row ≡ listed (map (statement src) (items-the_row-StatementText n row))
statements-row src n end_of-StatementText = refl
statements-row src n (more_of-StatementText s rest) = ap (also (statement src s)) (statements-row src _ rest)

abbrev body_of : StatementText → (n : Count) × Row_of-StatementText n
body_of (While' t f _ row) = (_, row)
body_of _ = (_, end_of-StatementText)

pub statement-While : (src : List ℕ) (t : Token) (f : FormulaText) (items : Vec StatementText Global) → statement src (While t f items) ≡ loop (leaf_of src t) (claim src f) (listed (map (statement src) items.items))
statement-While src t f items =
    let row = body_of (While t f items) in
    ap (loop (leaf_of src t) (claim src f)) (statements-row src row.0 row.1 ∙ ap (λ ss. listed (map (statement src) ss)) (items_hidden-the_row-StatementText-0 items))

abbrev first_of : StatementText → (n : Count) × Row_of-StatementText n
first_of (If' t f _ row _ other) = (_, row)
first_of _ = (_, end_of-StatementText)

abbrev second_of : StatementText → (n : Count) × Row_of-StatementText n
second_of (If' t f _ row _ other) = (_, other)
second_of _ = (_, end_of-StatementText)

both : {A B C : Type 0} (g : A → B → C) {a c : A} {b d : B} → a ≡ c → b ≡ d → g a b ≡ g c d
both g p q = cc

pub statement-If : (src : List ℕ) (t : Token) (f : FormulaText) (first second : Vec StatementText Global) → statement src (If t f first second) ≡ branch (leaf_of src t) (claim src f) (listed (map (statement src) first.items)) (listed (map (statement src) second.items))
statement-If src t f first second =
    let row = first_of (If t f first second) in
    let other = second_of (If t f first second) in
    both (branch (leaf_of src t) (claim src f))
    (statements-row src row.0 row.1 ∙ ap (λ ss. listed (map (statement src) ss)) (items_hidden-the_row-StatementText-0 first))
    (statements-row src other.0 other.1 ∙ ap (λ ss. listed (map (statement src) ss)) (items_hidden-the_row-StatementText-0 second))
