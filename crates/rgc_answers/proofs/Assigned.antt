-- Rows after assignments.
use Rattle.std.proofs.Common.{◌≡◌, ◌<◌, ◌+◌, ℕ, zero, suc, List, [], ◌∷◌, ◌++◌, length, map, take, get_or, refl, ap, sym, ◌∙◌, length-append, length-set, arith}
use Rattle.std.proofs.lemmas.List.{map-append, length-map}
use Rattle.std.proofs.lemmas.Grind.{take_at_read}
use Rattle.rg_tree.specs.declared.condition.Assign.{Assign}
use Rattle.rg_tree.specs.declared.tree.Expr.{Expr}
use Rattle.rg_tree.specs.Trees.{Expression, word, next_word, Assignment}
use Rattle.rg_tree.specs.ConditionTrees.{SecondState, same, free, after, assignment, AssignmentsFit}
use Rattle.rg_tree.specs.View.{expression}
use Rattle.rgc_answers.specs.Replaced.{expression_over}
use Rattle.rgc_answers.specs.Rows.{plain_row, primed_row, assigned_row, moved_row, before_row, second_row}

-- the assignment at a place fits where all do
pub fits_at : (act : List Assign) (n i : ℕ) (a : Assign) → AssignmentsFit (map assignment act) n → i < length act → a ≡ get_or act i a → AssignmentsFit (assignment a ∷ []) n
fits_at [] n i a fits less is = absurd (omega (arith, less))
fits_at (b ∷ act) n zero a fits less is = let e : a ≡ b = is in rw e (fits.0, fits.1, tt)
fits_at (b ∷ act) n (suc i) a fits less is = fits_at act n i a fits.2 (omega (arith, less)) is

-- one assignment more
pub assigned_more : (act : List Assignment) (a : Assignment) (row : List Expression) → assigned_row (act ++ a ∷ []) row ≡ assigned_row (a ∷ []) (assigned_row act row)
assigned_more [] a row = refl
assigned_more (b ∷ act) a row = assigned_more act a _

pub moved_more : (act : List Assignment) (a : Assignment) (row : List Expression) → moved_row (act ++ a ∷ []) row ≡ moved_row (a ∷ []) (moved_row act row)
moved_more [] a row = refl
moved_more (b ∷ act) a row = moved_more act a _

-- the assignments up to a place, and the one there
pub taken : (act : List Assign) (i : ℕ) (a : Assign) → i < length act → a ≡ get_or act i a → map assignment (take (i + 1) act) ≡ map assignment (take i act) ++ assignment a ∷ []
taken act i a less is =
    ap (λ l. map assignment l) ((take_at_read act i a less).1)
    ∙ map-append assignment (take i act) (get_or act i a ∷ [])
    ∙ ap (λ b. map assignment (take i act) ++ assignment b ∷ []) (sym is)

pub assigned_taken : (act : List Assign) (i : ℕ) (a : Assign) (row : List Expression) → i < length act → a ≡ get_or act i a
    → assigned_row (map assignment (take (i + 1) act)) row ≡ assigned_row (assignment a ∷ []) (assigned_row (map assignment (take i act)) row)
assigned_taken act i a row less is = ap (λ l. assigned_row l row) (taken act i a less is) ∙ assigned_more (map assignment (take i act)) (assignment a) row

pub moved_taken : (act : List Assign) (i : ℕ) (a : Assign) (row : List Expression) → i < length act → a ≡ get_or act i a
    → moved_row (map assignment (take (i + 1) act)) row ≡ moved_row (assignment a ∷ []) (moved_row (map assignment (take i act)) row)
moved_taken act i a row less is = ap (λ l. moved_row l row) (taken act i a less is) ∙ moved_more (map assignment (take i act)) (assignment a) row

-- how many there are
pub length-plain : (n : ℕ) → length (plain_row n) ≡ n
length-plain zero = refl
length-plain (suc n) = length-append (plain_row n) (word n ∷ []) ∙ ap (λ k. k + 1) (length-plain n) ∙ omega arith

pub length-primed : (n : ℕ) → length (primed_row n) ≡ n
length-primed zero = refl
length-primed (suc n) = length-append (primed_row n) (next_word n ∷ []) ∙ ap (λ k. k + 1) (length-primed n) ∙ omega arith

pub length-assigned : (act : List Assignment) (row : List Expression) → length (assigned_row act row) ≡ length row
length-assigned [] row = refl
length-assigned (a ∷ act) row = length-assigned act _ ∙ length-set row a.target (expression_over row row a.value)

pub length-moved : (act : List Assignment) (row : List Expression) → length (moved_row act row) ≡ length row
length-moved [] row = refl
length-moved (a ∷ act) row = length-moved act _ ∙ length-set row a.target (next_word a.target)

-- a row of the code has as many
pub counted : (items : List Expr) (row : List Expression) (n : ℕ) → map expression items ≡ row → length row ≡ n → length items ≡ n
counted items row n is count = sym (length-map items expression) ∙ ap (λ l. length l) is ∙ count

-- the rows of the second state have as many
pub length-before : (second : SecondState) (n : ℕ) → length (before_row second n) ≡ n
length-before same n = length-plain n
length-before free n = length-primed n
length-before (after act) n = length-plain n

pub length-second : (second : SecondState) (n : ℕ) → length (second_row second n) ≡ n
length-second same n = length-plain n
length-second free n = length-primed n
length-second (after act) n = length-moved act (plain_row n) ∙ length-plain n
