-- The names of the functions of headers, by the headers' titles.
use Rattle.std.specs.Prelude.{◌≡◌, ℕ, Bool, false, ◌||◌, nat_eq, List, [], ◌∷◌, ◌++◌, codes}
use Rattle.std.specs.List.{starts_with}

-- the functions: of the pre, of the post, of a part from its beginning to its end, of one round of a part, and of one use of named statements
pub data Function : Type 0 where
  asks_pre : Function
  asks_post : Function
  runs : List ℕ → Function
  goes_round : List ℕ → Function
  performs : List ℕ → Function

-- what comes behind the title
abbrev pub role : Function → List ℕ
role asks_pre = codes "_pre"
role asks_post = codes "_post"
role (runs part) = codes "_run_" ++ part
role (goes_round part) = codes "_round_" ++ part
role (performs name) = codes "_perform_" ++ name

abbrev pub function_name : List ℕ → Function → List ℕ
function_name title f = title ++ role f

-- a text stands somewhere in a name
abbrev pub stands_in : List ℕ → List ℕ → Bool
stands_in text [] = false
stands_in text (c ∷ name) = starts_with nat_eq (c ∷ name) text || stands_in text name

-- a title has in it what could be taken for the name of a function
abbrev pub has_role : List ℕ → Bool
has_role title = (stands_in (codes "_run") title || stands_in (codes "_round") title) || stands_in (codes "_perform") title

-- under titles without such a text, functions of one name are the same function of the same header
abbrev pub FunctionsStayApart : Type 0
FunctionsStayApart = (t u : List ℕ) (f g : Function) → has_role t ≡ false → has_role u ≡ false → function_name t f ≡ function_name u g → (t ≡ u) × (f ≡ g)
