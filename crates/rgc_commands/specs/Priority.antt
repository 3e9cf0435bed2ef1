-- Which parts run on one core, and which interrupt which there, as a text says: isr > main, dma > net.
use Rattle.std.specs.Prelude.{◌≡◌, ℕ, ◌+◌, ◌-◌, Bool, not, nat_eq, nat_lt, List, [], ◌∷◌, ◌++◌, codes, length, map, take, drop, find, Option, Some, None, option_map, is_some, if◌then◌else◌, string_bytes}
use Rattle.std.specs.List.{list_any, slice_split, prefix_len, suffix_len}
use Rattle.std.specs.Option.{option_map_or}
use Rattle.std.specs.Borrow.{Bor}
use Rattle.std.specs.Char.{is_ascii_whitespace}
use Rattle.std.specs.Str.{bytes_eq}
use Rattle.rg_tree.specs.Statements.{PartTree, ProgramTree}
use Rattle.rg_c_plan.specs.declared.order.Rank.{Rank}
use Rattle.rg_outline_reports.specs.declared.files.OutlineFiles.{OutlineFiles}

-- the text that a word of the line is, where there is one
abbrev pub said : Option (Bor (List ℕ)) → Option (List ℕ)
said word = option_map (λ text. text.now) word

-- what an outline says itself, if it says anything
abbrev pub said_in : List ℕ → Option (List ℕ)
said_in [] = None
said_in (b ∷ bs) = Some (b ∷ bs)

-- the text that counts for an outline: that of the line, where there is one, else its own
abbrev pub priority_for : Option (Bor (List ℕ)) → OutlineFiles → Option (List ℕ)
priority_for (Some text) outline = Some text.now
priority_for None outline = said_in (string_bytes outline.priority)

-- a text without the white space at its ends
abbrev pub trimmed : List ℕ → List ℕ
trimmed text = let rest = drop (prefix_len is_ascii_whitespace text) text in take (length rest - suffix_len is_ascii_whitespace rest) rest

-- the cores, with commas between them
abbrev pub cores_in : List ℕ → List (List ℕ)
cores_in text = slice_split (λ b. nat_eq b 44) text

-- the names of the parts on a core, with > between them: each interrupts those behind it
abbrev pub names_on : List ℕ → List (List ℕ)
names_on core = slice_split (λ b. nat_eq b 62) core

-- a part that is named, and its rank
pub record NamedTree : Type 0 where
  pub name : List ℕ
  pub rank : Rank

-- the parts on the c-th core, of which the first of these has the i-th place there
abbrev pub named_on : ℕ → ℕ → List (List ℕ) → List NamedTree
named_on c i [] = []
named_on c i (name ∷ names) = record { name = trimmed name; rank = record { core = c; place = i } } ∷ named_on c (i + 1) names

-- the parts on these cores, of which the first is the c-th
abbrev pub named_from : ℕ → List (List ℕ) → List NamedTree
named_from c [] = []
named_from c (core ∷ cores) = named_on c 0 (names_on core) ++ named_from (c + 1) cores

-- all parts that are named
abbrev pub named_in : List ℕ → List NamedTree
named_in text = named_from 0 (cores_in text)

-- the rank of a part of this name, where it is named
abbrev pub rank_named : List NamedTree → List ℕ → Option Rank
rank_named ns name = option_map (λ (n : NamedTree). n.rank) (find (λ (n : NamedTree). bytes_eq n.name name) ns)

-- the rank of each part
abbrev pub ranks_of : List NamedTree → List PartTree → List (Option Rank)
ranks_of ns parts = map (λ (part : PartTree). rank_named ns part.name) parts

abbrev pub order_for : ProgramTree → Option (List ℕ) → List (Option Rank)
order_for p None = []
order_for p (Some text) = ranks_of (named_in text) p.parts

-- a core on which a part is alone
abbrev pub is_alone : List ℕ → Bool
is_alone core = nat_lt (length (names_on core)) 2

-- the first name that stands twice
abbrev pub first_twice : List NamedTree → Option (List ℕ)
first_twice [] = None
first_twice (n ∷ ns) = if is_some (rank_named ns n.name) then Some n.name else first_twice ns

-- the first name that is that of no part
abbrev pub is_part : List PartTree → List ℕ → Bool
is_part parts name = list_any (λ (part : PartTree). bytes_eq part.name name) parts

abbrev pub first_stranger : List PartTree → List NamedTree → Option (List ℕ)
first_stranger parts ns = option_map (λ (n : NamedTree). n.name) (find (λ (n : NamedTree). not (is_part parts n.name)) ns)

-- the lines that report this
abbrev pub alone_line : List ℕ → List ℕ
alone_line core = codes "error: --priority has " ++ trimmed core ++ codes " alone on a core: a part is followed by > and those that it interrupts, as in isr > main\n"

abbrev pub twice_line : List ℕ → List ℕ
twice_line name = codes "error: --priority names " ++ name ++ codes " twice\n"

abbrev pub stranger_line : List ℕ → List ℕ
stranger_line name = codes "error: --priority names " ++ name ++ codes ", which is no part of the program\n"

-- why parts that are named so on these cores aren't those of a program, if it is so: a part is alone on a core, is named twice, or there is none of its name
abbrev pub fault_among : List PartTree → List (List ℕ) → List NamedTree → Option (List ℕ)
fault_among parts cores ns =
    option_map_or (λ core. Some (alone_line core)) (find is_alone cores)
    (option_map_or (λ name. Some (twice_line name)) (first_twice ns) (option_map stranger_line (first_stranger parts ns)))

abbrev pub fault_in : List PartTree → List ℕ → Option (List ℕ)
fault_in parts text = fault_among parts (cores_in text) (named_in text)

abbrev pub misordered : ProgramTree → Option (List ℕ) → Option (List ℕ)
misordered p None = None
misordered p (Some text) = fault_in p.parts text

-- a text says which parts of a program run on one core, and which interrupt which
abbrev pub IsOrdered : Option (List ℕ) → ProgramTree → List (Option Rank) → Type 0
IsOrdered priority p order = (misordered p priority ≡ None) × (order ≡ order_for p priority)
