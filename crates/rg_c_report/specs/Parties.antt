-- Who reads and who writes a word.
use Rattle.std.specs.Prelude.{ℕ, List, [], ◌∷◌, ◌++◌, codes, map}
use Rattle.std.specs.List.{filter}
use Rattle.rg_tree.specs.Statements.{PartTree, ProgramTree}
use Rattle.rg_c_plan.specs.declared.access.Access.{Access}
use Rattle.rg_c_plan.specs.Accesses.{steps, part_access, world_access}
use Rattle.rg_c_report.specs.Words.{commas}

-- a part, or the world outside, and how it accesses a word
pub record PartyTree : Type 0 where
  pub name : List ℕ
  pub access : Access

-- how a part accesses the word
abbrev pub party_of : ℕ → PartTree → PartyTree
party_of k part = record { name = part.name; access = part_access k (steps part.body) }

-- each party: the parts in their order, and then the world outside
abbrev pub parties : ProgramTree → ℕ → List PartyTree
parties p k = map (party_of k) p.parts ++ record { name = codes "outside"; access = world_access k p.words p.spec.rely } ∷ []

-- the names of those that read, and of those that write
abbrev pub readers : List PartyTree → List (List ℕ)
readers list = map (λ (q : PartyTree). q.name) (filter (λ (q : PartyTree). q.access.reads) list)

abbrev pub writers : List PartyTree → List (List ℕ)
writers list = map (λ (q : PartyTree). q.name) (filter (λ (q : PartyTree). q.access.writes) list)

-- who reads and who writes; nothing is said where nobody does
abbrev pub names_text : List (List ℕ) → List (List ℕ) → List ℕ
names_text [] [] = codes "unused"
names_text (r ∷ rs) [] = codes "read by " ++ commas (r ∷ rs)
names_text [] (w ∷ ws) = codes "written by " ++ commas (w ∷ ws)
names_text (r ∷ rs) (w ∷ ws) = codes "read by " ++ (commas (r ∷ rs) ++ (codes "; written by " ++ commas (w ∷ ws)))

-- who reads the word and who writes it
abbrev pub parties_text : ProgramTree → ℕ → List ℕ
parties_text p k = names_text (readers (parties p k)) (writers (parties p k))
