-- What is remembered from hint to hint.
use Rattle.std.specs.Prelude.{◌≡◌, ◌⊎◌, ℕ, ℤ, List, [], ◌∷◌, ◌++◌, Contains, IfSome}
use Rattle.std.specs.Global.{Global}
use Rattle.std.specs.Ordering.{nat_cmp}
use Rattle.std.specs.BTreeMap.{BTreeMap, get}
use Rattle.std.specs.BTreeSet.{insert_key}
use Rattle.std.specs.declared.vec.Vec.{Vec}
use Rattle.rg_hint_lines.specs.Lines.{Section}
use Rattle.rg_hints.specs.Hints.{Names}

-- the lists have the same elements
pub record HasSame (one other : List ℤ) : Type 0 where
  pub to : (x : ℤ) → Contains one x → Contains other x
  pub from : (x : ℤ) → Contains other x → Contains one x

-- if there is a copy under this number, it has the literals of this clause
abbrev pub IsCopyOf : ℕ → List ℤ → BTreeMap ℕ (Vec ℤ Global) → Type 0
IsCopyOf id clause copies = IfSome (get nat_cmp copies id) (λ copy. HasSame clause copy.items)

-- each copy has the literals of the clause that its number names
abbrev pub AreCopies : List (List ℤ) → Section → BTreeMap ℕ (Vec ℤ Global) → Type 0
AreCopies given s copies = (id : ℕ) (clause : List ℤ) → Names given s.lines id clause → IsCopyOf id clause copies

-- the copies are as they were, but for the one under this number, which has the literals of this clause
abbrev pub IsCopied : ℕ → List ℤ → BTreeMap ℕ (Vec ℤ Global) → BTreeMap ℕ (Vec ℤ Global) → Type 0
IsCopied id clause old new =
    IsCopyOf id clause new × ((other : ℕ) → (get nat_cmp new other ≡ get nat_cmp old other) ⊎ (other ≡ id))

-- the literal was added to the set, or it was there already and the hint is idle from now on
abbrev pub IsTaken : List ℤ → List ℕ → ℕ → ℤ → List ℤ → List ℕ → Type 0
IsTaken set idle hint literal new_set new_idle =
    ((new_set ≡ set ++ literal ∷ []) × (new_idle ≡ idle))
    ⊎ (Contains set literal × (new_set ≡ set) × (new_idle ≡ insert_key nat_cmp idle hint))
