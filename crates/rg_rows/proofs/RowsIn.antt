-- rows of the circuit's literals
use Rattle.std.proofs.Common.{◌≡◌, ℕ, zero, suc, ◌+◌, ◌-◌, ◌/◌, ◌%◌, ◌<◌, min, Bool, true, false, cond, nat_eq, List, [], ◌∷◌, ◌++◌, length, get_or, drop, replicate, sym, ap, ⊎_elim, arith, subst}
use Rattle.std.specs.List.{All}
use Rattle.std.proofs.lemmas.Bool.{cases_lt}
use Rattle.std.proofs.lemmas.List.{get_or_past}
use Rattle.std.proofs.lemmas.List.Elements.{All-append, All-take, All-drop, All-from_get_or, All-replicate, All-map}
use Rattle.rg_gates.specs.declared.Lit.{Lit}
use Rattle.rg_gates.specs.declared.Lit.TheVariants.{True, False}
use Rattle.rg_gates.specs.Circuit.{Circuit, negation}
use Rattle.rg_gates.specs.Extends.{Extends, IsIn}
use Rattle.rg_gates.proofs.Growth.{IsIn-extends, IsIn-negation}
use Rattle.rg_rows.specs.Rows.{inverted, number_row}
use Rattle.rg_rows.specs.Within.{IsRowIn}

pub IsRowIn-extends : {a b : Circuit} {row : List Lit} → Extends a b → IsRowIn a row → IsRowIn b row
IsRowIn-extends e h = record { bits = λ k. IsIn-extends e (h.bits k) }

pub IsRowIn-nil : {c : Circuit} → IsRowIn c []
IsRowIn-nil = record { bits = λ k. record { bound = tt } }

pub IsIn-constant : {c : Circuit} (b : Bool) → IsIn c (cond b True False)
IsIn-constant true = record { bound = tt }
IsIn-constant false = record { bound = tt }

pub all_in : (c : Circuit) (row : List Lit) → IsRowIn c row → All (λ l. IsIn c l) row
all_in c row h = All-from_get_or (λ l. IsIn c l) row True (λ i less. h.bits i)

pub row_in : (c : Circuit) (row : List Lit) → All (λ l. IsIn c l) row → IsRowIn c row
row_in c row h = record {
  bits = λ k. ⊎_elim (λ less. h k True less)
      (λ past. let P : Lit → Type 0 = λ l. IsIn c l in subst P (sym (get_or_past row k True past)) (record { bound = tt })) (cases_lt k (length row));
}

pub same_row : (c : Circuit) (row out : List Lit) → out ≡ row → IsRowIn c row → IsRowIn c out
same_row c row out e h = let P : List Lit → Type 0 = λ r. IsRowIn c r in subst P (sym e) h

pub IsRowIn-inverted : {c : Circuit} {row out : List Lit} → out ≡ inverted row → IsRowIn c row → IsRowIn c out
IsRowIn-inverted {c} {row} {out} e h = same_row c (inverted row) out e (row_in c (inverted row) (All-map (λ l. IsIn c l) negation row (λ k d less. IsIn-negation (all_in c row h k d less))))

pub cons_in : (c : Circuit) (l : Lit) (row : List Lit) → IsIn c l → IsRowIn c row → IsRowIn c (l ∷ row)
cons_in c l row h rest = record { bits = bits_at } where
  bits_at : (k : ℕ) → IsIn c (get_or (l ∷ row) k True)
  bits_at zero = h
  bits_at (suc k) = rest.bits k

number_in : (c : Circuit) (w n : ℕ) → IsRowIn c (number_row w n)
number_in c zero n = record { bits = λ k. record { bound = tt } }
number_in c (suc w) n = cons_in c (cond (nat_eq (n % 2) 1) True False) (number_row w (n / 2)) (IsIn-constant (nat_eq (n % 2) 1)) (number_in c w (n / 2))

pub IsRowIn-number : {c : Circuit} {out : List Lit} (w n : ℕ) → out ≡ number_row w n → IsRowIn c out
IsRowIn-number {c} {out} w n e = same_row c (number_row w n) out e (number_in c w n)

pub number_row_next : (w i n : ℕ) → i < w → number_row (w - i) n ≡ cond (nat_eq (n % 2) 1) True False ∷ number_row (w - (i + 1)) (n / 2)
number_row_next w i n h = let e : w - i ≡ suc (w - (i + 1)) = omega arith in ap (λ m. number_row m n) e
