-- The demands on a line, and the rules' own words for lines that fit.
use Rattle.std.proofs.Common.{◌≡◌, ℕ, zero, suc, ◌+◌, ◌<◌, ◌≤◌, List, [], ◌∷◌, length, map, Some, Bool, true, IsTrue, ◌==◌, ◌↔◌, refl, ap, subst, ◌∙◌, arith}
use Rattle.std.proofs.lemmas.List.{length-map}
use Rattle.std.proofs.lemmas.Bool.Decides.{nat_tests}
use Rattle.std.specs.Prelude.{slice_get}
use Rattle.rg_tree.specs.Statements.{Items, one, more, Specification}
use Rattle.rg_tree.specs.Programs.{nth}
use Rattle.rg_tree.specs.Lines.{LineTree}
use Rattle.rg_rules.specs.Faults.{count_items, item_numbers, AreEarlier, lines_at, found_first, AreChained}

pub some_items : (items : Items) → 1 ≤ count_items items
some_items (one s) = omega arith
some_items (more s items) = omega arith

get_within : {X : Type 0} (xs : List X) (i : ℕ) → i < length xs → (x : X) × (slice_get xs i ≡ Some x)
get_within [] i h = absurd (omega arith)
get_within (x ∷ xs) zero h = (x, refl)
get_within (x ∷ xs) (suc i) h = get_within xs i (omega arith)

pub nth_within : {X : Type 0} (xs : List X) (i : ℕ) → 1 ≤ i → i ≤ length xs → (x : X) × (nth xs i ≡ Some x)
nth_within xs zero h k = absurd (omega arith)
nth_within xs (suc i) h k = get_within xs i (omega arith)

-- there are as many lines as numbers of earlier lines
pub length-lines_at : (lines : List LineTree) (n : ℕ) (is : List ℕ) → AreEarlier n is → n ≤ length lines + 1 → length (lines_at lines is) ≡ length is
length-lines_at lines n [] h le = refl
length-lines_at lines n (i ∷ is) h le =
    let found = nth_within lines i h.0 (omega (arith, h.1)) in
    ap (λ o. length (found_first o (lines_at lines is))) found.1 ∙ ap suc (length-lines_at lines n is h.2 le)

pub numbered_items : (n : ℕ) (items : Items) → 1 ≤ length (item_numbers n items)
numbered_items n (one s) = omega arith
numbered_items n (more s items) = omega arith

pub none_numbered : (lines : List LineTree) (n : ℕ) (items : Items) (is : List ℕ) → length is ≡ 0 → map (λ l. l.number) (lines_at lines is) ≡ item_numbers n items → ⊥
none_numbered lines n items [] z e = let some = numbered_items n items in absurd (omega (arith, ap length e))
none_numbered lines n items (i ∷ is) z e = absurd (omega arith)

one_side : (b : Bool) (X : Type 0) → b ≡ true → X → IsTrue b ↔ X
one_side b X h x = (λ _. x, λ _. h)

-- the last item's premise is the last premise
pub one_numbered : (lines : List LineTree) (k n i : ℕ) (is others : List ℕ) (line : LineTree) (b : Bool) → is ≡ i ∷ others → AreEarlier k is → k ≤ length lines + 1 → nth lines i ≡ Some line → line.number ≡ n → b ≡ (length others == 0) → IsTrue b ↔ (map (λ l. l.number) (lines_at lines is) ≡ n ∷ [])
one_numbered lines k n i is [] line b split early le found same test =
    one_side b _ test (ap (λ l. map (λ x. x.number) (lines_at lines l)) split ∙ ap (λ o. map (λ x. x.number) (found_first o [])) found ∙ ap (λ m. m ∷ []) same)
one_numbered lines k n i is (j ∷ js) line b split early le found same test =
    let long = length-lines_at lines k is early le in
    let count : length is ≡ suc (suc (length js)) = ap length split in
    (λ h. let none : length (j ∷ js) ≡ 0 = grind (arith, nat_tests, h, test) in absurd (omega (arith, none)), λ e. absurd (omega (arith, simp length-map at (ap length e))))

chained_first : (spec a : Specification) (xs : List Specification) (b : Bool) → 1 ≤ length xs → a ≡ record spec { post = a.post } → IsTrue b ↔ AreChained (record spec { pre = a.post }) xs → IsTrue b ↔ AreChained spec (a ∷ xs)
chained_first spec a [] b some same rest = absurd (omega arith)
chained_first spec a (x ∷ xs) b some same rest = (λ h. (same, rest.0 h), λ h. rest.1 h.1)

-- a premise that isn't the last one, and those after it
pub chained_from : (lines : List LineTree) (k i : ℕ) (is others : List ℕ) (line : LineTree) (spec : Specification) (b : Bool) → is ≡ i ∷ others → nth lines i ≡ Some line → AreEarlier k is → k ≤ length lines + 1 → 1 ≤ length others → line.spec ≡ record spec { post = line.spec.post } → IsTrue b ↔ AreChained (record spec { pre = line.spec.post }) (map (λ l. l.spec) (lines_at lines others)) → IsTrue b ↔ AreChained spec (map (λ l. l.spec) (lines_at lines is))
chained_from lines k i is others line spec b split found early le some same rest =
    let early' = subst (AreEarlier k) split early in
    let count = length-lines_at lines k others early'.2 le in
    let long : 1 ≤ length (map (λ (l : LineTree). l.spec) (lines_at lines others)) = simp length-map (omega arith) in
    let whole = chained_first spec line.spec (map (λ l. l.spec) (lines_at lines others)) b long same rest in
    rw (split, found) whole

pub earlier_more : (k n : ℕ) (is : List ℕ) → AreEarlier k is → k ≤ n → AreEarlier n is
earlier_more k n [] h le = tt
earlier_more k n (i ∷ is) h le = (h.0, omega (arith, h.1), earlier_more k n is h.2 le)

pub chained_split : (spec a : Specification) (xs : List Specification) → 1 ≤ length xs → AreChained spec (a ∷ xs) → (a ≡ record spec { post = a.post }) × AreChained (record spec { pre = a.post }) xs
chained_split spec a [] some h = absurd (omega arith)
chained_split spec a (x ∷ xs) some h = h

pub chained_join : (spec a : Specification) (xs : List Specification) → a ≡ record spec { post = a.post } → AreChained (record spec { pre = a.post }) xs → AreChained spec (a ∷ xs)
chained_join spec a [] same rest = absurd rest
chained_join spec a (x ∷ xs) same rest = (same, rest)
