-- No step of a typed program writes a fixed word, so nobody meets at one.
use Rattle.std.proofs.Common.{◌≡◌, ◌∙◌, ℕ, Bool, true, false, not, cond, ◌&&◌, nat_eq, List, [], ◌∷◌, ◌++◌, get_or, map, refl, ap, sym, arith}
use Rattle.std.specs.List.{All, AllPairs}
use Rattle.std.proofs.lemmas.Bool.{true≢false, not_from_true, ne_eqb, or_from, and_left, and_right}
use Rattle.std.proofs.lemmas.List.Elements.{All-nil, All-cons, All-append}
use Rattle.rg_words.specs.Layout.{Word, fixed_of}
use Rattle.rg_tree.specs.Trees.{Assignment}
use Rattle.rg_tree.specs.Statements.{Statement, skip, assign, await, sequence, branch, loop, Items, one, more, PartTree, ProgramTree}
use Rattle.rg_tree.specs.TypedPrograms.{TargetsFree, IsTypedStatement, AreTypedItems, AreTypedParts, IsTypedProgram}
use Rattle.rg_c_plan.specs.declared.access.Access.{Access}
use Rattle.rg_c_plan.specs.Changes.{is_word, moving}
use Rattle.rg_c_plan.specs.Accesses.{StepTree, steps, steps_of_items, writes, part_access, world_access, accesses, is_fixed, is_touched, meet}
use Rattle.rg_c_plan.proofs.Lists.{none_passes}

-- no two parties meet at a word
abbrev pub NobodyMeetsAt : ProgramTree → ℕ → Type 0
NobodyMeetsAt p k = AllPairs (λ a b. meet a b ≡ false) (accesses p k)

module _ (words : List Word) (k : ℕ) (fixed : is_fixed words k ≡ true) where
  free_targets : (act : List Assignment) → TargetsFree words act → writes k (moving act) ≡ false
  free_targets [] t = refl
  free_targets (a ∷ act) t = by (is_word a.target a.value) (free_targets act t.1)
    where
      by : (b : Bool) → writes k (moving act) ≡ false → writes k (cond (not b) (a ∷ moving act) (moving act)) ≡ false
      by true rest = rest
      by false rest =
          or_from (nat_eq k a.target) (writes k (moving act)) (ne_eqb k a.target (λ e. true≢false (sym fixed ∙ ap (λ i. get_or (fixed_of words) i false) e ∙ t.0))) rest

  -- none of these steps writes the word
  abbrev Unwritten : List StepTree → Type 0
  Unwritten ss = All (λ (s : StepTree). writes k s.act ≡ false) ss

  first_of : (s : StepTree) (ss : List StepTree) → writes k s.act ≡ false → Unwritten ss → Unwritten (s ∷ ss)
  first_of s ss h rest = All-cons (λ (t : StepTree). writes k t.act ≡ false) s ss h rest

  nothing : Unwritten []
  nothing = All-nil (λ (t : StepTree). writes k t.act ≡ false)

  then : (ss ts : List StepTree) → Unwritten ss → Unwritten ts → Unwritten (ss ++ ts)
  then ss ts h rest = All-append (λ (t : StepTree). writes k t.act ≡ false) ss ts h rest

  mutual
    unwritten : (s : Statement) → IsTypedStatement words s → Unwritten (steps s)
    unwritten (skip row) t = first_of _ [] refl nothing
    unwritten (assign row a) t = first_of _ [] (free_targets (a ∷ []) t.1) nothing
    unwritten (await row b act) t = first_of _ [] (free_targets act t.1.1) nothing
    unwritten (sequence row s items) t = then (steps s) (steps_of_items items) (unwritten s t.0) (unwritten_items items t.1)
    unwritten (branch row b s u) t = first_of _ (steps s ++ steps u) refl (then (steps s) (steps u) (unwritten s t.1) (unwritten u t.2))
    unwritten (loop row b s) t = first_of _ (steps s) refl (unwritten s t.1)

    unwritten_items : (items : Items) → AreTypedItems words items → Unwritten (steps_of_items items)
    unwritten_items (one s) t = unwritten s t
    unwritten_items (more s items) t = then (steps s) (steps_of_items items) (unwritten s t.0) (unwritten_items items t.1)

  -- none of these parties writes the word
  abbrev Calm : List Access → Type 0
  Calm xs = All (λ (a : Access). a.writes ≡ false) xs

  calm_parts : (ps : List PartTree) → AreTypedParts words ps → Calm (map (λ (part : PartTree). part_access k (steps part.body)) ps)
  calm_parts [] t = All-nil (λ (a : Access). a.writes ≡ false)
  calm_parts (p ∷ ps) t =
      All-cons (λ (a : Access). a.writes ≡ false) (part_access k (steps p.body)) (map (λ (part : PartTree). part_access k (steps part.body)) ps)
      (none_passes (λ (s : StepTree). writes k s.act) (steps p.body) (unwritten p.body t.1))
      (calm_parts ps t.2)

  nobody_meets : (xs : List Access) → Calm xs → AllPairs (λ a b. meet a b ≡ false) xs
  nobody_meets xs calm = λ i j d less within.
      let a = get_or xs i d in
      let b = get_or xs j d in
      or_from (is_touched a && b.writes) (a.writes && is_touched b)
      (and_right (is_touched a) b.writes (calm j d within))
      (and_left a.writes (is_touched b) (calm i d (omega (arith, less, within))))

pub fixed_apart : (p : ProgramTree) → IsTypedProgram p → (k : ℕ) → is_fixed p.words k ≡ true → NobodyMeetsAt p k
fixed_apart p typed k fixed =
    let world = world_access k p.words p.spec.rely in
    let rest = map (λ (part : PartTree). part_access k (steps part.body)) p.parts in
    nobody_meets p.words k fixed (world ∷ rest)
    (All-cons (λ (a : Access). a.writes ≡ false) world rest (and_left (not (is_fixed p.words k)) _ (not_from_true (is_fixed p.words k) fixed)) (calm_parts p.words k fixed p.parts typed.parts))
