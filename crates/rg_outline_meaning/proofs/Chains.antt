-- Chains of `and` and `or`, link by link.
use Rattle.std.proofs.Common.{◌≡◌, ℕ, ◌+◌, ◌-◌, ◌<◌, ◌≤◌, refl, sym, ◌∙◌, ap, subst, List, [], ◌∷◌, ◌++◌, map, take, length, slice_index_or, arith}
use Rattle.std.proofs.lemmas.List.{map-append, take_more, take_all}
use Rattle.rg_words.specs.Layout.{Word}
use Rattle.rg_tree.specs.Trees.{Proposition}
use Rattle.rg_outline_syntax.specs.declared.written.Junction.{Junction}
use Rattle.rg_outline_syntax.specs.declared.written.ExpressionKind.TheVariants.{Join}
use Rattle.rg_outline_meaning.specs.Meanings.{claim, joined}
use Rattle.rg_outline_meaning.specs.Names.{Outline, HasKind, Names}
use Rattle.rg_outline_meaning.specs.Expressions as rule
use Rattle.rg_outline_meaning.specs.Expressions.{StandsFor}
use Rattle.rg_outline_meaning.specs.Inner.{Descends}
use Rattle.rg_outline_meaning.specs.declared.expressions.Link.{Link}

abbrev pub link : Link → Junction × ℕ
link l = (l.junction, l.operand)

module _ (o : Outline) where
  -- one link further
  descends_and_one : (i : ℕ) (ls : List (Junction × ℕ)) (first left : ℕ) (l : Junction × ℕ) → Descends o i ls first → HasKind o first (Join l.0 left l.1) → Descends o i (ls ++ l ∷ []) left
  descends_and_one i [] first left l is made = (left, subst (λ k. HasKind o k (Join l.0 left l.1)) (sym is) made, refl)
  descends_and_one i (k ∷ ls) first left l down made = (down.0, down.1, descends_and_one down.0 ls first left l down.2 made)

  -- back by the last link
  descends_back : (i : ℕ) (ls : List (Junction × ℕ)) (l : Junction × ℕ) (node : ℕ) → Descends o i (ls ++ l ∷ []) node → (up : ℕ) × Descends o i ls up × HasKind o up (Join l.0 node l.1)
  descends_back i [] l node down = (i, refl, subst (λ k. HasKind o i (Join l.0 k l.1)) down.2 down.1)
  descends_back i (k ∷ ls) l node down =
      let rest : (up : ℕ) × Descends o down.0 ls up × HasKind o up (Join l.0 node l.1) = descends_back down.0 ls l node down.2 in
      (rest.0, (down.0, down.1, rest.1), rest.2)

  -- a chain of one link
  pub begun : (old new : List Link) (last : Link) (before index : ℕ) → old ≡ [] → new ≡ old ++ last ∷ [] → HasKind o index (Join last.junction before last.operand) → Descends o index (map link new) before
  begun old new last before index none pushed made = rw (pushed, none) (before, made, refl)

  -- a longer chain
  pub longer : (old new : List Link) (l : Link) (first left index : ℕ) → new ≡ old ++ l ∷ [] → Descends o index (map link old) first → HasKind o first (Join l.junction left l.operand) → Descends o index (map link new) left
  longer old new l first left index pushed down made = rw (pushed, map-append link old (l ∷ [])) (descends_and_one index (map link old) first left (link l) down made)

  module _ (words : List Word) (names : Names) (links : List Link) (index : ℕ) where
    -- what the operands so far make
    abbrev pub MakesSo : ℕ → Proposition → Type 0
    MakesSo place p = (node : ℕ) × Descends o index (map link (take (length links - place) links)) node × StandsFor o words names node (claim p)

    pub first_operand : (first : ℕ) (p : Proposition) → Descends o index (map link links) first → StandsFor o words names first (claim p) → MakesSo 0 p
    first_operand first p down stands = (first, subst (λ ls. Descends o index (map link ls) first) (sym (take_all (length links - 0) links (omega arith))) down, stands)

    pub next_operand : (place : ℕ) (d l : Link) (p next q : Proposition) → place < length links → l ≡ slice_index_or links (length links - 1 - place) d → StandsFor o words names l.operand (claim next) → q ≡ joined l.junction p next → MakesSo place p → MakesSo (place + 1) q
    next_operand place d l p next q low at stands is so =
        let less = length links - (place + 1) in
        let there : length links - 1 - place ≡ less = omega arith in
        let more : length links - place ≡ less + 1 = omega arith in
        let inside : less < length links = omega arith in
        let taken : take (length links - place) links ≡ take less links ++ l ∷ [] = ap (λ n. take n links) more ∙ take_more links less d inside ∙ ap (λ x. take less links ++ x ∷ []) (ap (λ n. slice_index_or links n d) (sym there) ∙ sym at) in
        let down : Descends o index (map link (take less links) ++ link l ∷ []) so.0 = subst (λ ls. Descends o index ls so.0) (ap (λ ls. map link ls) taken ∙ map-append link (take less links) (l ∷ [])) so.1 in
        let back : (up : ℕ) × Descends o index (map link (take less links)) up × HasKind o up (Join l.junction so.0 l.operand) = descends_back index (map link (take less links)) (link l) so.0 down in
        (back.0, back.1, subst (λ r. StandsFor o words names back.0 (claim r)) (sym is) (rule.junction names back.0 so.0 l.operand l.junction p next back.2 so.2 stands))

    pub all_operands : (place : ℕ) (p : Proposition) → length links ≤ place → MakesSo place p → StandsFor o words names index (claim p)
    all_operands place p far so =
        let none : length links - place ≡ 0 = omega arith in
        let at : index ≡ so.0 = subst (λ n. Descends o index (map link (take n links)) so.0) none so.1 in
        subst (λ i. StandsFor o words names i (claim p)) (sym at) so.2

pub ruleset chains = (begun, longer)
