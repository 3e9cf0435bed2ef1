-- How many statements the tokens of a program begin.
use Rattle.std.proofs.Common.{◌≡◌, ℕ, suc, ◌+◌, ◌<◌, ◌≤◌, cond, List, [], ◌∷◌, ◌++◌, length, map, reverse, drop, get_or, nat_lt, Vec, Global, refl, sym, ap, ◌∙◌, arith, append_assoc, add-one, drop-cons}
use Rattle.std.specs.List.{flat_map}
use Rattle.std.proofs.lemmas.List.{length-append, length-map, append-nil, map-append, reverse-reverse}
use Rattle.std.proofs.lemmas.Grind.{reverse_onto}
use Rattle.std.proofs.Math.ListN.{drop_of_length-le}
use Rattle.std.proofs.lemmas.Bool.{lt-ltb}
use Rattle.rg_text.specs.Text.{leaf_of}
use Rattle.rg_text.specs.declared.token.Token.{Token}
use Rattle.rg_syntax.specs.declared.written.FormulaText.{FormulaText}
use Rattle.rg_syntax.specs.declared.written.StatementText.{StatementText, If, While}
use Rattle.rg_syntax.specs.Written as written
use Rattle.rg_syntax.specs.Written.{StatementTree, skip, assign, await, branch, loop, StatementTrees, no_more, also, listed, WrittenPart}
use Rattle.rg_syntax.specs.ProgramLimits.{statement_count, item_count, own_count, count_in_parts}
use Rattle.rg_syntax.proofs.Rows.{statement-If, statement-While}
use Rattle.rg_syntax.proofs.Sizes.{statement_size, block_size, size_within}
use Rattle.rg_build.specs.Inner.DraftLines.{first_line, statement_lines, item_lines, own_lines, joined_line, block_lines, part_lines}

sums : {a b c d : ℕ} → a ≡ c → b ≡ d → a + b ≡ c + d
sums p q = cc

own_length : (ss : StatementTrees) → length (own_lines ss) ≡ own_count ss
own_length no_more = refl
own_length (also s no_more) = refl
own_length (also s (also t ts)) = refl

mutual
  statement_length : (s : StatementTree) → length (statement_lines s) ≡ statement_count s
  statement_length (skip t) = refl
  statement_length (assign a) = refl
  statement_length (await t f act) = refl
  statement_length (branch t f first second) =
      let both = length-append (block_lines first) (block_lines second) ∙ sums (block_length first) (block_length second) in omega (arith, both)
  statement_length (loop t f body) =
      let inner = block_length body in omega (arith, inner)

  item_length : (ss : StatementTrees) → length (item_lines ss) ≡ item_count ss
  item_length no_more = refl
  item_length (also s ss) = length-append (statement_lines s) (item_lines ss) ∙ sums (statement_length s) (item_length ss)

  block_length : (ss : StatementTrees) → length (block_lines ss) ≡ own_count ss + item_count ss
  block_length no_more = refl
  block_length (also s ss) =
      length-append (own_lines (also s ss)) (item_lines (also s ss))
      ∙ sums (own_length (also s ss)) (length-append (statement_lines s) (item_lines ss) ∙ sums (statement_length s) (item_length ss))

-- whole parts begin as many statements as they have
pub part_length : (ps : List WrittenPart) → length (part_lines ps) ≡ count_in_parts ps
part_length [] = refl
part_length (p ∷ ps) = length-append (block_lines p.body) (part_lines ps) ∙ sums (block_length p.body) (part_length ps)

-- a list of two statements or more is a statement of its own
pub own_is : (ss : List StatementTree) → cond (nat_lt 1 (length ss)) (joined_line ss) [] ≡ own_lines (listed ss)
own_is [] = refl
own_is (s ∷ []) = refl
own_is (s ∷ t ∷ ts) = ap (λ b. cond b (joined_line (s ∷ t ∷ ts)) []) (lt-ltb 1 (length (s ∷ t ∷ ts)) (omega arith))

-- what the items of a list give, one after another
module _ {I : Type 0} (F : I → List ℕ) (items : List I) (i : ℕ) where
  pub gather_step : (x : I) (old more all : List ℕ) → i < length items → x ≡ get_or items i x → old ++ flat_map F (drop i items) ≡ all → more ≡ old ++ F x → more ++ flat_map F (drop (i + 1) items) ≡ all
  gather_step x old more all inside is h e =
      rw add-one (ap (λ xs. xs ++ flat_map F (drop (suc i) items)) e
      ∙ append_assoc old (F x) (flat_map F (drop (suc i) items))
      ∙ ap (λ y. old ++ (F y ++ flat_map F (drop (suc i) items))) is
      ∙ ap (λ xs. old ++ flat_map F xs) (sym (drop-cons items i x inside))
      ∙ h)

  pub gather_end : (old all : List ℕ) → length items ≤ i → old ++ flat_map F (drop i items) ≡ all → old ≡ all
  gather_end old all past h =
      sym (append-nil old) ∙ ap (λ xs. old ++ flat_map F xs) (sym (drop_of_length-le items past)) ∙ h

pub gather_map : {I A : Type 0} (G : A → List ℕ) (view : I → A) (items : List I) → flat_map (λ x. G (view x)) items ≡ flat_map G (map view items)
gather_map G view [] = refl
gather_map G view (x ∷ xs) = ap (λ ys. G (view x) ++ ys) (gather_map G view xs)

pub gather_items : (ss : List StatementTree) → flat_map statement_lines ss ≡ item_lines (listed ss)
gather_items [] = refl
gather_items (s ∷ ss) = ap (λ ys. statement_lines s ++ ys) (gather_items ss)

map_reverse : {X Y : Type 0} (f : X → Y) (xs : List X) → map f (reverse xs) ≡ reverse (map f xs)
map_reverse f [] = refl
map_reverse f (x ∷ xs) =
    ap (map f) (reverse_onto xs x [])
    ∙ map-append f (reverse xs) (x ∷ [])
    ∙ ap (λ ys. ys ++ f x ∷ []) (map_reverse f xs)
    ∙ sym (reverse_onto (map f xs) (f x) [])

pub twice_reversed : {X Y : Type 0} (f : X → Y) (xs : List X) → reverse (map f (reverse xs)) ≡ map f xs
twice_reversed f xs = ap reverse (map_reverse f xs) ∙ reverse-reverse (map f xs)

pub item_smaller : (items : List StatementText) (i : ℕ) (x : StatementText) → i < length items → x ≡ get_or items i x → statement_size (written.statement [] x) < block_size (listed (map (written.statement []) items))
item_smaller items i x inside is =
    let smaller = size_within (written.statement []) items i x inside in
    let same = ap (λ y. statement_size (written.statement [] y)) is in
    omega (arith, smaller, same)

-- all that is begun
pub all_begun : {X Y : Type 0} (view : X → Y) (G : Y → List ℕ) (blocks : List X) (old p l a b c : List ℕ) → a ≡ old ++ p → b ≡ a ++ flat_map G (map view blocks) → c ≡ b ++ l → c ≡ old ++ (p ++ (flat_map G (reverse (map view (reverse blocks))) ++ l))
all_begun view G blocks old p l a b c ea eb ec =
    let o = flat_map G (map view blocks) in
    ec
    ∙ ap (λ xs. xs ++ l) (eb ∙ ap (λ xs. xs ++ o) ea)
    ∙ append_assoc (old ++ p) o l
    ∙ append_assoc old p (o ++ l)
    ∙ ap (λ xs. old ++ (p ++ (flat_map G xs ++ l))) (sym (twice_reversed view blocks))

-- the lines of a whole block
pub block_is : (src : List ℕ) (items : List StatementText) (old new : List ℕ) → new ≡ old ++ (cond (nat_lt 1 (length items)) (joined_line (map (written.statement src) items)) [] ++ item_lines (listed (map (written.statement src) items))) → new ≡ old ++ block_lines (listed (map (written.statement src) items))
block_is src items old new e =
    let ss = map (written.statement src) items in
    e
    ∙ ap (λ n. old ++ (cond (nat_lt 1 n) (joined_line ss) [] ++ item_lines (listed ss))) (sym (length-map items (written.statement src)))
    ∙ ap (λ xs. old ++ (xs ++ item_lines (listed ss))) (own_is ss)

-- the lines of a branch, and of a loop
pub branch_lines : (src : List ℕ) (s : StatementText) (t : Token) (f : FormulaText) (first second : Vec StatementText Global) → s ≡ If t f first second → (xs ys : List StatementText) → xs ≡ first.items → ys ≡ second.items → (line : ℕ) → line ≡ first_line (written.statement src s) → (old a b c : List ℕ) → a ≡ old ++ line ∷ [] → b ≡ a ++ block_lines (listed (map (written.statement src) xs)) → c ≡ b ++ block_lines (listed (map (written.statement src) ys)) → c ≡ old ++ statement_lines (written.statement src s)
branch_lines src s t f first second is xs ys left right line l old a b c ea eb ec =
    let bx = block_lines (listed (map (written.statement src) xs)) in
    let by = block_lines (listed (map (written.statement src) ys)) in
    ec
    ∙ ap (λ z. z ++ by) (eb ∙ ap (λ z. z ++ bx) ea)
    ∙ append_assoc (old ++ line ∷ []) bx by
    ∙ append_assoc old (line ∷ []) (bx ++ by)
    ∙ ap (λ n. old ++ n ∷ (bx ++ by)) (l ∙ ap first_line view)
    ∙ ap (λ v. old ++ statement_lines v) (sym view)
  where
    view : written.statement src s ≡ branch (leaf_of src t) (written.claim src f) (listed (map (written.statement src) xs)) (listed (map (written.statement src) ys))
    view = rw (is, left, right) (statement-If src t f first second)

pub loop_lines : (src : List ℕ) (s : StatementText) (t : Token) (f : FormulaText) (body : Vec StatementText Global) → s ≡ While t f body → (xs : List StatementText) → xs ≡ body.items → (line : ℕ) → line ≡ first_line (written.statement src s) → (old a b : List ℕ) → a ≡ old ++ line ∷ [] → b ≡ a ++ block_lines (listed (map (written.statement src) xs)) → b ≡ old ++ statement_lines (written.statement src s)
loop_lines src s t f body is xs same line l old a b ea eb =
    let bx = block_lines (listed (map (written.statement src) xs)) in
    eb
    ∙ ap (λ z. z ++ bx) ea
    ∙ append_assoc old (line ∷ []) bx
    ∙ ap (λ n. old ++ n ∷ bx) (l ∙ ap first_line view)
    ∙ ap (λ v. old ++ statement_lines v) (sym view)
  where
    view : written.statement src s ≡ loop (leaf_of src t) (written.claim src f) (listed (map (written.statement src) xs))
    view = rw (is, same) (statement-While src t f body)
