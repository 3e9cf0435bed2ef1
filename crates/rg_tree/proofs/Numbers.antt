-- Numbering of statements, one list after another.
use Rattle.std.proofs.Common.{◌≡◌, ℕ, ◌+◌, List, [], ◌∷◌, ◌++◌, ◌<◌, suc, map, drop, get_or, length, add-one, refl, sym, ap, ◌∙◌, arith, append_assoc, length-append}
use Rattle.rg_tree.specs.Statements.{Statement}
use Rattle.rg_tree.specs.Numbering.{statements, line_of_statement, kind_of, numbered_from, numbered_parts}
use Rattle.std.proofs.Math.Seq.{drop-cons}
use Rattle.rg_tree.specs.ProgramView.{statement, part}
use Rattle.rg_tree.specs.declared.part.Part.{Part}
use Rattle.rg_tree.specs.declared.numbered.Numbered.{Numbered}
use Rattle.rg_tree.specs.Inner.Numbering.{Adds}

pub numbered-append : (part n : ℕ) (xs ys : List Statement) → numbered_from part n (xs ++ ys) ≡ numbered_from part n xs ++ numbered_from part (n + length xs) ys
numbered-append part n [] ys = ap (λ k. numbered_from part k ys) (omega arith)
numbered-append part n (x ∷ xs) ys =
    let e : n + 1 + length xs ≡ n + length (x ∷ xs) = omega arith in
    ap (λ l. record { number = n; part = part; line = line_of_statement x; kind = kind_of x } ∷ l) (numbered-append part (n + 1) xs ys ∙ ap (λ k. numbered_from part (n + 1) xs ++ numbered_from part k ys) e)

pub length-numbered : (part n : ℕ) (xs : List Statement) → length (numbered_from part n xs) ≡ length xs
length-numbered part n [] = refl
length-numbered part n (x ∷ xs) = let h = length-numbered part (n + 1) xs in omega (arith, h)

pub adds_length : (part : ℕ) (xs : List Statement) (a b : List Numbered) → Adds part xs a b → length b ≡ length a + length xs
adds_length part xs a b h =
    ap length h ∙ length-append a (numbered_from part (length a + 1) xs) ∙ ap (λ k. length a + k) (length-numbered part (length a + 1) xs)

pub adds_then : (part : ℕ) (xs ys : List Statement) (a b c : List Numbered) → Adds part xs a b → Adds part ys b c → Adds part (xs ++ ys) a c
adds_then part xs ys a b c h k =
    let size = adds_length part xs a b h in
    let from : length b + 1 ≡ length a + 1 + length xs = omega (arith, size) in
    k ∙ ap (λ l. l ++ numbered_from part (length b + 1) ys) h ∙ append_assoc a (numbered_from part (length a + 1) xs) (numbered_from part (length b + 1) ys)
    ∙ ap (λ n. a ++ (numbered_from part (length a + 1) xs ++ numbered_from part n ys)) from
    ∙ ap (λ l. a ++ l) (sym (numbered-append part (length a + 1) xs ys))

-- one turn of the loop over the parts
module _ (all : List Part) (i : ℕ) (x : Part) (old new T : List Numbered) where
  pub turn : i < length all → x ≡ get_or all i x → Adds (i + 1) (statements (statement x.body)) old new → old ++ numbered_parts (i + 1) (length old + 1) (map part (drop i all)) ≡ T → new ++ numbered_parts (i + 1 + 1) (length new + 1) (map part (drop (i + 1) all)) ≡ T
  turn less at adds so_far =
      let ss = statements (statement x.body) in
      let here = drop-cons all i x less ∙ ap (λ y. y ∷ drop (suc i) all) (sym at) ∙ ap (λ j. x ∷ drop j all) (sym (add-one i)) in
      let rest = map part (drop (i + 1) all) in
      let size = adds_length (i + 1) ss old new adds in
      let from : length new + 1 ≡ length old + 1 + length ss = omega (arith, size) in
      ap (λ l. l ++ numbered_parts (i + 1 + 1) (length new + 1) rest) adds
      ∙ append_assoc old (numbered_from (i + 1) (length old + 1) ss) (numbered_parts (i + 1 + 1) (length new + 1) rest)
      ∙ ap (λ n. old ++ (numbered_from (i + 1) (length old + 1) ss ++ numbered_parts (i + 1 + 1) n rest)) from
      ∙ ap (λ l. old ++ numbered_parts (i + 1) (length old + 1) (map part l)) (sym here) ∙ so_far
