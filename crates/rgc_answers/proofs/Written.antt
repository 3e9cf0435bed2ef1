-- Texts of words and of conditions, one after another.
use Rattle.std.proofs.Common.{◌≡◌, ◌<◌, ◌+◌, ℕ, zero, suc, false, List, [], ◌∷◌, ◌++◌, length, map, take, get_or, min, refl, ap, sym, ◌∙◌, append_assoc, append-nil, arith}
use Rattle.std.specs.Prelude.{string_bytes, String}
use Rattle.std.specs.Global.{Global}
use Rattle.std.proofs.lemmas.List.{get_or-map, length-map, length-take-le}
use Rattle.std.proofs.lemmas.Grind.{take_at_read}
use Rattle.rg_words.specs.Layout.{Word, names_of, widths_of, fixed_of}
use Rattle.rg_tree.specs.declared.condition.Condition.{Condition}
use Rattle.rg_tree.specs.ConditionTrees.{ConditionTree}
use Rattle.rg_tree.specs.Conditions.{condition_tree}
use Rattle.rgc_answers.specs.Blocks.{word_text, words_text, block_text, blocks_text}

-- one word more
words_more : (words : List Word) (w : Word) → words_text (words ++ w ∷ []) ≡ words_text words ++ word_text w.fixed w.name w.width
words_more [] w = append-nil (word_text w.fixed w.name w.width)
words_more (v ∷ words) w =
    ap (λ l. word_text v.fixed v.name v.width ++ l) (words_more words w)
    ∙ sym (append_assoc (word_text v.fixed v.name v.width) (words_text words) (word_text w.fixed w.name w.width))

pub words_taken : (words : List Word) (i : ℕ) → i < length words
    → words_text (take (i + 1) words) ≡ words_text (take i words) ++ word_text (get_or (fixed_of words) i false) (get_or (names_of words) i []) (get_or (widths_of words) i 0)
words_taken words i less =
    let none : Word = record { name = []; width = 0; fixed = false } in
    let w = get_or words i none in
    let taken : take (i + 1) words ≡ take i words ++ w ∷ [] = (take_at_read words i none less).1 in
    let fixed : get_or (fixed_of words) i false ≡ w.fixed = get_or-map (λ v. v.fixed) words i none false less in
    let name : get_or (names_of words) i [] ≡ w.name = get_or-map (λ v. v.name) words i none [] less in
    let width : get_or (widths_of words) i 0 ≡ w.width = get_or-map (λ v. v.width) words i none 0 less in
    rw (fixed, name, width) (ap (λ l. words_text l) taken ∙ words_more (take i words) w)

-- one condition more
blocks_more : (k : ℕ) (names : List (List ℕ)) (cs : List ConditionTree) (n : List ℕ) (c : ConditionTree) → length names ≡ length cs
    → blocks_text k (names ++ n ∷ []) (cs ++ c ∷ []) ≡ blocks_text k names cs ++ block_text (k + length names) n c
blocks_more k [] [] n c e = append-nil (block_text k n c) ∙ ap (λ j. block_text j n c) (omega arith)
blocks_more k (m ∷ names) (d ∷ cs) n c e =
    let j : k + 1 + length names ≡ k + suc (length names) = omega arith in
    ap (λ l. block_text k m d ++ l) (blocks_more (k + 1) names cs n c (omega (arith, e)))
    ∙ ap (λ i. block_text k m d ++ (blocks_text (k + 1) names cs ++ block_text i n c)) j
    ∙ sym (append_assoc (block_text k m d) (blocks_text (k + 1) names cs) (block_text (k + suc (length names)) n c))
blocks_more k [] (d ∷ cs) n c e = absurd (omega (arith, e))
blocks_more k (m ∷ names) [] n c e = absurd (omega (arith, e))

pub blocks_taken : (k : ℕ) (names : List (List ℕ)) (cs : List ConditionTree) (i : ℕ) (d : List ℕ) (e : ConditionTree) → i < length names → i < length cs
    → blocks_text k (take (i + 1) names) (take (i + 1) cs) ≡ blocks_text k (take i names) (take i cs) ++ block_text (k + i) (get_or names i d) (get_or cs i e)
blocks_taken k names cs i d e less small =
    let n = length-take-le i names (omega (arith, less)) in
    let m = length-take-le i cs (omega (arith, small)) in
    rw ((take_at_read names i d less).1, (take_at_read cs i e small).1)
    (blocks_more k (take i names) (take i cs) (get_or names i d) (get_or cs i e) (n ∙ sym m)
    ∙ ap (λ j. blocks_text k (take i names) (take i cs) ++ block_text (k + j) (get_or names i d) (get_or cs i e)) n)

-- the text of one more condition of the code
pub block_at : (names : List (String Global)) (cs : List Condition) (i : ℕ) (n : String Global) (c : Condition) → i < length names → i < length cs → n ≡ get_or names i n → c ≡ get_or cs i c
    → blocks_text 1 (take (i + 1) (map string_bytes names)) (take (i + 1) (map condition_tree cs))
    ≡ blocks_text 1 (take i (map string_bytes names)) (take i (map condition_tree cs)) ++ block_text (i + 1) (string_bytes n) (condition_tree c)
block_at names cs i n c less small is_n is_c =
    let d = string_bytes n in
    let e = condition_tree c in
    let name : get_or (map string_bytes names) i d ≡ d = get_or-map string_bytes names i n d less ∙ ap (λ s. string_bytes s) (sym is_n) in
    let tree : get_or (map condition_tree cs) i e ≡ e = get_or-map condition_tree cs i c e small ∙ ap (λ s. condition_tree s) (sym is_c) in
    blocks_taken 1 (map string_bytes names) (map condition_tree cs) i d e (omega (arith, less, length-map names string_bytes)) (omega (arith, small, length-map cs condition_tree))
    ∙ ap (λ t. blocks_text 1 (take i (map string_bytes names)) (take i (map condition_tree cs)) ++ block_text (1 + i) t (get_or (map condition_tree cs) i e)) name
    ∙ ap (λ t. blocks_text 1 (take i (map string_bytes names)) (take i (map condition_tree cs)) ++ block_text (1 + i) d t) tree
    ∙ ap (λ j. blocks_text 1 (take i (map string_bytes names)) (take i (map condition_tree cs)) ++ block_text j d e) (omega arith)

-- as many as there are of both
pub blocks_end : (k : ℕ) (names : List (List ℕ)) (cs : List ConditionTree) (m : ℕ) → m ≡ min (length names) (length cs) → blocks_text k (take m names) (take m cs) ≡ blocks_text k names cs
blocks_end k [] cs m e = let z : m ≡ 0 = omega (arith, e) in rw z refl
blocks_end k (n ∷ names) [] m e = let z : m ≡ 0 = omega (arith, e) in rw z refl
blocks_end k (n ∷ names) (c ∷ cs) zero e = absurd (omega (arith, e))
blocks_end k (n ∷ names) (c ∷ cs) (suc m) e = ap (λ l. block_text k n c ++ l) (blocks_end (k + 1) names cs m (omega (arith, e)))
