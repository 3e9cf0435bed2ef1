-- Lists of conditions that grow at the end.
use Rattle.std.proofs.Common.{◌≡◌, ℕ, suc, ◌+◌, ◌<◌, List, ◌∷◌, ◌++◌, length, map, drop, get_or, sym, ap, ◌∙◌, append_assoc, add-one}
use Rattle.std.proofs.lemmas.List.{map-append}
use Rattle.std.proofs.Math.Seq.{drop-cons}

-- what stands at a place, and what stands after it
pub here : {X : Type 0} (xs : List X) (i : ℕ) (x : X) → i < length xs → x ≡ get_or xs i x → drop i xs ≡ x ∷ drop (i + 1) xs
here xs i x less at = drop-cons xs i x less ∙ ap (λ y. y ∷ drop (suc i) xs) (sym at) ∙ ap (λ j. x ∷ drop j xs) (sym (add-one i))

-- one turn: what was added here goes from the rest to the front
pub turn : {A B : Type 0} (g : A → B) (a b : List B) (one rest : List A) (whole : List B) → b ≡ a ++ map g one → a ++ map g (one ++ rest) ≡ whole → b ++ map g rest ≡ whole
turn g a b one rest whole e h =
    ap (λ l. l ++ map g rest) e ∙ append_assoc a (map g one) (map g rest) ∙ ap (λ l. a ++ l) (sym (map-append g one rest)) ∙ h

-- a list, and then five
pub six : {A B : Type 0} (g : A → B) (o : List B) (p r x q e : List A) (a b c d f : List B) → a ≡ o ++ map g p → b ≡ a ++ map g r → c ≡ b ++ map g x → d ≡ c ++ map g q → f ≡ d ++ map g e → f ≡ o ++ map g (p ++ r ++ x ++ q ++ e)
six g o p r x q e a b c d f ha hb hc hd hf =
    let two = hb ∙ ap (λ l. l ++ map g r) ha ∙ append_assoc o (map g p) (map g r) ∙ ap (λ l. o ++ l) (sym (map-append g p r)) in
    let three = hc ∙ ap (λ l. l ++ map g x) two ∙ append_assoc o (map g (p ++ r)) (map g x) ∙ ap (λ l. o ++ l) (sym (map-append g (p ++ r) x)) in
    let four = hd ∙ ap (λ l. l ++ map g q) three ∙ append_assoc o (map g ((p ++ r) ++ x)) (map g q) ∙ ap (λ l. o ++ l) (sym (map-append g ((p ++ r) ++ x) q)) in
    hf ∙ ap (λ l. l ++ map g e) four ∙ append_assoc o (map g (((p ++ r) ++ x) ++ q)) (map g e) ∙ ap (λ l. o ++ l) (sym (map-append g (((p ++ r) ++ x) ++ q) e))

-- a list, and then five others
pub six_lists : {B : Type 0} (o p r x q e a b c d f : List B) → a ≡ o ++ p → b ≡ a ++ r → c ≡ b ++ x → d ≡ c ++ q → f ≡ d ++ e → f ≡ o ++ (p ++ r ++ x ++ q ++ e)
six_lists o p r x q e a b c d f ha hb hc hd hf =
    let two = hb ∙ ap (λ l. l ++ r) ha ∙ append_assoc o p r in
    let three = hc ∙ ap (λ l. l ++ x) two ∙ append_assoc o (p ++ r) x in
    let four = hd ∙ ap (λ l. l ++ q) three ∙ append_assoc o ((p ++ r) ++ x) q in
    hf ∙ ap (λ l. l ++ e) four ∙ append_assoc o (((p ++ r) ++ x) ++ q) e
