-- the first line feed of a text
use Rattle.std.proofs.Common.{◌≡◌, ℕ, not, eqb, Some, None, List, length, get_or, sym, arith}
use Rattle.std.specs.List.{prefix_len}
use Rattle.std.proofs.lemmas.Bool.{not_from_false, not_from_true, false_from_ne_true}
use Rattle.std.proofs.lemmas.List.Sums.{prefix_len_is}
use Rattle.memchr.specs.Find.{IsFirstByte, is_byte}

-- it stands after the bytes before it
pub feed_found : (text : List ℕ) (k : ℕ) → IsFirstByte (is_byte 10) text (Some k) → k ≡ prefix_len (λ b. not (eqb b 10)) text
feed_found text k h =
    sym (prefix_len_is (λ b. not (eqb b 10)) text k 0 (omega (arith, h.0.high))
    (λ j l. not_from_false (eqb (get_or text j 0) 10) (false_from_ne_true (eqb (get_or text j 0) 10) (h.0.before j (omega arith) l)))
    (λ _. not_from_true (eqb (get_or text k 0) 10) h.1))

-- where there is none, all bytes stand before the end
pub no_feed : (text : List ℕ) → IsFirstByte (is_byte 10) text None → length text ≡ prefix_len (λ b. not (eqb b 10)) text
no_feed text h =
    sym (prefix_len_is (λ b. not (eqb b 10)) text (length text) 0 (omega arith)
    (λ j l. not_from_false (eqb (get_or text j 0) 10) (false_from_ne_true (eqb (get_or text j 0) 10) (h j (omega arith) l)))
    (λ l. absurd (omega (arith, l))))
