-- Refusals and trees of a leaf, and of what is made of two parts.
use Rattle.std.proofs.Common.{◌≡◌, ℕ, ◌<◌, ◌^◌, Bool, true, false, List, [], ◌∷◌, ◌++◌, refl, inl, inr, arith}
use Rattle.std.specs.Prelude.{Option, Some, None, nat_lt}
use Rattle.std.specs.Option.{unwrap_or}
use Rattle.std.proofs.lemmas.Bool.Decides.{nat_tests}
use Rattle.rg_words.specs.declared.refusal.Refusal.{Refusal}
use Rattle.rg_words.specs.declared.refusal.SourceFile.{SourceFile}
use Rattle.rg_words.specs.declared.refusal.RefusalNumber.{RefusalNumber}
use Rattle.rg_words.specs.declared.refusal.RefusalNumber.TheVariants.{UnknownName, NumberTooLarge, WidthsDiffer, WidthUnknown, Prime}
use Rattle.rg_words.specs.Refusals.{no_memory, refused_at}
use Rattle.rg_words.specs.Layout.{Word}
use Rattle.rg_leaves.specs.Leaves.{Fault, width_at, unless, is_other, word_faults, number_faults, IsFirst, IsRefusal}
use Rattle.rg_leaves.specs.declared.group.Group.{Group}
use Rattle.rg_leaves.specs.declared.group.Group.TheVariants.{Width, Wordless}

-- want of memory is a refusal of every text
pub of_memory : (file : SourceFile) (faults : List Fault) (refusal : Refusal) → refusal ≡ no_memory → IsRefusal file faults refusal
of_memory file faults refusal e = record { cause = inl e }

-- a refusal of what stands first is one of the whole
pub of_first : (file : SourceFile) (first rest : List Fault) (refusal : Refusal) → IsRefusal file first refusal → IsRefusal file (first ++ rest) refusal
of_first file first rest refusal h = elim h.cause [ inl e ↦ record { cause = inl e } | inr e ↦ record { cause = inr (by first e) } ]
  where
    by : (faults : List Fault) → IsFirst file faults refusal → IsFirst file (faults ++ rest) refusal
    by [] e = absurd e
    by (fault ∷ faults) e = e

-- where what stands first has no fault, a refusal of the rest is one of the whole
pub of_rest : (file : SourceFile) (first rest : List Fault) (refusal : Refusal) → first ≡ [] → IsRefusal file rest refusal → IsRefusal file (first ++ rest) refusal
of_rest file first rest refusal e h = rw e h

-- two lists without faults
pub no_faults : (first rest : List Fault) → first ≡ [] → rest ≡ [] → first ++ rest ≡ []
no_faults first rest p q = rw (p, q) refl

-- a test that fails is refused, and one that holds has no fault
pub of_test : (file : SourceFile) (test : Bool) (number : RefusalNumber) (line : ℕ) (refusal : Refusal) → test ≡ false → refusal ≡ refused_at number file line → IsRefusal file (unless test number line) refusal
of_test file test number line refusal e h = rw e (record { cause = inr h })

pub no_test : (test : Bool) (number : RefusalNumber) (line : ℕ) → test ≡ true → unless test number line ≡ []
no_test test number line e = rw e refl

module _ (words : List Word) (group : Group) (barred : Bool) (line : ℕ) (found : Option ℕ) where
  pub of_unknown : (file : SourceFile) (refusal : Refusal) → found ≡ None → refusal ≡ refused_at UnknownName file line → IsRefusal file (word_faults words group barred line found) refusal
  of_unknown file refusal e h = rw e (record { cause = inr h })

  pub of_width : (file : SourceFile) (refusal : Refusal) (k : ℕ) → found ≡ Some k → is_other group (width_at words k) ≡ true → refusal ≡ refused_at WidthsDiffer file line → IsRefusal file (word_faults words group barred line found) refusal
  of_width file refusal k e other h = rw (e, other) (record { cause = inr h })

  pub of_prime : (file : SourceFile) (refusal : Refusal) (k : ℕ) → found ≡ Some k → is_other group (width_at words k) ≡ false → barred ≡ true → refusal ≡ refused_at Prime file line → IsRefusal file (word_faults words group barred line found) refusal
  of_prime file refusal k e same prime h = rw (e, same, prime) (record { cause = inr h })

  pub no_fault_of_word : (k : ℕ) → found ≡ Some k → is_other group (width_at words k) ≡ false → barred ≡ false → word_faults words group barred line found ≡ []
  no_fault_of_word k e same plain = rw (e, same, plain) refl

pub place_found : (found : Option ℕ) (k : ℕ) → found ≡ Some k → k ≡ unwrap_or found 0
place_found found k e = rw e refl

pub of_large : (file : SourceFile) (group : Group) (w n line : ℕ) (refusal : Refusal) → group ≡ Width w → (n < 2 ^ w → ⊥) → refusal ≡ refused_at NumberTooLarge file line → IsRefusal file (number_faults group line n) refusal
of_large file group w n line refusal e large h = rw e (of_test file _ _ line refusal (large_fails large) h)
  where
    large_fails : (n < 2 ^ w → ⊥) → nat_lt n (2 ^ w) ≡ false
    large_fails large = grind (arith, nat_tests)

pub of_wordless : (file : SourceFile) (group : Group) (n line : ℕ) (refusal : Refusal) → group ≡ Wordless → refusal ≡ refused_at WidthUnknown file line → IsRefusal file (number_faults group line n) refusal
of_wordless file group n line refusal e h = rw e (record { cause = inr h })

pub ruleset refusals = (of_memory, of_first, of_rest, no_faults, of_unknown, of_width, of_prime, no_fault_of_word, place_found, of_test, no_test, of_large, of_wordless)
