-- What assignments do, done at once.
use Rattle.std.proofs.Common.{◌≡◌, ℕ, Bool, true, false, nat_eq, List, Option, Some, None, refl, ap, sym, ◌∙◌}
use Rattle.std.specs.Prelude.{slice_index, slice_set, option_map, if◌then◌else◌}
use Rattle.std.specs.Option.{option_map_or}
use Rattle.std.proofs.lemmas.Bool.{eqb-true}
use Rattle.std.proofs.lemmas.List.{set-get_or}
use Rattle.rg_words.specs.Layout.{Word}
use Rattle.rg_c_plan.specs.declared.kind.Kind.{Kind}
use Rattle.rg_c_values.specs.declared.print.Read.{Read}
use Rattle.rg_c_values.specs.CTrees.{CValue, CTest, c_literal, c_word, c_cast, c_inverse, c_binary, c_rest, c_shifted, c_choice}
use Rattle.rg_c_values.specs.Arithmetic.{c_value}
use Rattle.rg_c_values.specs.Items.{read_of}
use Rattle.rg_c.specs.declared.tree.Target.{Target}
use Rattle.rg_c.specs.declared.tree.Target.TheVariants.{Word as ToWord, Local as ToLocal}
use Rattle.rg_c.specs.CStatements.{CStatement, ◌⨾◌, nothing, member, writes, stores, changes}
use Rattle.rg_c.specs.Reads.{is_load_of}
use Rattle.rg_c.specs.Assigned.{is_stored, given}
use Rattle.rg_c.specs.Together.{is_local}
use Rattle.rg_c.specs.Meaning.{Machine, sees, word_set, local_set, Outcome, on, next, run}
use Rattle.rg_c.proofs.Locals.{seen_word}

-- a word, or its local, gets a value
abbrev pub set_to : Target → Machine → ℕ → ℕ → Machine
set_to ToWord m k x = word_set m k x
set_to ToLocal m k x = local_set m k x

word_itself : (k : ℕ) (v : CValue) (s : List ℕ) → is_load_of k v ≡ true → c_value v s ≡ slice_index s k
word_itself k (c_word c j) s h = ap (slice_index s) (sym (eqb-true _ _ h))
word_itself k (c_literal n) s h = cc h
word_itself k (c_cast n v) s h = cc h
word_itself k (c_inverse g v) s h = cc h
word_itself k (c_binary o g a b) s h = cc h
word_itself k (c_rest g v n) s h = cc h
word_itself k (c_shifted d g v j) s h = cc h
word_itself k (c_choice t a b) s h = cc h

-- a word keeps what is seen of it, unless it is read from its local
pub word_kept : (reads : List Read) (m : Machine) (k : ℕ) → is_local (read_of reads k) ≡ false → word_set m k (slice_index (sees reads m) k) ≡ m
word_kept reads m k h = ap (λ u. let n : Machine = record m { memory = u } in n) (ap (slice_set m.memory k) (seen_word reads m.memory m.locals k h) ∙ set-get_or m.memory k 0)

pub given_right : (words : List Word) (kinds : List Kind) (reads : List Read) (to : Target) (k : ℕ) (v : CValue) (m : Machine) → set_to to m k (slice_index (sees reads m) k) ≡ m →
    run words reads (given kinds to k v) m ≡ on (set_to to m k (c_value v (sees reads m)))
given_right words kinds reads ToWord k v m kept = by (is_stored kinds k) (is_load_of k v) refl
  where
    by : (b c : Bool) → is_load_of k v ≡ c → run words reads (if b then stores (member k) v else if c then nothing else writes (member k) v) m ≡ on (word_set m k (c_value v (sees reads m)))
    by true c e = refl
    by false false e = refl
    by false true e = ap on (sym (ap (word_set m k) (word_itself k v (sees reads m) e) ∙ kept))
given_right words kinds reads ToLocal k v m kept = by (is_load_of k v) refl
  where
    by : (c : Bool) → is_load_of k v ≡ c → run words reads (if c then nothing else changes k v) m ≡ on (local_set m k (c_value v (sees reads m)))
    by false e = refl
    by true e = ap on (sym (ap (local_set m k) (word_itself k v (sees reads m) e) ∙ kept))

-- what goes on goes on with what stands behind
pub then_on : {o : Outcome} {m : Machine} (f : Machine → Outcome) → o ≡ on m → next o f ≡ f m
then_on f h = ap (λ o. next o f) h
