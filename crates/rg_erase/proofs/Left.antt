-- What is known of a program from which words can be erased.
use Rattle.std.proofs.Common.{◌≡◌, ◌<◌, ℕ, Bool, true, false, List, [], length, cond, Some, None, refl, arith}
use Rattle.std.specs.Prelude.{nat_le, option_map}
use Rattle.std.proofs.lemmas.Bool.Decides.{nat_tests}
use Rattle.rg_words.specs.Layout.{Word}
use Rattle.rg_tree.specs.Statements.{ProgramTree}
use Rattle.rg_tree.specs.TypedPrograms.{IsTypedProgram}
use Rattle.rg_erase.specs.Erased.{staying, conjuncts, first_free, erased_program}
use Rattle.rg_erase.specs.Faults.{nothing_left, undefined, in_pre, in_rely, read_in_parts, fault_of}
use Rattle.rg_erase.specs.declared.fault.Fault.TheVariants.{NothingLeft, Pre, Rely}
use Rattle.rg_erase.proofs.Mentions.{first_none, second_none}
use Rattle.rg_erase.proofs.Typed.{map_none, program_typed}
use Rattle.rg_erase.proofs.Loops.{first_is_free}

-- there is no fault
pub record IsErasable (erased : List Bool) (p : ProgramTree) : Type 0 where
  pub some : first_free (staying erased p.words) < length (staying erased p.words)
  pub pre : undefined erased (in_pre erased) [] (conjuncts p.spec.pre) ≡ None
  pub rely : undefined erased (in_rely erased p.words) [] (conjuncts p.spec.rely) ≡ None
  pub reads : read_in_parts erased p.parts ≡ None

not_at_most : (n m : ℕ) → nat_le n m ≡ false → m < n
not_at_most n m h = grind (arith, nat_tests)

some_left : (words : List Word) → nothing_left words ≡ None → first_free words < length words
some_left words h = not_at_most (length words) (first_free words) (by_test (nat_le (length words) (first_free words)) h)
  where
    by_test : (b : Bool) → cond b (Some NothingLeft) None ≡ None → b ≡ false
    by_test true h = cc h
    by_test false h = refl

pub is_erasable : (erased : List Bool) (p : ProgramTree) → fault_of erased p ≡ None → IsErasable erased p
is_erasable erased p h =
    let left = nothing_left (staying erased p.words) in
    let pre = option_map Pre (undefined erased (in_pre erased) [] (conjuncts p.spec.pre)) in
    let rely = option_map Rely (undefined erased (in_rely erased p.words) [] (conjuncts p.spec.rely)) in
    let after_left = second_none left _ h in
    let after_pre = second_none pre _ after_left in
    record {
      some = some_left (staying erased p.words) (first_none left _ h);
      pre = map_none Pre _ (first_none pre _ after_left);
      rely = map_none Rely _ (first_none rely _ after_pre);
      reads = second_none rely _ after_pre;
    }

pub left_typed : (erased : List Bool) (p : ProgramTree) → fault_of erased p ≡ None → IsTypedProgram p → IsTypedProgram (erased_program erased p)
left_typed erased p h t =
    let e = is_erasable erased p h in program_typed erased p e.some (first_is_free (staying erased p.words) e.some) e.reads t
