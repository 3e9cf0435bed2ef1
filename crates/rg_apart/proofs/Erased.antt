-- The parts of what is left of a program stand where the program's parts stand.
use Rattle.std.proofs.Common.{◌≡◌, ◌∙◌, ℕ, Bool, true, List, [], ◌∷◌, map, length, Some, None, refl, ap, sym, subst}
use Rattle.std.specs.Prelude.{slice_get}
use Rattle.std.proofs.lemmas.List.{length-map}
use Rattle.rg_words.specs.Layout.{Word, widths_of}
use Rattle.rg_words.specs.States.{IsState}
use Rattle.rg_tree.specs.Trees.{Proposition}
use Rattle.rg_tree.specs.Typing.{IsTyped}
use Rattle.rg_tree.specs.Meaning.{holds}
use Rattle.rg_tree.specs.Statements.{PartTree, ProgramTree}
use Rattle.rg_tree.specs.TypedPrograms.{IsTypedProgram}
use Rattle.rg_tree.specs.Traces.{State, Step, holds_at, IsTraceOf, last_of}
use Rattle.rg_tree.specs.Programs.{OthersInside}
use Rattle.rg_code.specs.Code.{BlockTree, zeros, count_of, program_code}
use Rattle.rg_erase.specs.Erased.{staying, conjuncts, kept, first_free, part_without, erased_program}
use Rattle.rg_erase.specs.Faults.{undefined, in_rely}
use Rattle.rg_erase.specs.Shadows.{shadow}
use Rattle.rg_erase.proofs.Left.{IsErasable, is_erasable, left_typed}
use Rattle.rg_erase.proofs.Blocks.{AreShadowCodes, blocks_same, program_shadow}
use Rattle.rg_erase.proofs.Lifts.{start_of}
use Rattle.rg_erase.proofs.ShadowRuns.{first_step, same_zeros, trace_state, part_left}
use Rattle.rg_accept.specs.Standing.{StandAfter, AreStanding}
use Rattle.rg_apart.specs.Laws.{HasPart, IsRunTo, ErasedIsLeft}

module _ (words : List Word) (erased : List Bool) (own : ℕ) (rely : Proposition) (defined : undefined erased (in_rely erased words) [] (conjuncts rely) ≡ None) (typed : IsTyped (widths_of words) rely) where
  -- steps of the code of which these are what stays, and that lead to the same places
  record Back (n : ℕ) (cs : List (List BlockTree)) (ks : List ℕ) (s : State) (ys : List Step) (at : List ℕ) : Type 0 where
    steps : List Step
    trace : IsTraceOf words n s steps
    run : StandAfter cs ks s steps at
    shadows : map (shadow erased) steps ≡ ys
    inside : OthersInside (holds (kept erased rely)) (staying erased s) ys → OthersInside (holds rely) s steps

  stands_back : (n : ℕ) (cs ds : List (List BlockTree)) (ks : List ℕ) (s : State) (ys : List Step) (at : List ℕ) → AreShadowCodes words erased own cs ds → IsState words s → IsTraceOf (staying erased words) n (staying erased s) ys → StandAfter ds ks (staying erased s) ys at → Back n cs ks s ys at
  stands_back n cs ds ks s [] at a st t r = record { steps = []; trace = st; run = r; shadows = refl; inside = λ h. tt }
  stands_back n cs ds ks s (y ∷ ys) at a st t r =
      let f = first_step words erased own rely defined typed cs ds ks r.0 s y a st t.1 r.1 in
      let rest = stands_back n cs ds r.0 f.after ys at a f.pair.second
      (subst (λ (u : State). IsTraceOf (staying erased words) n u ys) (sym f.stays) t.2)
      (subst (λ (u : State). StandAfter ds r.0 u ys at) (sym f.stays) r.2) in
      record {
        steps = record { who = y.who; after = f.after } ∷ rest.steps;
        trace = (t.0, f.pair, rest.trace);
        run = (r.0, f.goes, rest.run);
        shadows = ap (λ (u : State). record { who = y.who; after = u } ∷ map (shadow erased) rest.steps) f.stays ∙ ap (λ (zs : List Step). y ∷ zs) rest.shadows;
        inside = λ h. (f.inside h.0, rest.inside (subst (λ (u : State). OthersInside (holds (kept erased rely)) u ys) (sym f.stays) h.1));
      }

last_left : (erased : List Bool) (s : State) (xs : List Step) → last_of (staying erased s) (map (shadow erased) xs) ≡ staying erased (last_of s xs)
last_left erased s [] = refl
last_left erased s (x ∷ xs) = last_left erased x.after xs

module _ (erased : List Bool) (p : ProgramTree) (typed : IsTypedProgram p) (e : IsErasable erased p) where
  abbrev own : ℕ
  own = first_free (staying erased p.words)

  abbrev left : ProgramTree
  left = erased_program erased p

  part_of : (i : ℕ) (part : PartTree) → slice_get left.parts i ≡ Some part → HasPart p i (count_of part.body)
  part_of i part found =
      let r = part_left erased p typed e own p.parts i part found in
      record { part = r.0; found = r.1; same_count = sym (blocks_same p.words erased own r.0.body) ∙ ap (λ (x : PartTree). count_of x.body) r.2 }

  run_of : (s : State) (ys : List Step) (at : List ℕ) → AreStanding left s ys at → holds_at left.spec.pre s ≡ true → OthersInside (holds left.spec.rely) s ys → IsRunTo p erased at (last_of s ys)
  run_of s ys at st pre env =
      let cs = program_code p.parts in
      let ds = program_code left.parts in
      let codes = program_shadow p.words erased own p.parts e.reads typed.parts in
      let start = start_of erased p.words p.spec.pre e.pre typed.spec.0.0 s (trace_state left.words (length left.parts) s ys st.trace) pre in
      let trace = subst (λ n. IsTraceOf left.words n s ys) (length-map p.parts (part_without erased own)) st.trace in
      let run = subst (λ (ks : List ℕ). StandAfter ds ks s ys at) (sym (same_zeros p.words erased own cs ds codes)) st.run in
      let back = stands_back p.words erased own p.spec.rely e.rely typed.spec.1 (length p.parts) cs ds (zeros cs) start.state ys at codes start.is_state
      (subst (λ (u : State). IsTraceOf left.words (length p.parts) u ys) (sym start.stays) trace)
      (subst (λ (u : State). StandAfter ds (zeros cs) u ys at) (sym start.stays) run) in
      record {
        start = start.state;
        steps = back.steps;
        standing = record { trace = back.trace; run = back.run };
        begins = start.inside;
        inside = back.inside (subst (λ (u : State). OthersInside (holds left.spec.rely) u ys) (sym start.stays) env);
        stays = sym (last_left erased start.state back.steps) ∙ ap (λ (zs : List Step). last_of (staying erased start.state) zs) back.shadows ∙ ap (λ (u : State). last_of u ys) start.stays;
      }

pub erased_is_left : ErasedIsLeft
erased_is_left erased p typed none =
    let e = is_erasable erased p none in
    record { typed = left_typed erased p none typed; words = refl; parts = part_of erased p typed e; runs = run_of erased p typed e }
