-- What the parts of a program say of a trace together.
use Rattle.std.proofs.Common.{◌≡◌, ℕ, zero, suc, ◌<◌, Bool, true, false, ◌&&◌, List, [], ◌∷◌, Option, Some, None, length, map, drop, get_or, refl, sym, subst, ap, ◌∙◌, arith}
use Rattle.std.specs.Prelude.{option_and_then}
use Rattle.rg_tree.specs.Statements.{PartTree, ProgramTree}
use Rattle.rg_tree.specs.ProgramView.{statement, part}
use Rattle.rg_tree.specs.declared.part.Part.{Part}
use Rattle.rg_tree.specs.Traces.{State, Step, IsTraceOf, view}
use Rattle.rg_tree.specs.Programs.{ViewsRun, all_true}
use Rattle.rg_tree.specs.Following.{followed, FollowingDecides}
use Rattle.rg_runs.specs.Decides.{Decides}

-- what is so so far, and whether each of these parts, numbered from i, has ended; none where one of them can't make its steps
abbrev pub verdict : ℕ → Bool → List PartTree → State → List Step → Option Bool
verdict i so_far [] s xs = Some so_far
verdict i so_far (p ∷ ps) s xs = option_and_then (λ e. verdict (suc i) (so_far && e) ps s xs) (followed (p.body ∷ []) s (view i xs))

and_all : (a e b : Bool) → (a && e) && b ≡ a && (e && b)
and_all true e b = refl
and_all false e b = refl

-- the flags of all parts, from the verdict
pub flags_from : FollowingDecides → (i : ℕ) (so_far : Bool) (ps : List PartTree) (s : State) (xs : List Step) (ended : Bool) → verdict i so_far ps s xs ≡ Some ended → (flags : List Bool) × ViewsRun i ps flags s xs × (ended ≡ so_far && all_true flags)
flags_from law i so_far [] s xs ended h = ([], tt, and_none so_far ended h)
  where
    and_none : (a e : Bool) → Some a ≡ Some e → e ≡ a && true
    and_none true e h = cc h
    and_none false e h = cc h
flags_from law i so_far (p ∷ ps) s xs ended h = by_found (λ e k. flags_from law (suc i) (so_far && e) ps s xs ended k) (followed (p.body ∷ []) s (view i xs)) refl h
  where
    by_found : ((e : Bool) → verdict (suc i) (so_far && e) ps s xs ≡ Some ended → (flags : List Bool) × ViewsRun (suc i) ps flags s xs × (ended ≡ (so_far && e) && all_true flags)) → (found : Option Bool) → followed (p.body ∷ []) s (view i xs) ≡ found → option_and_then (λ e. verdict (suc i) (so_far && e) ps s xs) found ≡ Some ended → (flags : List Bool) × ViewsRun i (p ∷ ps) flags s xs × (ended ≡ so_far && all_true flags)
    by_found rest None is h = cc h
    by_found rest (Some e) is h =
        let (flags, views, over) = rest e h in
        (e ∷ flags, ((law p.body s (view i xs) e).0 is, views), over ∙ and_all so_far e (all_true flags))

-- and the other way round
pub flags_to : FollowingDecides → (i : ℕ) (so_far : Bool) (ps : List PartTree) (flags : List Bool) (s : State) (xs : List Step) → ViewsRun i ps flags s xs → verdict i so_far ps s xs ≡ Some (so_far && all_true flags)
flags_to law i so_far [] [] s xs h = and_none so_far
  where
    and_none : (a : Bool) → Some a ≡ Some (a && true)
    and_none true = refl
    and_none false = refl
flags_to law i so_far (p ∷ ps) (e ∷ flags) s xs h =
    rw ((law p.body s (view i xs) e).1 h.0) (flags_to law (suc i) (so_far && e) ps flags s xs h.1 ∙ ap Some (and_all so_far e (all_true flags)))
flags_to law i so_far [] (e ∷ flags) s xs h = absurd h
flags_to law i so_far (p ∷ ps) [] s xs h = absurd h

-- the verdict on a trace of the program's words decides whether it is a run
pub decided : FollowingDecides → (program : ProgramTree) (s : State) (xs : List Step) (found : Option Bool) → IsTraceOf program.words (length program.parts) s xs → verdict 1 true program.parts s xs ≡ found → Decides program s xs found
decided law program s xs found trace is ended = (
  λ h. let (flags, views, over) = flags_from law 1 true program.parts s xs ended (is ∙ h) in record { trace = trace; flags = flags; views = views; over = over },
  λ run. sym is ∙ (flags_to law 1 true program.parts run.flags s xs run.views ∙ ap Some (sym run.over)),
)

-- where the part at a place can't make its steps, there is no verdict from there on
pub verdict_stops : (n : ℕ) (so_far : Bool) (parts : List Part) (i : ℕ) (p : Part) (s : State) (xs : List Step) → i < length parts → p ≡ get_or parts i p → followed (statement p.body ∷ []) s (view n xs) ≡ None → verdict n so_far (map part (drop i parts)) s xs ≡ None
verdict_stops n so_far [] i p s xs less at is = absurd (omega arith)
verdict_stops n so_far (q ∷ parts) zero p s xs less at is = rw (subst (λ (x : Part). followed (statement x.body ∷ []) s (view n xs) ≡ None) at is) refl
verdict_stops n so_far (q ∷ parts) (suc i) p s xs less at is = verdict_stops n so_far parts i p s xs (omega arith) at is
