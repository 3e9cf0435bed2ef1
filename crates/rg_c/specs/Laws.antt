-- What the statements of steps and of tests do.
use Rattle.std.specs.Prelude.{◌≡◌, ℕ, Bool, true, List, [], Option, Some, None, if◌then◌else◌}
use Rattle.std.specs.Option.{option_map_or}
use Rattle.rg_words.specs.Layout.{Word, widths_of, IsLayout}
use Rattle.rg_words.specs.States.{IsState}
use Rattle.rg_tree.specs.Trees.{Proposition, Assignment}
use Rattle.rg_tree.specs.ConditionTrees.{assigned, AssignmentsTyped}
use Rattle.rg_tree.specs.TypedPrograms.{IsTypedPredicate}
use Rattle.rg_tree.specs.Traces.{State, holds_at}
use Rattle.rg_c_plan.specs.declared.kind.Kind.{Kind}
use Rattle.rg_c_plan.specs.Ways.{way_of}
use Rattle.rg_c_values.specs.Translation.{test_in_c}
use Rattle.rg_c.specs.CStatements.{CStatement, nothing, ◌⨾◌, reading, breaks, either}
use Rattle.rg_c.specs.Meaning.{made, none, done}
use Rattle.rg_c.specs.Steps.{marked, step_of}
use Rattle.rg_c.specs.Questions.{loaded_reads, before, question}

-- the guard, if there is one, holds in a state
abbrev pub is_open : Option Proposition → State → Bool
is_open guard s = option_map_or (λ f. holds_at f s) guard true

-- the guard, if there is one, is of one state and well typed
abbrev pub IsTypedGuard : List Word → Option Proposition → Type 0
IsTypedGuard words None = Unit {0}
IsTypedGuard words (Some f) = IsTypedPredicate words f

-- whatever the kinds of the words: done at once, the statements of a step make exactly the step of the program. They make none, and leave the words alone, where the
-- guard doesn't hold, and else one to the state after the assignments
abbrev pub StepsAreRight : Type 0
StepsAreRight =
    (words : List Word) (kinds : List Kind) (mark : List ℕ) (guard : Option Proposition) (act : List Assignment) (s : State) →
    IsLayout words → IsState words s → IsTypedGuard words guard → AssignmentsTyped (widths_of words) act →
    done words (step_of words kinds mark guard act) s ≡ (if is_open guard s then made (assigned act s) else none s)

-- the question of an `if` or a `while`, which is answered by yes where this goes on
abbrev pub questioned : List Word → List Kind → List ℕ → ℕ → Proposition → CStatement
questioned words kinds mark place f =
    let way = way_of kinds (Some f) [] in
    let t = test_in_c (widths_of words) f in
    reading (loaded_reads words kinds way t) (before (marked mark) place way t ⨾ either (question place way t) nothing breaks)

-- a test is answered by yes exactly where its formula holds, and leaves the words alone
abbrev pub TestsAreRight : Type 0
TestsAreRight =
    (words : List Word) (kinds : List Kind) (mark : List ℕ) (place : ℕ) (f : Proposition) (s : State) →
    IsLayout words → IsState words s → IsTypedPredicate words f →
    done words (questioned words kinds mark place f) s ≡ (if holds_at f s then made s else none s)
