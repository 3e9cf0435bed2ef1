-- The tests that the code makes of kinds.
use Rattle.std.specs.Prelude.{ℕ, Bool, false, not, ◌&&◌, List}
use Rattle.std.specs.List.{list_any, list_all}
use Rattle.rg_tree.specs.Statements.{ProgramTree}
use Rattle.rg_c_plan.specs.Accesses.{StepTree, accesses, world_access, is_fixed, is_touched, some_meet, places}
use Rattle.rg_c_plan.specs.Apart.{may_be_apart}
use Rattle.rg_c_plan.specs.Kinds.{crowds}
use Rattle.rg_c_plan.specs.Ways.{kind_at}
use Rattle.rg_c_plan.specs.declared.kind.Kind.{Kind}
use Rattle.rg_c_plan.specs.declared.kind.Kind.TheVariants.{Fixed, Own, Apart, Published, Sheltered, Atomic, Guarded}

-- some step needs a section for a word
abbrev pub steps_crowd : List Kind → ℕ → List StepTree → Bool
steps_crowd kinds k ss = list_any (crowds kinds k) ss

-- a word of this kind is sound
abbrev pub is_word_sound : ProgramTree → Kind → ℕ → Bool
is_word_sound p Fixed k = is_fixed p.words k
is_word_sound p Own k = not (is_fixed p.words k) && not (some_meet (accesses p k))
is_word_sound p Apart k = not (is_fixed p.words k) && may_be_apart p k
is_word_sound p Published k = false
is_word_sound p Sheltered k = false
is_word_sound p Atomic k = not (is_fixed p.words k)
is_word_sound p Guarded k = not (is_fixed p.words k) && not (is_touched (world_access k p.words p.spec.rely))

-- each word is sound
abbrev pub are_words_sound : ProgramTree → List Kind → Bool
are_words_sound p kinds = list_all (λ k. is_word_sound p (kind_at kinds k) k) (places kinds)
