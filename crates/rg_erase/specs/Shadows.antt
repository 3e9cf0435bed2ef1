-- The runs of a program and those of the program without some of its words.
use Rattle.std.specs.Prelude.{◌≡◌, true, Bool, List, map}
use Rattle.rg_words.specs.States.{IsState}
use Rattle.rg_tree.specs.Meaning.{holds}
use Rattle.rg_tree.specs.Statements.{ProgramTree}
use Rattle.rg_tree.specs.Traces.{State, Step, holds_at}
use Rattle.rg_tree.specs.Programs.{IsRun, OthersInside}
use Rattle.rg_erase.specs.Erased.{staying}

-- a step without the values of erased words
abbrev pub shadow : List Bool → Step → Step
shadow erased x = record { who = x.who; after = staying erased x.after }

-- a run of q from what stays of s, with its steps and its flag, is the shadow of a run of p from s, whose steps of the environment are inside p's rely where
-- those of q's run are inside q's
pub record IsShadowOf (erased : List Bool) (p q : ProgramTree) (s : State) (ys : List Step) (ended : Bool) : Type 0 where
  pub steps : List Step
  pub run : IsRun p s steps ended
  pub shadows : map (shadow erased) steps ≡ ys
  pub inside : OthersInside (holds q.spec.rely) (staying erased s) ys → OthersInside (holds p.spec.rely) s steps

-- a state inside q's pre is what stays of a state inside p's
pub record IsStartOf (erased : List Bool) (p : ProgramTree) (s : State) : Type 0 where
  pub start : State
  pub is_state : IsState p.words start
  pub shadows : staying erased start ≡ s
  pub inside : holds_at p.spec.pre start ≡ true

-- q's runs are the shadows of p's: what stays of a run of p is a run of q with the same flag; each run of q is what stays of a run of p, from any state of p that it
-- may begin in; and each state inside q's pre is what stays of one inside p's
pub record AreShadows (erased : List Bool) (p q : ProgramTree) : Type 0 where
  pub forth : (s : State) (xs : List Step) (ended : Bool) → IsRun p s xs ended → IsRun q (staying erased s) (map (shadow erased) xs) ended
  pub back : (s : State) (ys : List Step) (ended : Bool) → IsState p.words s → IsRun q (staying erased s) ys ended → IsShadowOf erased p q s ys ended
  pub starts : (s : State) → IsState q.words s → holds_at q.spec.pre s ≡ true → IsStartOf erased p s
