-- Flags of words at which parts are apart.
use Rattle.std.proofs.Common.{◌≡◌, ℕ, zero, suc, Bool, true, false, List, [], ◌∷◌, set, refl}
use Rattle.std.proofs.lemmas.Bool.{false≢true}
use Rattle.rg_tree.specs.Statements.{ProgramTree}
use Rattle.rg_c_plan.specs.Apart.{is_apart}
use Rattle.rg_apart.specs.Laws.{PartsAreApart}
use Rattle.rgc_commands.specs.Code.{AreAmong}

pub among_itself : (flags : List Bool) → AreAmong flags flags
among_itself [] = tt
among_itself (f ∷ fs) = (λ h. h, among_itself fs)

pub among_none : (flags : List Bool) → AreAmong flags [] → flags ≡ []
among_none [] h = refl
among_none (f ∷ fs) h = absurd h

-- so they are where one is cleared
pub among_cleared : (flags those : List Bool) (k : ℕ) → AreAmong flags those → AreAmong (set flags k false) those
among_cleared [] those k h = h
among_cleared (f ∷ fs) [] k h = absurd h
among_cleared (f ∷ fs) (b ∷ bs) zero h = (λ e. absurd (false≢true e), h.1)
among_cleared (f ∷ fs) (b ∷ bs) (suc k) h = (h.0, among_cleared fs bs k h.1)

set_there : (flags those : List Bool) (k : ℕ) → AreAmong flags those → is_apart flags k ≡ true → is_apart those k ≡ true
set_there [] those k h e = absurd (false≢true e)
set_there (f ∷ fs) [] k h e = absurd h
set_there (f ∷ fs) (b ∷ bs) zero h e = h.0 e
set_there (f ∷ fs) (b ∷ bs) (suc k) h e = set_there fs bs k h.1 e

-- parts that are apart at some words are at fewer, and all are at none
pub apart_at_fewer : (q : ProgramTree) (flags those : List Bool) → AreAmong flags those → PartsAreApart q those → PartsAreApart q flags
apart_at_fewer q flags those h apart s xs at standing pre inside k less flagged = apart s xs at standing pre inside k less (set_there flags those k h flagged)

pub apart_at_none : (q : ProgramTree) → PartsAreApart q []
apart_at_none q s xs at standing pre inside k less flagged = absurd (false≢true flagged)
