-- The lines that report why code isn't had.
use Rattle.std.specs.Prelude.{ℕ, List, ◌++◌, codes, decimal}
use Rattle.rg_words.specs.Layout.{Word}
use Rattle.rg_erase.specs.declared.fault.Fault.{Fault}
use Rattle.rg_erase.specs.declared.fault.Fault.TheVariants.{NothingLeft, Pre, Rely, Read}
use Rattle.rg_c_plan.specs.declared.planned.Unplanned.{Unplanned}
use Rattle.rg_c_plan.specs.declared.planned.Unplanned.TheVariants.{Step, Wait}
use Rattle.rg_c_report.specs.Lines.{line_shown}
use Rattle.rg_c_report.specs.Words.{name_of}

-- a name is that of no word
abbrev pub unknown_line : List ℕ → List ℕ
unknown_line name = codes "error: --erase names " ++ name ++ codes ", which is no word of the program\n"

-- words can't be erased; these are the lines that are printed for those of the text
abbrev pub fault_line : List Word → List ℕ → Fault → List ℕ
fault_line words places NothingLeft = codes "error: no word is left that a step may change\n"
fault_line words places (Pre k) =
    let name = name_of words k in
    codes "error: " ++ (name ++ (codes " can't be erased: the pre says something else of it than its value, once, as `" ++ (name ++ codes " = 0` does\n")))
fault_line words places (Rely k) =
    let name = name_of words k in
    codes "error: " ++ (name ++ (codes " can't be erased: the rely says something else of it than its value after a step, once, as `" ++ (name ++ (codes "' = " ++ (name ++ codes "` does\n")))))
fault_line words places (Read line k) = codes "error: line " ++ (decimal (line_shown places line) ++ (codes ": " ++ (name_of words k ++ codes " can't be erased: what stays reads it\n")))

-- no C does the step at this line at once, for this word
abbrev pub step_line : List Word → ℕ → ℕ → List ℕ
step_line words row k =
    codes "error: line "
    ++ (decimal row ++ (codes ": no C does this step at once: it accesses " ++ (name_of words k ++ codes ", which the world outside accesses too, and another shared word\n")))

-- a part that interrupts another one may wait at this line
abbrev pub wait_line : ℕ → List ℕ
wait_line row = codes "error: line " ++ (decimal row ++ codes ": its part interrupts another one, which stands still, so it must not wait: let it ask with `if`\n")

-- why there is no C; these are the lines that are printed for those of the text
abbrev pub unplanned_line : List Word → List ℕ → Unplanned → List ℕ
unplanned_line words places (Step row k) = step_line words (line_shown places row) k
unplanned_line words places (Wait row) = wait_line (line_shown places row)
