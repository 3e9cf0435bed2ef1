-- What is reported of the runs of a text's program.
use Rattle.std.specs.Prelude.{◌≡◌, ℕ, List, Bool, true, false}
use Rattle.rg_tree.specs.Statements.{ProgramTree}
use Rattle.rg_parse.specs.Programs.{SpellsProgram}
use Rattle.rg_walk.specs.Breaking.{WalkFits}
use Rattle.rg_walk.specs.declared.run.Walked.{Walked}
use Rattle.rg_walk.specs.declared.run.Walked.TheVariants.{Breaks, NotFound}
use Rattle.rg_outline_reports.specs.WalkReport.{reported_walk}
use Rattle.rg_outline_reports.specs.declared.walk_report.WalkReport.{WalkReport}

-- the text spells a program, and a run that was found is one of it that breaks its specification
pub record IsWalkOf (text : List ℕ) (walked : Walked) : Type 0 where
  pub program : ProgramTree
  pub spells : SpellsProgram text program
  pub fits : WalkFits program walked

-- a run was found
abbrev pub is_breaking : Walked → Bool
is_breaking (Breaks run) = true
is_breaking (NotFound none) = false

-- what is reported is such a walk of the text, and whether a run was found is what that walk says
pub record IsReportOf (text : List ℕ) (is_broken : Bool) (report : WalkReport) : Type 0 where
  pub walk : IsWalkOf text (reported_walk report)
  pub is : is_broken ≡ is_breaking (reported_walk report)
