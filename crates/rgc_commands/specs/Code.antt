-- The code that a command is about, and what is printed of it.
use Rattle.std.specs.Prelude.{◌≡◌, ◌++◌, ℕ, Bool, true, false, List, [], ◌∷◌, Option, Some, None, codes, if◌then◌else◌}
use Rattle.std.specs.Borrow.{Bor}
use Rattle.serde_json.specs.Written.{compact_text}
use Rattle.rg_tree.specs.ProgramTrees.{program}
use Rattle.rg_tree.specs.Statements.{ProgramTree}
use Rattle.rg_code.specs.Code.{BlockTree}
use Rattle.rg_code.specs.CodeTrees.{code_blocks}
use Rattle.rg_code.specs.declared.code.Code.{Code}
use Rattle.rg_c_plan.specs.Kinds.{kinds_of, unplanned}
use Rattle.rg_c_plan.specs.Sound.{IsSound}
use Rattle.rg_c_plan.specs.declared.order.Rank.{Rank}
use Rattle.rg_c_plan.specs.declared.kind.Kind.{Kind}
use Rattle.rg_c.specs.Headers.{header_text}
use Rattle.rg_c.specs.Operations.{OperationTree}
use Rattle.rg_c_report.specs.Reports.{report_text}
use Rattle.rgc_answers.specs.Listing.{listing_data}
use Rattle.rgc_line.specs.declared.command.Format.{Format}
use Rattle.rgc_line.specs.declared.command.Format.TheVariants.{Plain, Json}
use Rattle.rgc_line.specs.declared.command.Settings.{Settings}
use Rattle.rgc_commands.specs.Priority.{IsOrdered}
use Rattle.rgc_commands.specs.Titles.{is_title}
use Rattle.rgc_commands.specs.declared.code.Coded.{Coded}
use Rattle.rgc_commands.specs.declared.code.Coded.TheVariants.{Whole, Left}
use Rattle.rgc_commands.specs.declared.code.Form.{Form}
use Rattle.rgc_commands.specs.declared.code.Form.TheVariants.{Listing, C, Accesses}

-- the program, and its code
abbrev pub coded_program : Coded → ProgramTree
coded_program (Whole emitted) = program emitted.program
coded_program (Left erased) = program erased.program

abbrev pub coded_code : Coded → Code
coded_code (Whole emitted) = emitted.code
coded_code (Left erased) = erased.code

-- the blocks of the code, part by part
abbrev pub coded_blocks : Coded → List (List BlockTree)
coded_blocks c = code_blocks (coded_code c)

-- what is printed of code: its listing; a header of C under a name, with its steps marked or not; how its steps are done in C
pub data Shown : Type 0 where
  listing : Shown
  header : List ℕ → Bool → Shown
  accesses : Shown

-- what a form asks for
abbrev pub shown : Form → Shown
shown Listing = listing
shown (C options) = header options.name.now options.is_traced
shown Accesses = accesses

-- a format is that of lines
abbrev pub is_plain : Format → Bool
is_plain Plain = true
is_plain Json = false

-- what is printed says how steps are done in C
abbrev pub is_in_c : Shown → Bool
is_in_c listing = false
is_in_c (header name traced) = true
is_in_c accesses = true

-- the name under which a header of C is printed
abbrev pub title_of : Option (Bor (List ℕ)) → List ℕ
title_of None = codes "program"
title_of (Some name) = name.now

-- code is asked for so, and a header has a name that it may have
pub record IsCodeForm (settings : Settings) (form : Shown) : Type 0 where
  pub is : form ≡ (if settings.is_c then header (title_of settings.prefix) settings.is_traced else listing)
  pub titled : settings.is_c ≡ true → is_title (title_of settings.prefix) ≡ true

-- these flags are some of those: no more, and one that is set is set there
abbrev pub AreAmong : List Bool → List Bool → Type 0
AreAmong [] those = Unit {0}
AreAmong (f ∷ fs) [] = ⊥
AreAmong (f ∷ fs) (b ∷ bs) = (f ≡ true → b ≡ true) × AreAmong fs bs

-- the kinds are those that the program's words have in C where its parts interrupt each other so, and are apart at these: each step is done at once, and no two parties
-- meet at a plain word outside of critical sections, but for parts that are apart
pub record IsPlan (kinds : List Kind) (order : List (Option Rank)) (apart : List Bool) (p : ProgramTree) : Type 0 where
  pub is : kinds ≡ kinds_of p order apart
  pub possible : unplanned p order apart ≡ None
  pub sound : IsSound kinds order p

-- the same of an order that a text says
abbrev pub IsPlanned : Option (List ℕ) → List (Option Rank) → List Kind → List Bool → ProgramTree → Type 0
IsPlanned priority order kinds apart p = IsOrdered priority p order × IsPlan kinds order apart p

-- a program, whose parts interrupt each other as a text says and are apart at these words, and its code are printed so, with these lines for those of its text,
-- and these uses of named statements
abbrev pub IsPrintedAs : Shown → Option (List ℕ) → List ℕ → List OperationTree → List Bool → ProgramTree → Code → List ℕ → Type 0
IsPrintedAs listing priority lines operations apart p code text = text ≡ compact_text (listing_data code) ++ codes "\n"
IsPrintedAs (header name traced) priority lines operations apart p code text =
    (order : List (Option Rank)) × (kinds : List Kind) × IsPlanned priority order kinds apart p × (text ≡ header_text name traced lines operations order kinds p)
IsPrintedAs accesses priority lines operations apart p code text =
    (order : List (Option Rank)) × (kinds : List Kind) × IsPlanned priority order kinds apart p × (text ≡ report_text p order kinds lines)

-- code is printed so
abbrev pub IsPrinted : Shown → Option (List ℕ) → List ℕ → List OperationTree → List Bool → Coded → List ℕ → Type 0
IsPrinted form priority lines operations apart c text = IsPrintedAs form priority lines operations apart (coded_program c) (coded_code c) text
