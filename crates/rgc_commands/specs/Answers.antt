-- What is so of the files of a command, by its answer.
use Rattle.std.specs.Prelude.{◌≡◌, ◌⊎◌, ℕ, ◌+◌, ◌-◌, ◌≤◌, ◌++◌, List, [], Option, Some, None, Ok, Bool, true, false, not, if◌then◌else◌, length, map, codes, string_bytes, is_some}
use Rattle.std.specs.List.{concat}
use Rattle.std.specs.Str.Parse.{ParsesUnsigned}
use Rattle.std.specs.Borrow.{Bor}
use Rattle.rg_words.specs.declared.limits.TheConstants.{MOST_VARIABLES}
use Rattle.rg_tree.specs.ConditionTrees.{ConditionTree, ConditionHolds}
use Rattle.rg_tree.specs.Conditions.{condition_tree}
use Rattle.rg_tree.specs.Lines.{LineTree}
use Rattle.rg_tree.specs.Statements.{ProgramTree}
use Rattle.rg_tree.specs.Programs.{IsSatisfied}
use Rattle.rg_code.specs.Code.{BlockTree}
use Rattle.rg_c.specs.Operations.{OperationTree}
use Rattle.rg_clauses.specs.ClauseLists.{Cnf}
use Rattle.rg_clauses.specs.Conditions.{clauses_of_condition}
use Rattle.rg_find.specs.Judged.{IsJudged}
use Rattle.rg_find.specs.declared.judgement.Judged.{Judged}
use Rattle.rg_find.specs.declared.judgement.Judged.TheVariants as judged
use Rattle.rg_outline_reports.specs.declared.files.OutlineFiles.{OutlineFiles}
use Rattle.rg_pool.specs.ProofPieces.{AreProvedBy, ArePartProvedBy}
use Rattle.rg_parse.specs.Programs.{SpellsProgram}
use Rattle.rg_accept.specs.Accepted.{conditions_of}
use Rattle.rg_accept.specs.Stages.{parsed_program, derived_program, derived_lines}
use Rattle.rg_accept.specs.declared.stages.Derived.{Derived}
use Rattle.rgc.specs.Chosen.{IsChosen}
use Rattle.rgc.specs.Pieces.{AreDerived, AreAcceptedInPieces, IsBuiltInPieces}
use Rattle.rgc.specs.Proofs.{AreUnproved, IsRange, in_range}
use Rattle.rgc.specs.Valid.{HasClauses, IsProved, IsShown, ShownHolds}
use Rattle.rgc.specs.declared.proofs_found.Unproved.{Unproved as UnprovedCondition}
use Rattle.rg_apart.specs.Laws.{PartsAreApart}
use Rattle.rgc_answers.specs.Accepted.{IsOver}
use Rattle.rgc_answers.specs.declared.proof_lines.Range.{Range}
use Rattle.rgc_answers.specs.declared.proof_lines.Range.TheVariants.{All, Part}
use Rattle.rgc_outlines.specs.Built.{IsBuiltOutline}
use Rattle.rgc_outlines.specs.Cut.{IsOfPieces}
use Rattle.rgc_outlines.specs.Proved.{IsProvedOutline}
use Rattle.rgc_outlines.specs.WalkedRefuted.{IsRefuted}
use Rattle.rgc_outlines.specs.WalkReport.{IsReportOf}
use Rattle.rgc_outlines.specs.Verdict.{name_text}
use Rattle.rgc_outlines.specs.declared.verdict.VerdictForm.{VerdictForm}
use Rattle.rg_outline_reports.specs.WalkReport.{reported_lines}
use Rattle.rg_outline_reports.specs.declared.walk_report.WalkReport.{WalkReport}
use Rattle.rgc_line.specs.declared.command.Command.{Command}
use Rattle.rgc_line.specs.declared.command.Command.TheVariants as command
use Rattle.rgc_line.specs.declared.command.Settings.{Settings}
use Rattle.rgc_commands.specs.declared.answers.Answer.{Answer}
use Rattle.rgc_commands.specs.declared.answers.Answer.TheVariants.{Numbered, Accepted, Conditions, Formulas, Proved, Unproved, Holds, Clauses, Script, Found, Explained, Code, Run, Verified, Walked, Expanded}
use Rattle.rgc_commands.specs.declared.code.Coded.{Coded}
use Rattle.rgc_commands.specs.declared.code.Ready.{Ready}
use Rattle.rgc_commands.specs.declared.files.Files.{Files}
use Rattle.rgc_commands.specs.Code.{is_plain, Shown, accesses, coded_program, coded_code, coded_blocks, IsCodeForm, IsPrinted}
use Rattle.rgc_commands.specs.Flagged.{flags_for}
use Rattle.rgc_commands.specs.Left.{IsLeftBy}
use Rattle.rgc_commands.specs.Priority.{said, priority_for}
use Rattle.rgc_commands.specs.Of.{OfText, OfPieces, OfTwo, OfThree, OfOutline, IsRead}

-- the answer is what the command is asked for
abbrev pub has_succeeded : Answer → Bool
has_succeeded (Unproved derived unproved) = false
has_succeeded (Found condition (judged.Holds lines)) = true
has_succeeded (Found condition _) = false
has_succeeded (Walked is_broken text) = not is_broken
has_succeeded _ = true

-- the word names a range by the numbers of its first and its last condition, in decimal digits
pub record SpellsRange (word : List ℕ) (first last : ℕ) : Type 0 where
  pub low : List ℕ
  pub high : List ℕ
  pub is : word ≡ low ++ (codes "-" ++ high)
  pub low_is : ParsesUnsigned {E = Unit {0}} 64 10 low (Ok first)
  pub high_is : ParsesUnsigned {E = Unit {0}} 64 10 high (Ok last)

-- which conditions of a program and the lines of its derivation a command is about: all, or those of the range that a word names
abbrev pub IsRangeOf : Option (Bor (List ℕ)) → ProgramTree → List LineTree → Range → Type 0
IsRangeOf None p lines (All count) = count ≡ length (conditions_of p lines)
IsRangeOf (Some word) p lines (Part first last) = SpellsRange word.now first last × IsRange first last (length (conditions_of p lines))
IsRangeOf _ p lines range = ⊥

-- pieces of proofs prove all of these conditions
abbrev pub AreProofsOf : Range → List ConditionTree → List (List ℕ) → Type 0
AreProofsOf (All count) conditions pieces = AreProvedBy conditions pieces
AreProofsOf (Part first last) conditions pieces = ArePartProvedBy (length conditions) (first - 1) (in_range first last conditions) pieces

-- the numbers of the first condition of a range, and of the one after its last
abbrev pub first_of : Range → ℕ
first_of (All count) = 1
first_of (Part first last) = first

abbrev pub end_of : Range → ℕ
end_of (All count) = count + 1
end_of (Part first last) = last + 1

-- the text spells a program, the derivation lines that derive its parts, and pieces of proofs prove all of these conditions
pub record HasProofs (word : Option (Bor (List ℕ))) (range : Range) (pieces : List (List ℕ)) (text : List ℕ) (derivation : List (List ℕ)) : Type 0 where
  pub program : ProgramTree
  pub lines : List LineTree
  pub derived : AreDerived text derivation program lines
  pub range_is : IsRangeOf word program lines range
  pub proved : AreProofsOf range (conditions_of program lines) pieces

-- some of the conditions of what is derived have no proof: what is reported of these is so, and all others hold
pub record LacksProofs (word : Option (Bor (List ℕ))) (derived : Derived) (unproved : List UnprovedCondition) (text : List ℕ) (derivation : List (List ℕ)) : Type 0 where
  pub derived_is : AreDerived text derivation (derived_program derived) (derived_lines derived)
  pub range : Range
  pub range_is : IsRangeOf word (derived_program derived) (derived_lines derived) range
  pub are : AreUnproved (conditions_of (derived_program derived) (derived_lines derived)) (first_of range) (end_of range) unproved

-- the text spells a formula to show, and what was found of it is so
pub record IsJudgedFormula (text : List ℕ) (condition : ConditionTree) (found : Judged) : Type 0 where
  pub shown : IsShown text condition
  pub judged : IsJudged condition found
  pub clauses : HasClauses text (clauses_of_condition condition)
  pub holds : ConditionHolds condition → ShownHolds text

-- these are the clauses of the condition of this number, which keep the limit of variables
pub record HasChosenClauses (text : List ℕ) (derivation : List (List ℕ)) (number : ℕ) (clauses : Cnf) : Type 0 where
  pub condition : ConditionTree
  pub chosen : IsChosen text derivation number condition
  pub are : clauses ≡ clauses_of_condition condition
  pub within : clauses.variables ≤ MOST_VARIABLES

-- this is left of the code of files that are accepted, without the words of these names
pub record IsLeftOfFiles (names : Option (Bor (List ℕ))) (text : List ℕ) (derivation proofs : List (List ℕ)) (left : ProgramTree) (blocks : List (List BlockTree)) : Type 0 where
  pub program : ProgramTree
  pub whole : List (List BlockTree)
  pub built : IsBuiltInPieces text derivation proofs program whole
  pub is_left : IsLeftBy (flags_for program.words names []) program whole left blocks

-- the auxiliary words of an outline are flagged; none where they stay
abbrev pub auxiliary_of : Bool → OutlineFiles → List Bool
auxiliary_of keeps_aux outline = if keeps_aux then [] else outline.auxiliary.items

-- the same of an outline all of whose conditions are proved; and without its auxiliary words, unless they stay
pub record IsLeftOfOutline (names : Option (Bor (List ℕ))) (keeps_aux : Bool) (outline : OutlineFiles) (left : ProgramTree) (blocks : List (List BlockTree)) : Type 0 where
  pub program : ProgramTree
  pub whole : List (List BlockTree)
  pub built : IsBuiltOutline outline program whole
  pub is_left : IsLeftBy (flags_for program.words names (auxiliary_of keeps_aux outline)) program whole left blocks

-- of files: no part is apart from another at a word, so what is printed rests on no assertion; the lines that are printed are those of the text; and no named
-- statements are used
abbrev pub AsInFiles : ProgramTree → List Bool → List ℕ → List OperationTree → Type 0
AsInFiles p apart lines operations = (apart ≡ []) × (lines ≡ []) × (operations ≡ [])

-- of an outline: its parts are apart at these words; which of its lines are printed for those of the text, and where it uses named statements, isn't said
abbrev pub AsInOutline : ProgramTree → List Bool → List ℕ → List OperationTree → Type 0
AsInOutline p apart lines operations = PartsAreApart p apart

-- the text of code that is left so is printed in this form, its parts interrupting each other so, and being apart so, with lines for those of its text, and with
-- uses of named statements
pub record HasCode (IsLeft : ProgramTree → List (List BlockTree) → Type 0) (Are : ProgramTree → List Bool → List ℕ → List OperationTree → Type 0) (priority : Option (List ℕ)) (form : Shown) (text : List ℕ) : Type 0 where
  pub coded : Coded
  pub left : IsLeft (coded_program coded) (coded_blocks coded)
  pub over : ∥ IsOver (coded_program coded) (coded_code coded) ∥₁
  pub apart : List Bool
  pub lines : List ℕ
  pub operations : List OperationTree
  pub are : Are (coded_program coded) apart lines operations
  pub printed : IsPrinted form priority lines operations apart coded text

-- code that is left so is ready to run, with a start and with moves where the command names such files
pub record IsReady {A : Type 0} (IsLeft : ProgramTree → List (List BlockTree) → Type 0) (files : Files) (start moves : Option A) (limit : ℕ) (ready : Ready) : Type 0 where
  pub left : IsLeft (coded_program ready.code) (coded_blocks ready.code)
  pub start_read : IsRead start files.start ready.run.start
  pub moves_read : IsRead moves files.moves ready.run.moves
  pub limit_is : ready.run.limit ≡ limit

-- all conditions of an outline, which are so many, are proved
pub record IsVerified (conditions : ℕ) (files : OutlineFiles) : Type 0 where
  pub program : ProgramTree
  pub lines : List LineTree
  pub proofs : List (List ℕ)
  pub proved : IsProvedOutline files program lines proofs
  pub count : conditions ≡ length (conditions_of program lines)

-- after a verdict is printed how each step is done in C, where that is asked for
abbrev pub HasMore : Settings → OutlineFiles → List ℕ → Type 0
HasMore s outline more = s.has_accesses ≡ true → HasCode (IsLeftOfOutline s.erase s.keeps_aux outline) AsInOutline (priority_for s.priority outline) accesses more

-- an outline's text is printed, or goes to a file
abbrev pub IsTextOf : Bool → OutlineFiles → List ℕ → Type 0
IsTextOf true outline text = text ≡ []
IsTextOf false outline text = text ≡ outline.text.items

-- what a walk of the program that a text spells found is printed, after an outline's name or without one; where that is a run, the program doesn't satisfy its
-- specification
pub record HasWalked (text : List ℕ) (is_broken : Bool) (printed : List ℕ) : Type 0 where
  pub report : WalkReport
  pub is : IsReportOf text is_broken report
  pub form : VerdictForm
  pub lines : printed ≡ name_text form ++ reported_lines report
  pub refuted : is_broken ≡ true → IsRefuted text

-- the text of these files spells a program, and the pieces of their derivation spell lines that derive its parts
pub record IsExpansion (is_put : Bool) (text : List ℕ) (outline : OutlineFiles) : Type 0 where
  pub program : ProgramTree
  pub lines : List LineTree
  pub derived : IsOfPieces outline.text.items outline.derivation.items program lines
  pub printed : IsTextOf is_put outline text

-- what is so of the files of a command, by its answer
abbrev pub IsAnswer : Settings → Command → Files → Answer → Type 0
IsAnswer s (command.Number _) files (Numbered parsed) = OfText files.text (λ text. SpellsProgram text (parsed_program parsed))
IsAnswer s (command.Check _ _ _) files Accepted =
    OfThree files (λ text derivation proofs. (p : ProgramTree) × AreAcceptedInPieces text derivation proofs p × IsSatisfied p)
IsAnswer s (command.Conditions _ _ false) files (Conditions derived) = OfTwo files (λ text derivation. AreDerived text derivation (derived_program derived) (derived_lines derived))
IsAnswer s (command.Conditions _ _ true) files (Formulas derived) = (is_plain s.format ≡ true) × OfTwo files (λ text derivation. AreDerived text derivation (derived_program derived) (derived_lines derived))
IsAnswer s (command.Prove _ _ _ word) files (Proved range pieces) = OfTwo files (HasProofs word range (map string_bytes pieces.items))
IsAnswer s (command.Prove _ _ _ word) files (Unproved derived unproved) = OfTwo files (LacksProofs word derived unproved.items)
IsAnswer s (command.Valid _ _) files Holds = OfText files.text (λ text. OfPieces files.proofs (λ proofs. IsProved text (concat proofs) × ShownHolds text))
IsAnswer s (command.Clauses _ None) files (Clauses clauses) = (s.is_smt ≡ false) × OfText files.text (λ text. HasClauses text clauses)
IsAnswer s (command.Clauses _ (Some chosen)) files (Clauses clauses) = (s.is_smt ≡ false) × OfTwo files (λ text derivation. HasChosenClauses text derivation chosen.condition clauses)
IsAnswer s (command.Clauses _ None) files (Script condition) = (s.is_smt ≡ true) × OfText files.text (λ text. IsShown text (condition_tree condition))
IsAnswer s (command.Clauses _ (Some chosen)) files (Script condition) =
    (s.is_smt ≡ true) × OfTwo files (λ text derivation. IsChosen text derivation chosen.condition (condition_tree condition))
IsAnswer s (command.Find _ _ None) files (Found condition found) = OfText files.text (λ text. IsJudgedFormula text (condition_tree condition) found)
IsAnswer s (command.Find _ _ (Some chosen)) files (Found condition found) =
    OfTwo files (λ text derivation. IsChosen text derivation chosen.condition (condition_tree condition) × IsJudged (condition_tree condition) found)
IsAnswer s (command.Explain number) files (Explained explained entry) = explained ≡ number
IsAnswer s (command.Emit _ _ _) files (Code code) =
    (form : Shown) × IsCodeForm s form × OfThree files (λ text derivation proofs. HasCode (IsLeftOfFiles s.erase text derivation proofs) AsInFiles (said s.priority) form (string_bytes code))
IsAnswer s (command.EmitOutline _) files (Code code) =
    (form : Shown) × IsCodeForm s form × OfOutline files (λ outline. HasCode (IsLeftOfOutline s.erase s.keeps_aux outline) AsInOutline (priority_for s.priority outline) form (string_bytes code))
IsAnswer s (command.Accesses _ _ _) files (Code code) =
    OfThree files (λ text derivation proofs. HasCode (IsLeftOfFiles s.erase text derivation proofs) AsInFiles (said s.priority) accesses (string_bytes code))
IsAnswer s (command.AccessesOutline _) files (Code code) = OfOutline files (λ outline. HasCode (IsLeftOfOutline s.erase s.keeps_aux outline) AsInOutline (priority_for s.priority outline) accesses (string_bytes code))
IsAnswer s (command.Run _ _ _ start moves limit _) files (Run ready) =
    OfThree files (λ text derivation proofs. IsReady (IsLeftOfFiles s.erase text derivation proofs) files start moves limit ready)
IsAnswer s (command.RunOutline _ start moves limit _) files (Run ready) = OfOutline files (λ outline. IsReady (IsLeftOfOutline None true outline) files start moves limit ready)
IsAnswer s (command.Verify _ _ false _) files (Verified verified) = OfOutline files (λ outline. IsVerified verified.conditions outline × HasMore s outline verified.more.items)
IsAnswer s (command.Verify _ _ true _) files (Walked is_broken text) = OfOutline files (λ outline. HasWalked outline.text.items is_broken text.items)
IsAnswer s (command.Challenge _ _) files (Verified verified) = OfOutline files (IsVerified verified.conditions)
IsAnswer s (command.Outline _ _ text _ _ _) files (Expanded printed) = OfOutline files (IsExpansion (is_some text) printed.items)
IsAnswer s _ files _ = ⊥

-- what is noted beside the answer of a command: nothing, unless it is about code or over an outline
abbrev pub AreNotesOf : Command → List ℕ → Type 0
AreNotesOf (command.Number _) notes = notes ≡ []
AreNotesOf (command.Check _ _ _) notes = notes ≡ []
AreNotesOf (command.Conditions _ _ _) notes = notes ≡ []
AreNotesOf (command.Prove _ _ _ _) notes = notes ≡ []
AreNotesOf (command.Valid _ _) notes = notes ≡ []
AreNotesOf (command.Clauses _ _) notes = notes ≡ []
AreNotesOf (command.Find _ _ _) notes = notes ≡ []
AreNotesOf (command.Explain _) notes = notes ≡ []
AreNotesOf _ notes = Unit {0}
