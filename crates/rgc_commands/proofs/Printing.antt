-- Code that was printed is what it says.
use Rattle.std.proofs.Common.{◌≡◌, List, [], ◌∷◌, ℕ, Option, Some, None, Bool, true, false, map, refl, inr, subst}
use Rattle.std.specs.List.{list_any}
use Rattle.rg_words.specs.Layout.{Word}
use Rattle.std.specs.Borrow.{Bor}
use Rattle.std.proofs.Math.Logic.{∥∥₁_map}
use Rattle.rg_tree.specs.Statements.{ProgramTree}
use Rattle.rg_code.specs.Code.{BlockTree}
use Rattle.rg_c.specs.Operations.{OperationTree}
use Rattle.rg_outline_reports.specs.declared.files.OutlineFiles.{OutlineFiles}
use Rattle.rgc.specs.Pieces.{bytes_of, IsBuiltInPieces}
use Rattle.rgc_answers.specs.Accepted.{IsOver}
use Rattle.rgc_answers.proofs.Listings.{lawful_over}
use Rattle.rgc_line.specs.declared.command.Settings.{Settings}
use Rattle.rgc_commands.specs.Answers.{AsInFiles, HasCode, IsLeftOfFiles, IsLeftOfOutline, IsReady}
use Rattle.rgc_commands.specs.Flagged.{is_left_out}
use Rattle.rgc_commands.specs.Code.{Shown, AreAmong, coded_program, coded_code, coded_blocks, IsPrinted}
use Rattle.rgc_commands.specs.Left.{LacksPlan, LacksCode}
use Rattle.rgc_commands.specs.Priority.{said, priority_for}
use Rattle.rgc_commands.specs.Of.{Pieces, OfText, OfPieces, OfThree, IsRead}
use Rattle.rgc_commands.specs.Stops.{LacksCodeOfFiles, LacksCodeOfOutline}
use Rattle.rgc_commands.specs.declared.code.Ready.{Ready}
use Rattle.rgc_commands.specs.declared.code.Coded.{Coded}
use Rattle.rgc_commands.specs.declared.code.Coded.TheVariants.{Whole, Left}
use Rattle.rgc_commands.specs.declared.files.Files.{Files}
use Rattle.rgc_commands.proofs.Apart.{among_none}

-- code is over the words of its program
pub coded_over : (c : Coded) → ∥ IsOver (coded_program c) (coded_code c) ∥₁
coded_over (Whole emitted) = ∥∥₁_map emitted.law (lawful_over emitted.program emitted.code)
coded_over (Left erased) = ∥∥₁_map erased.law (lawful_over erased.program erased.code)

-- what is printed for the order that a text says is printed for an equal one
pub printed_for_equal : (form : Shown) (first second : Option (List ℕ)) (lines : List ℕ) (operations : List OperationTree) (flags : List Bool) (c : Coded) (text : List ℕ)
    → first ≡ second → IsPrinted form first lines operations flags c text → IsPrinted form second lines operations flags c text
printed_for_equal form first second lines operations flags c text same printed =
    subst (λ (priority : Option (List ℕ)). IsPrinted form priority lines operations flags c text) same printed

-- what follows of three files
of_three : (P Q : List ℕ → List (List ℕ) → List (List ℕ) → Type 0) (files : Files) → ((t : List ℕ) (d p : List (List ℕ)) → P t d p → Q t d p) → OfThree files P → OfThree files Q
of_three P Q files follows = by_files files.text files.derivation files.proofs
  where
    by_files : (t : Option (Bor (List ℕ))) (d p : Option Pieces) → OfText t (λ x. OfPieces d (λ y. OfPieces p (P x y))) → OfText t (λ x. OfPieces d (λ y. OfPieces p (Q x y)))
    by_files (Some t) (Some d) (Some p) h = follows t.now (bytes_of d.now) (bytes_of p.now) h
    by_files (Some t) (Some d) None h = absurd h
    by_files (Some t) None p h = absurd h
    by_files None d p h = absurd h

-- the text of the code of files
pub files_code : (names : Option (Bor (List ℕ))) (priority : Option (List ℕ)) (files : Files) (c : Coded) (form : Shown) (text : List ℕ)
    → OfThree files (λ t d p. IsLeftOfFiles names t d p (coded_program c) (coded_blocks c)) → (flags : List Bool) → AreAmong flags [] → IsPrinted form priority [] [] flags c text → OfThree files (λ t d p. HasCode (IsLeftOfFiles names t d p) AsInFiles priority form text)
files_code names priority files c form text left flags among printed =
    of_three (λ t d p. IsLeftOfFiles names t d p (coded_program c) (coded_blocks c)) (λ t d p. HasCode (IsLeftOfFiles names t d p) AsInFiles priority form text) files
    (λ t d p l. record { coded = c; left = l; over = coded_over c; apart = flags; lines = []; operations = []; are = (among_none flags among, refl, refl); printed = printed }) left

-- code of files that is ready to run
pub ready_files : (names : Option (Bor (List ℕ))) (files : Files) (ready : Ready) (start moves : Option (Bor (List ℕ))) (limit : ℕ)
    → OfThree files (λ t d p. IsLeftOfFiles names t d p (coded_program ready.code) (coded_blocks ready.code)) → IsRead start files.start ready.run.start → IsRead moves files.moves ready.run.moves → ready.run.limit ≡ limit
    → OfThree files (λ t d p. IsReady (IsLeftOfFiles names t d p) files start moves limit ready)
ready_files names files ready start moves limit left first moving same =
    of_three (λ t d p. IsLeftOfFiles names t d p (coded_program ready.code) (coded_blocks ready.code)) (λ t d p. IsReady (IsLeftOfFiles names t d p) files start moves limit ready) files
    (λ t d p l. record { left = l; start_read = first; moves_read = moving; limit_is = same }) left

-- what is left of files, or of an outline, has no C
pub files_lack : (s : Settings) (in_c : Bool) (files : Files) (q : ProgramTree) (blocks : List (List BlockTree))
    → OfThree files (λ t d p. IsLeftOfFiles s.erase t d p q blocks) → in_c ≡ true → (lines : List ℕ) → LacksPlan (said s.priority) q [] lines → LacksCodeOfFiles s in_c files lines
files_lack s in_c files q blocks left asked lines lacks =
    of_three (λ t d p. IsLeftOfFiles s.erase t d p q blocks) (λ t d p. LacksCode (IsBuiltInPieces t d p) s.erase [] (said s.priority) in_c [] lines) files
    (λ t d p l. record { program = l.program; whole = l.whole; built = l.built; why = inr (asked, record { left = q; blocks = blocks; is_left = l.is_left; lacks = lacks }) }) left

pub outline_lacks : (s : Settings) (in_c : Bool) (outline : OutlineFiles) (q : ProgramTree) (blocks : List (List BlockTree))
    → IsLeftOfOutline s.erase s.keeps_aux outline q blocks → in_c ≡ true → (priority : Option (List ℕ)) (places lines : List ℕ) → priority ≡ priority_for s.priority outline → LacksPlan priority q places lines
    → LacksCodeOfOutline s in_c lines outline
outline_lacks s in_c outline q blocks l asked priority places lines same lacks =
    let here : LacksPlan (priority_for s.priority outline) q places lines = subst (λ (p : Option (List ℕ)). LacksPlan p q places lines) same lacks in
    (places, record { program = l.program; whole = l.whole; built = l.built; why = inr (asked, record { left = q; blocks = blocks; is_left = l.is_left; lacks = here }) })

-- no word is left out where none is named or flagged
pub none_left_out : (words : List Word) (ks : List ℕ) → list_any (λ b. b) (map (is_left_out words None []) ks) ≡ false
none_left_out words [] = refl
none_left_out words (k ∷ ks) = none_left_out words ks
