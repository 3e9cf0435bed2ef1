-- Refusals: their numbers, files and places, and the text that they print.
use Rattle.std.specs.Prelude.{◌≡◌, ℕ, List, [], ◌++◌, codes, Option, Some, None, Result, Ok, Err}
use Rattle.std.specs.Fmt.{decimal}
use Rattle.std.specs.Option.{option_map_or}
use Rattle.rg_words.specs.declared.refusal.Refusal.{Refusal}
use Rattle.rg_words.specs.declared.refusal.RefusalNumber.{RefusalNumber}
use Rattle.rg_words.specs.declared.refusal.RefusalNumber.TheVariants.{BadByte, Unexpected, UnknownName, NameTwice, Width, NumberTooLarge, WidthsDiffer, WidthUnknown, Prime, Depth, Limit, Unfinished, FixedAssigned, UnexpectedInDerivation, LineNumber, NotEarlier, RuleDoesNotFit, WrongStatement, FormulaDiffers, PartNotDerived, Unreadable, NoSection, IdOrder, HintNotEarlier, HintNotUnit, NoConflict, NoEmptyClause, UnknownCondition, StartOutsidePre, OutsideRely, Write, Mismatch, Stranger, MovesEnded, FixedMoved, Memory}
use Rattle.rg_words.specs.declared.refusal.SourceFile.{SourceFile}
use Rattle.rg_words.specs.declared.refusal.SourceFile.TheVariants.{Text, Derivation, Proofs, Start, Moves}
use Rattle.rg_words.specs.declared.refusal.Place.{Place}
use Rattle.rg_words.specs.declared.refusal.Place.TheVariants.{Line, Condition, Move}

-- want of memory, which has no file and no place
abbrev pub no_memory : Refusal
no_memory = record { number = Memory; file = None; place = None }

-- a refusal with its number alone
abbrev pub refused : RefusalNumber → Refusal
refused number = record { number = number; file = None; place = None }

-- a refusal at a place of a file
abbrev pub refused_in : RefusalNumber → SourceFile → Place → Refusal
refused_in number file place = record { number = number; file = Some file; place = Some place }

-- a refusal at a line of a file
abbrev pub refused_at : RefusalNumber → SourceFile → ℕ → Refusal
refused_at number file line = refused_in number file (Line line)

-- with this fault the call is refused by its number alone; with none it is Ok, or there was no memory
abbrev pub IsRefusedFor : {A : Type 0} → Option RefusalNumber → Result A Refusal → Type 0
IsRefusedFor (Some number) r = r ≡ Err (refused number)
IsRefusedFor None (Ok x) = Unit {0}
IsRefusedFor None (Err e) = e ≡ no_memory

-- the number that a refusal prints
unfoldable pub printed_number : RefusalNumber → ℕ
printed_number BadByte = 1
printed_number Unexpected = 2
printed_number UnknownName = 3
printed_number NameTwice = 4
printed_number Width = 5
printed_number NumberTooLarge = 6
printed_number WidthsDiffer = 7
printed_number WidthUnknown = 8
printed_number Prime = 9
printed_number Depth = 10
printed_number Limit = 11
printed_number Unfinished = 12
printed_number FixedAssigned = 13
printed_number UnexpectedInDerivation = 21
printed_number LineNumber = 22
printed_number NotEarlier = 23
printed_number RuleDoesNotFit = 24
printed_number WrongStatement = 25
printed_number FormulaDiffers = 26
printed_number PartNotDerived = 27
printed_number Unreadable = 41
printed_number NoSection = 42
printed_number IdOrder = 43
printed_number HintNotEarlier = 44
printed_number HintNotUnit = 45
printed_number NoConflict = 46
printed_number NoEmptyClause = 47
printed_number UnknownCondition = 48
printed_number StartOutsidePre = 61
printed_number OutsideRely = 62
printed_number Write = 63
printed_number Mismatch = 64
printed_number Stranger = 65
printed_number MovesEnded = 66
printed_number FixedMoved = 67
printed_number Memory = 99

-- the name of a file
abbrev pub file_name : SourceFile → List ℕ
file_name Text = codes "text"
file_name Derivation = codes "derivation"
file_name Proofs = codes "proofs"
file_name Start = codes "start"
file_name Moves = codes "moves"

-- a line, a condition or a move by its number
abbrev pub place_text : Place → List ℕ
place_text (Line n) = codes "line " ++ decimal n
place_text (Condition k) = codes "condition " ++ decimal k
place_text (Move k) = codes "move " ++ decimal k

-- a refusal's line, as `refused 45 proofs line 12` or `refused 99`: the number, then the file and the place where there are any
abbrev pub refusal_text : Refusal → List ℕ
refusal_text r =
    codes "refused " ++ decimal (printed_number r.number)
    ++ option_map_or (λ file. codes " " ++ file_name file) r.file []
    ++ option_map_or (λ place. codes " " ++ place_text place) r.place []
