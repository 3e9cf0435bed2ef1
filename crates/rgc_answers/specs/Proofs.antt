-- Proofs of conditions, and conditions without a proof, as JSON.
use Rattle.std.specs.Prelude.{ℕ, List, codes, Option, Some, None}
use Rattle.std.specs.List.{flat_map}
use Rattle.serde_json.specs.Data.{Data, Members, put, object, member, no_members, number, string, unsigned}
use Rattle.rg_words.specs.Layout.{Word}
use Rattle.rg_words.specs.States.{Valuation}
use Rattle.rg_find.specs.declared.judgement.Judged.{Judged}
use Rattle.rg_find.specs.declared.judgement.Judged.TheVariants.{Holds, Fails, GaveUp, TooLarge}
use Rattle.rgc.specs.Failures.{name_at, failures_text}
use Rattle.rgc.specs.declared.proofs_found.Unproved.{Unproved}
use Rattle.rgc_answers.specs.Lines.{json_line}
use Rattle.rgc_answers.specs.declared.proof_lines.Range.{Range}
use Rattle.rgc_answers.specs.declared.proof_lines.Range.TheVariants.{All, Part}
use Rattle.rgc_line.specs.declared.command.Format.{Format}
use Rattle.rgc_line.specs.declared.command.Format.TheVariants.{Plain, Json}
use Rattle.rg_tree.specs.Statements.{ProgramTree}
use Rattle.rg_tree.specs.Lines.{LineTree}
use Rattle.rg_accept.specs.Names.{names_of_conditions}
use Rattle.rgc_answers.specs.States.{state_data}

-- proofs of these conditions, as the text of a proofs file: of all, with their count, or with the first and the last number
abbrev pub proofs_data : Range → List ℕ → Data
proofs_data (All count) text = object (member (codes "conditions") (number (unsigned count)) (member (codes "kind") (string (codes "proofs")) (member (codes "text") (string text) no_members)))
proofs_data (Part first last) text =
    object (member (codes "first") (number (unsigned first)) (member (codes "kind") (string (codes "proofs")) (member (codes "last") (number (unsigned last)) (member (codes "text") (string text) no_members))))

-- a piece of them
abbrev pub piece_text : Format → Range → List ℕ → List ℕ
piece_text Plain range piece = piece
piece_text Json range piece = json_line (proofs_data range piece)

-- all pieces, one after another
abbrev pub proofs_text : Format → Range → List (List ℕ) → List ℕ
proofs_text format range = flat_map (piece_text format range)

-- why a condition has no proof
abbrev pub why_text : Judged → List ℕ
why_text (Fails first second) = codes "fails"
why_text GaveUp = codes "gave up"
why_text TooLarge = codes "too large"
why_text (Holds lines) = codes "too large"

-- the members, with the state before, and the state after where there is one
abbrev pub with_pair : List Word → Valuation → Option Valuation → Members → Members
with_pair words first (Some second) ms = put (codes "after") (state_data words second) (put (codes "before") (state_data words first) ms)
with_pair words first None ms = put (codes "before") (state_data words first) ms

-- the members, with the states at which a condition fails
abbrev pub with_states : List Word → Judged → Members → Members
with_states words (Fails first second) ms = with_pair words first second ms
with_states words GaveUp ms = ms
with_states words TooLarge ms = ms
with_states words (Holds lines) ms = ms

-- the members, with a condition's name and number, and why it has no proof
abbrev pub unproved_members : List ℕ → Unproved → Members → Members
unproved_members name u ms =
    put (codes "why") (string (why_text u.judged)) (put (codes "number") (number (unsigned u.number)) (put (codes "name") (string name) (put (codes "kind") (string (codes "unproved")) ms)))

-- a condition of this name without a proof
abbrev pub unproved_data : List Word → List ℕ → Unproved → Data
unproved_data words name u = object (with_states words u.judged (unproved_members name u no_members))

-- conditions without a proof, of those with these names, a line each
abbrev pub unproved_lines : List Word → List (List ℕ) → List Unproved → List ℕ
unproved_lines words names = flat_map (λ u. json_line (unproved_data words (name_at names u.number) u))

-- conditions without a proof, of a program and the lines of its derivation
abbrev pub unproved_text : Format → ProgramTree → List LineTree → List Unproved → List ℕ
unproved_text Plain p lines unproved = failures_text p.words (names_of_conditions p lines) unproved
unproved_text Json p lines unproved = unproved_lines p.words (names_of_conditions p lines) unproved
