-- Bytes without faults spell a text that stands for something, and what stands for something has no fault.
use Rattle.std.proofs.Common.{◌≡◌, ◌≤◌, ℕ, false, List, [], map, length, sym, subst}
use Rattle.std.specs.Prelude.{◌↔◌}
use Rattle.rg_words.specs.declared.limits.TheConstants.{MOST_WORDS}
use Rattle.rg_words.specs.Layout.{Word, IsLayout}
use Rattle.rg_tree.specs.Trees.{Proposition}
use Rattle.rg_text.specs.declared.token.Token.{Token}
use Rattle.rg_text.proofs.TokenLists.{all_of_source}
use Rattle.rg_syntax.specs.declared.text_kind.TextKind.{TextKind}
use Rattle.rg_syntax.specs.declared.text_kind.TextKind.TheVariants as texts
use Rattle.rg_syntax.specs.Grammar.{WordsSpelling, ShowSpelling, ProgramSpelling, Spelling, specification, parts, lexeme_of}
use Rattle.rg_syntax.specs.Limits.{word_count}
use Rattle.rg_syntax.specs.Texts.{declared_words, claim_of, shown_claim, program_of}
use Rattle.rg_resolve.specs.Faults.{Fault}
use Rattle.rg_resolve.specs.Typing.{ClaimStandsFor}
use Rattle.rg_resolve.specs.Words.{words_of}
use Rattle.rg_resolve.specs.Faultless.{AreDeclarable}
use Rattle.rg_resolve.proofs.Stands.{faultless_stand}
use Rattle.rg_resolve.proofs.Lines.{faultless_derivation}
use Rattle.rg_resolve.proofs.Set.{faultless_start, faultless_moves}
use Rattle.rg_resolve.proofs.Faultless.{faultless_shown, faultless_program}
use Rattle.rg_parse.specs.Spelled.{Said, said, IsWritten}
use Rattle.rg_parse.specs.Shown.{ShownStandsFor, faults_shown}
use Rattle.rg_parse.specs.Faultless.{FaultlessSpells, FaultlessShow, FaultlessPrograms, FaultlessFormulas, FaultlessDerivations, FaultlessStarts, FaultlessMoves}
use Rattle.rg_parse.proofs.Shown.{NamesOk, names_ok, words_ok, length-declared}
use Rattle.rg_parse.proofs.ProgramLimits.{within_limits}

-- what is so of the text that the bytes are is so of the bytes
by_text : {V : Type 0} (k : TextKind) (faults : Said k → List Fault) (Stands : Said k → V → Type 0)
    → ((source : List ℕ) (tokens : List Token) (s : Spelling k) → IsWritten k source tokens s → (faults (said k s) ≡ []) ↔ ((v : V) × Stands (said k s) v))
    → FaultlessSpells k faults Stands
by_text k faults Stands law source = (
  λ h. let stands = (law source h.tokens h.spelling h.written).0 h.none in
      (stands.0, record { tokens = h.tokens; spelling = h.spelling; written = h.written; stands = stands.1 }),
  λ s. record { tokens = s.1.tokens; spelling = s.1.spelling; written = s.1.written; none = (law source s.1.tokens s.1.spelling s.1.written).1 (s.0, s.1.stands) },
)

-- the names of the tokens are names
written_names : (k : TextKind) (source : List ℕ) (tokens : List Token) (s : Spelling k) (w : IsWritten k source tokens s) → NamesOk (map (lexeme_of source) tokens)
written_names k source tokens s w = names_ok source tokens (all_of_source source tokens w.read.tokenized)

counted : (ws : WordsSpelling) → word_count ws ≤ MOST_WORDS → length (declared_words ws) ≤ MOST_WORDS
counted ws most = subst (λ n. n ≤ MOST_WORDS) (sym (length-declared ws)) most

shown_declarable : (source : List ℕ) (tokens : List Token) (s : ShowSpelling) → IsWritten texts.Show source tokens s → AreDeclarable (declared_words s.words)
shown_declarable source tokens s w = record {
  count = counted s.words w.short;
  names = (words_ok s.words _ (subst NamesOk w.spelled (written_names texts.Show source tokens s w))).0;
}

program_declarable : (source : List ℕ) (tokens : List Token) (p : ProgramSpelling) → IsWritten texts.Program source tokens p → AreDeclarable (declared_words p.words)
program_declarable source tokens p w = record {
  count = counted p.words w.short.0;
  names = (words_ok p.words (specification p.spec (parts p.parts [])) (subst NamesOk w.spelled (written_names texts.Program source tokens p w))).0;
}

shown_law : (source : List ℕ) (tokens : List Token) (s : ShowSpelling) → IsWritten texts.Show source tokens s → (faults_shown (shown_claim s) ≡ []) ↔ ((v : List Word × Proposition) × ShownStandsFor (shown_claim s) v)
shown_law source tokens s w =
    let law = faultless_shown (declared_words s.words) (claim_of s.formula) (shown_declarable source tokens s w) in (
      λ h. let stands = law.0 h in
          ((words_of (declared_words s.words), stands.1.0), record { words_are = λ i. words_of (declared_words s.words); layout = stands.0; stands = stands.1.1 }),
      λ v. law.1 (subst IsLayout v.1.words_are v.1.layout, (v.0.1, subst (λ l. ClaimStandsFor l false (claim_of s.formula) v.0.1) v.1.words_are v.1.stands)),
    )

pub show_faultless : FaultlessShow
show_faultless = by_text texts.Show faults_shown ShownStandsFor shown_law

pub programs_faultless : FaultlessPrograms
programs_faultless = by_text texts.Program _ _ (λ source tokens p w. faultless_program (program_of p) (program_declarable source tokens p w) (within_limits p w.short.1 w.counted))

pub formulas_faultless : FaultlessFormulas
formulas_faultless words = by_text texts.Formula _ _ (λ source tokens f w. faultless_stand words false (claim_of f))

pub derivations_faultless : FaultlessDerivations
derivations_faultless words = by_text texts.Derivation _ _ (λ source tokens d w. faultless_derivation words (said texts.Derivation d))

pub starts_faultless : FaultlessStarts
starts_faultless words = by_text texts.Start _ _ (λ source tokens s w. faultless_start words (said texts.Start s))

pub moves_faultless : FaultlessMoves
moves_faultless words = by_text texts.Moves _ _ (λ source tokens s w. faultless_moves words (said texts.Moves s))
