-- From the tokens of a program to what it stands for.
use Rattle.std.proofs.Common.{◌≡◌, ◌≤◌, ℕ, List, [], map, length, sym, subst, ap, ◌∙◌}
use Rattle.std.specs.List.{All}
use Rattle.std.proofs.lemmas.List.{length-map}
use Rattle.rg_words.specs.Names.{IsName}
use Rattle.rg_words.specs.declared.limits.TheConstants.{MOST_WORDS, MOST_STATEMENTS}
use Rattle.rg_text.specs.declared.token.Token.{Token}
use Rattle.rg_text.specs.Text.{text_of}
use Rattle.rg_text.specs.Tokenization.{IsTokenOf}
use Rattle.rg_syntax.specs.declared.written.ProgramText.{ProgramText}
use Rattle.rg_syntax.specs.declared.text_kind.TextKind.TheVariants as texts
use Rattle.rg_syntax.specs.Grammar.{ProgramSpelling, specification, parts, program, lexeme_of}
use Rattle.rg_syntax.specs.Limits.{IsShort}
use Rattle.rg_syntax.specs.Written as written
use Rattle.rg_syntax.specs.Written.{declared_word, program_text}
use Rattle.rg_syntax.specs.ProgramLimits.{count_in_parts, IsWithinLimits}
use Rattle.rg_resolve.specs.ProgramTyping.{ProgramStandsFor}
use Rattle.rg_resolve.proofs.ResolvedStands.{one_program_tree}
use Rattle.rg_parse.proofs.Shown.{NamesOk, names_ok, words_ok, tokens_named, length-declared}
use Rattle.rg_syntax.specs.Texts.{program_of}
use Rattle.rg_parse.specs.Programs.{OneSpelledProgram}
use Rattle.rg_parse.proofs.Spelled.{one_spelled}
use Rattle.rg_parse.proofs.ProgramLimits.{specification_ok, parts_ok, parts_named, within_limits}

-- the tokens of a program say this tree
module _ (source : List ℕ) (ts : List Token) (p : ProgramSpelling) (spelled : map (lexeme_of source) ts ≡ program p []) (text : ProgramText) (says : program_text source text ≡ program_of p) where
  module _ (each : All (IsTokenOf source) ts) where
    all_ok : NamesOk (program p [])
    all_ok = subst NamesOk spelled (names_ok source ts each)

    pub words_named : All (λ d. IsName (text_of source d.name)) text.words.items
    words_named =
        tokens_named source text.words.items (subst (λ ws. All (λ (w : written.DeclaredWord). IsName w.name.text) ws) (sym (ap (λ t. t.words) says)) (words_ok p.words (specification p.spec (parts p.parts [])) all_ok).0)

    pub each_part_named : All (λ q. IsName (text_of source q.name)) text.parts.items
    each_part_named =
        parts_named source text.parts.items (subst (λ ps. All (λ (q : written.WrittenPart). IsName q.name.text) ps) (sym (ap (λ t. t.parts) says))
        (parts_ok p.parts [] (specification_ok p.spec (parts p.parts []) (words_ok p.words (specification p.spec (parts p.parts [])) all_ok).1)).0)

  pub words_count : IsShort texts.Program p → length text.words.items ≤ MOST_WORDS
  words_count short =
      let size = sym (length-map text.words.items (declared_word source)) ∙ ap (λ t. length t.words) says ∙ length-declared p.words in
      subst (λ n. n ≤ MOST_WORDS) (sym size) short.0

  pub limits_kept : count_in_parts (program_of p).parts ≤ MOST_STATEMENTS → IsShort texts.Program p → IsWithinLimits (program_text source text)
  limits_kept statements short = subst IsWithinLimits (sym says) (within_limits p short.1 statements)

-- the same bytes spell one program
pub one_spelled_program : OneSpelledProgram
one_spelled_program source t u a b = one_spelled texts.Program ProgramStandsFor one_program_tree source t u a b
