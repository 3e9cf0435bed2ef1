-- From the tokens of a text of a kind to what it stands for.
use Rattle.std.proofs.Common.{◌≡◌, ◌≢◌, ◌≤◌, length, refl, ℕ, List, [], map, ◌⊎◌, inl, inr, sym, subst, ap, ◌∙◌, ⊎_elim}
use Rattle.std.specs.List.{All}
use Rattle.rg_words.specs.declared.limits.TheConstants.{MOST_TEXT_BYTES}
use Rattle.rg_words.specs.Refusals.{no_memory}
use Rattle.rg_words.specs.declared.refusal.Refusal.{Refusal}
use Rattle.rg_words.specs.declared.refusal.SourceFile.{SourceFile}
use Rattle.rg_text.specs.declared.token.Token.{Token}
use Rattle.rg_text.specs.Tokenization.{IsTokenized, IsTokenOf}
use Rattle.rg_text.proofs.TokenLists.{tokens_one}
use Rattle.rg_syntax.specs.declared.text_kind.TextKind.{TextKind}
use Rattle.rg_syntax.specs.declared.text_kind.TextKind.TheVariants as texts
use Rattle.rg_syntax.specs.Grammar.{Spelling, spelled, lexeme_of}
use Rattle.rg_syntax.specs.Limits.{IsShallow, IsShort}
use Rattle.rg_resolve.specs.Faults.{Fault, IsFirst, IsRefusal}
use Rattle.rg_build.proofs.Builds.{one_start, one_moves}
use Rattle.rg_build.proofs.BuildsPrograms.{one_program}
use Rattle.rg_build.proofs.BuildsLines.{one_derivation}
use Rattle.rg_parse.specs.Parse.{IsShapeRefusal, last_line}
use Rattle.rg_parse.specs.Spelled.{Said, said, IsCounted, IsParseRefusal, IsWritten, Spells, SpellsUpTo, IsTextRefusal}
use Rattle.rg_parse.specs.Inner.Reading.{IsSaid}
use Rattle.rg_parse.proofs.Shown.{one_formula, one_show}

-- two ways to write a text of a kind that have the same tokens say the same
pub one_said : (k : TextKind) (a b : Spelling k) → spelled k a [] ≡ spelled k b [] → said k a ≡ said k b
one_said texts.Formula a b e = one_formula a b e
one_said texts.Show a b e = one_show a b e
one_said texts.Start a b e = one_start a b e
one_said texts.Moves a b e = one_moves a b e
one_said texts.Program a b e = one_program a b e
one_said texts.Derivation a b e = one_derivation a b e

-- so the same bytes do
pub written_alike : (k : TextKind) (source : List ℕ) (ts us : List Token) (a b : Spelling k) → IsWritten k source ts a → IsWritten k source us b → said k a ≡ said k b
written_alike k source ts us a b w v =
    one_said k a b (sym w.spelled ∙ ap (λ (l : List Token). map (lexeme_of source) l) (tokens_one source ts us w.read.tokenized v.read.tokenized) ∙ v.spelled)

-- what was parsed of the tokens that were read is what the bytes say
abbrev pub is_said : (k : TextKind) (source : List ℕ) {ts us : List Token} → ts ≡ us → length source ≤ MOST_TEXT_BYTES → IsTokenized source us → All (IsTokenOf source) us
    → (text : Said k) → ((s : Spelling k) × IsShallow k s × IsShort k s × IsCounted k s × (map (lexeme_of source) ts ≡ spelled k s []) × (text ≡ said k s)) → IsSaid k source text
is_said k source {ts = ts} same size tokenized each text parsed = record {
  tokens = ts;
  spelling = parsed.0;
  written = record {
    read = record { size = size; tokenized = subst (IsTokenized source) (sym same) tokenized };
    shallow = parsed.1;
    short = parsed.2;
    counted = parsed.3;
    spelled = parsed.4;
  };
  each = subst (λ (l : List Token). All (IsTokenOf source) l) (sym same) each;
  says = parsed.5;
}

module _ (k : TextKind) (source : List ℕ) (text : Said k) (is : IsSaid k source text) where
  pub text_spells : {V : Type 0} (Stands : Said k → V → Type 0) (v : V) → Stands text v → (last : ℕ) → last ≡ last_line is.tokens → SpellsUpTo k Stands source v last
  text_spells Stands v stands last ends = record {
    spells = record {
      tokens = is.tokens;
      spelling = is.spelling;
      written = is.written;
      stands = subst (λ t. Stands t v) is.says stands;
    };
    ends = ends;
  }

  pub text_refused : (faults : Said k → List Fault) (file : SourceFile) (e : Refusal) → IsRefusal file (faults text) e → IsTextRefusal k faults file source e
  text_refused faults file e r =
      ⊎_elim (λ m. inl (inr (inr m))) (λ f. inr (inr (is.tokens, is.spelling, is.written, subst (λ t. IsFirst file (faults t) e) is.says f))) r.cause

  -- what is spelled so is refused for want of memory alone
  pub text_accepted : {V : Type 0} (Stands : Said k → V → Type 0) (e : Refusal) (v : V) → Spells k Stands source v → (e ≡ no_memory) ⊎ ((u : V) → Stands text u → ⊥) → e ≡ no_memory
  text_accepted Stands e v sp r =
      let alike = written_alike k source is.tokens sp.tokens is.spelling sp.spelling is.written sp.written in
      ⊎_elim (λ m. m) (λ no. absurd (no v (subst (λ t. Stands t v) (sym alike ∙ sym is.says) sp.stands))) r

-- the same bytes spell one thing
pub one_spelled : {V : Type 0} (k : TextKind) (Stands : Said k → V → Type 0) → ((t : Said k) (u v : V) → Stands t u → Stands t v → u ≡ v)
    → (source : List ℕ) (u v : V) → Spells k Stands source u → Spells k Stands source v → u ≡ v
one_spelled k Stands one_stands source u v a b =
    let alike = written_alike k source a.tokens b.tokens a.spelling b.spelling a.written b.written in
    one_stands (said k b.spelling) u v (subst (λ t. Stands t u) alike a.stands) b.stands

-- of a text that is no program nothing is counted, and its refusal is that of its shape
pub plain_counted : (k : TextKind) → k ≢ texts.Program → (s : Spelling k) → IsCounted k s
plain_counted texts.Formula plain s = tt
plain_counted texts.Show plain s = tt
plain_counted texts.Start plain s = tt
plain_counted texts.Moves plain s = tt
plain_counted texts.Program plain s = absurd (plain refl)
plain_counted texts.Derivation plain s = tt

shape_refusal : (k : TextKind) → k ≢ texts.Program → (file : SourceFile) (source : List ℕ) (ts : List Token) (e : Refusal) → IsShapeRefusal k file source ts e → IsParseRefusal k file source ts e
shape_refusal texts.Formula plain file source ts e r = r
shape_refusal texts.Show plain file source ts e r = r
shape_refusal texts.Start plain file source ts e r = r
shape_refusal texts.Moves plain file source ts e r = r
shape_refusal texts.Program plain file source ts e r = absurd (plain refl)
shape_refusal texts.Derivation plain file source ts e r = r

pub plain_refusal : (k : TextKind) → k ≢ texts.Program → (asked : TextKind) → asked ≡ k → (file : SourceFile) (source : List ℕ) (ts : List Token) (e : Refusal) → IsShapeRefusal asked file source ts e → IsParseRefusal k file source ts e
plain_refusal k plain asked same file source ts e r = shape_refusal k plain file source ts e (subst (λ j. IsShapeRefusal j file source ts e) same r)
