use Rattle.std.proofs.Common.{◌≡◌, ℕ, ◌⊎◌, inl, inr, List, ap, ◌∙◌}
use Rattle.std.proofs.lemmas.Result.{err_from_is_err_and}
use Rattle.rg_words.specs.Refusals.{no_memory, refused_at}
use Rattle.rg_words.specs.declared.refusal.Refusal.{Refusal}
use Rattle.rg_words.specs.declared.refusal.RefusalNumber.TheVariants.{BadByte}
use Rattle.rg_words.specs.declared.refusal.SourceFile.{SourceFile}
use Rattle.rg_text.specs.declared.token.Token.{Token}
use Rattle.rg_text.specs.Tokenization.{line_at, IsTokenized, IsBadByte}
use Rattle.rg_text.proofs.TokenLists.{tokens_one, bad_one, never_both, all_of_source, all_lines}
use Rattle.rg_text.proofs.tokens.Tokens.read.Goals as goal

-- why cutting stopped
abbrev Stopped : SourceFile → List ℕ → Refusal → Type 0
Stopped file source e = (e ≡ no_memory) ⊎ ((place : ℕ) × IsBadByte source place × (e ≡ refused_at BadByte file (line_at source place)))

-- what is tokenized has no bad byte
memory_alone : (file : SourceFile) (source : List ℕ) (ts : List Token) (e : Refusal) → IsTokenized source ts → Stopped file source e → e ≡ no_memory
memory_alone file source ts e is (inl h) = h
memory_alone file source ts e is (inr h) = absurd (never_both source ts h.0 is h.1)

-- there is one bad byte
this_place : (file : SourceFile) (source : List ℕ) (place : ℕ) (e : Refusal) → IsBadByte source place → Stopped file source e → (e ≡ no_memory) ⊎ (e ≡ refused_at BadByte file (line_at source place))
this_place file source place e bad (inl h) = inl h
this_place file source place e bad (inr h) =
    inr (h.2 ∙ ap (λ p. refused_at BadByte file (line_at source p)) (bad_one source h.0 place h.1 bad))

pub returns-in_err-tokens-clause-only_tokens : goal.returns-in_err-tokens-clause-only_tokens
returns-in_err-tokens-clause-only_tokens c = λ ts le is.
    let p = err_from_is_err_and c.from_residual.result c.from_residual.ensures.1 in
    rw (p.1, p.2) (memory_alone c.args.file c.args.source.now ts _ is c.in_err-tokens.ensures.refused)

pub returns-in_err-tokens-clause-only_bad_byte : goal.returns-in_err-tokens-clause-only_bad_byte
returns-in_err-tokens-clause-only_bad_byte c = λ place le bad.
    let p = err_from_is_err_and c.from_residual.result c.from_residual.ensures.1 in
    rw (p.1, p.2) (this_place c.args.file c.args.source.now place _ bad c.in_err-tokens.ensures.refused)

pub returns-clause-each : goal.returns-clause-each
returns-clause-each c = all_of_source c.args.source.now c.in_ok-tokens.tokens.items c.in_ok-tokens.ensures.tokens

pub returns-clause-lines : goal.returns-clause-lines
returns-clause-lines c =
    all_lines c.args.source.now c.in_ok-tokens.tokens.items c.in_ok-tokens.ensures.tokens _ c.if-source-gt-MOST_TEXT_BYTES.false

pub returns-clause-only_tokens : goal.returns-clause-only_tokens
returns-clause-only_tokens c = λ ts le is. tokens_one c.args.source.now _ ts c.in_ok-tokens.ensures.tokens is

pub returns-clause-only_bad_byte : goal.returns-clause-only_bad_byte
returns-clause-only_bad_byte c = λ place le bad. never_both c.args.source.now _ place c.in_ok-tokens.ensures.tokens bad
