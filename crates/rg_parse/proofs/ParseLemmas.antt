-- The first fault of a program's shape, and the statements before it.
use Rattle.std.proofs.Common.{◌≡◌, ◌≢◌, ℕ, ◌<◌, ◌≤◌, List, [], map, length, get_or, slice_get, take, ◌+◌, subst, Result, Ok, Err, Option, Some, None, ◌⊎◌, inl, inr, refl, sym, ap, ◌∙◌, arith}
use Rattle.std.proofs.lemmas.List.{take-map, take_all, append-nil}
use Rattle.std.proofs.lemmas.Option.{slice_get_within, slice_get_cases}
use Rattle.rg_words.specs.declared.limits.TheConstants.{MOST_STATEMENTS}
use Rattle.rg_words.specs.declared.refusal.RefusalNumber.TheVariants as numbers
use Rattle.rg_words.specs.declared.refusal.SourceFile.{SourceFile}
use Rattle.rg_words.specs.Refusals.{refused_at}
use Rattle.rg_text.specs.declared.token.Token.{Token}
use Rattle.rg_text.specs.declared.kind.Terminal.TheVariants.{Semicolon}
use Rattle.rg_syntax.specs.Grammar.{Lexeme, fixed, name, ProgramSpelling, program, lexeme_of, BeginsText}
use Rattle.rg_syntax.specs.Limits.{BeginsWithin}
use Rattle.rg_parse.specs.Parse.{refusal_of}
use Rattle.rg_syntax.specs.ProgramLimits.{count_in_parts}
use Rattle.rg_shape.specs.Shape.{ShapeIs}
use Rattle.rg_syntax.specs.declared.text_kind.TextKind.TheVariants as texts
use Rattle.rg_shape.specs.declared.shape.ShapeFault.{ShapeFault}
use Rattle.rg_shape.specs.declared.shape.ShapeFault.TheVariants.{Memory, Unexpected, TooDeep, TooMany, Unfinished}
use Rattle.rg_syntax.specs.Texts.{program_of}
use Rattle.rg_syntax.specs.Begun.{AreBegun, program_begun}
use Rattle.rg_parse.specs.ParseProgram.{IsProgramShapeRefusal, reported_fault, reported_at, met_before, met_tokens}
use Rattle.rg_build.proofs.Beginnings.{all_begun}

met_map : {A B : Type 0} (f : A → B) (xs : List A) (fault : ShapeFault) → map f (met_before xs fault) ≡ met_before (map f xs) fault
met_map f xs (Unexpected i) = sym (take-map f i xs)
met_map f xs (TooDeep i) = sym (take-map f i xs)
met_map f xs (TooMany i) = sym (take-map f i xs)
met_map f xs Unfinished = refl
met_map f xs Memory = refl

same_fault : (fault : ShapeFault) (a b : Result (Unit {0}) ShapeFault) → a ≡ Err fault → b ≡ Err Memory → a ≡ b → fault ≡ Memory
same_fault fault a b p q e = cc

not_fault : (u : Unit {0}) (a b : Result (Unit {0}) ShapeFault) → a ≡ Ok u → b ≡ Err Memory → a ≡ b → ⊥
not_fault u a b p q e = cc

differ : {A : Type 0} {x : A} → None ≡ Some x → ⊥
differ q = cc

none_past : {A : Type 0} (P : A → Type 0) (xs : List A) (n : ℕ) → (((x : A) × (n < length xs) × (slice_get xs n ≡ Some x) × P x) ⊎ ((length xs ≤ n) × (slice_get xs n ≡ None))) → None ≡ slice_get xs n → length xs ≤ n
none_past P xs n (inl h) e = absurd (differ (e ∙ h.2))
none_past P xs n (inr h) e = h.0

none_within : {A : Type 0} (xs : List A) (n : ℕ) → None ≡ slice_get xs n → length xs ≤ n
none_within xs n e = none_past (λ x. get_or xs n x ≡ x) xs n (slice_get_cases xs n).1 e

-- what tokens begin that begin a program
abbrev begun_by : (tokens : List Lexeme) → BeginsText texts.Program tokens → List ℕ
begun_by tokens b = program_begun b.0 (length tokens)

are_begun : (tokens : List Lexeme) (b : BeginsText texts.Program tokens) → AreBegun tokens (begun_by tokens b)
are_begun tokens b = record { spelling = b.0; rest = b.1; goes_on = b.2; are = refl }

-- whatever the statements are that tokens begin, this is the line of the one too many of them, where there is one
abbrev pub IsTooMany : List Lexeme → Option ℕ → Type 0
IsTooMany tokens line = (ls : List ℕ) → AreBegun tokens ls → line ≡ slice_get ls MOST_STATEMENTS

abbrev whole_begins : (tokens : List Lexeme) (p : ProgramSpelling) → tokens ≡ program p [] → BeginsText texts.Program tokens
whole_begins tokens p e = (p, [], sym e ∙ sym (append-nil tokens))

begins_of : (tokens : List Lexeme) → BeginsWithin texts.Program tokens → BeginsText texts.Program tokens
begins_of tokens b = (b.0, b.1, b.4)

-- the tokens before the fault that is reported begin a program
begins_reported : (tokens : List Lexeme) (i : ℕ) (o next : Option Lexeme) → next ≡ slice_get tokens (i + 1) → BeginsText texts.Program (take i tokens) → BeginsText texts.Program (take (i + 1) tokens) → BeginsText texts.Program (met_before tokens (reported_at i o next))
begins_reported tokens i (Some (fixed Semicolon)) None e b c = subst (BeginsText texts.Program) (take_all (i + 1) tokens (none_within tokens (i + 1) e)) c
begins_reported tokens i (Some (fixed Semicolon)) (Some (name x)) e b c = c
begins_reported tokens i (Some (fixed Semicolon)) (Some l) e b c = c
begins_reported tokens i o next e b c = b

begins_met : (tokens : List Lexeme) (fault : ShapeFault) → fault ≢ Memory → ShapeIs texts.Program tokens (Err fault) → BeginsText texts.Program (met_before tokens (reported_fault tokens fault))
begins_met tokens (Unexpected i) known shape = begins_of (take i tokens) shape.1
begins_met tokens (TooDeep i) known shape = begins_of (take i tokens) shape.1
begins_met tokens (TooMany i) known shape =
    begins_reported tokens i (slice_get tokens i) (slice_get tokens (i + 1)) refl (begins_of (take i tokens) shape.1) (shape.2.0, shape.2.1, shape.2.3)
begins_met tokens Unfinished known shape = begins_of tokens shape.0
begins_met tokens Memory known shape = absurd (known refl)

-- a fault of these tokens, the one that is reported, and the tokens before that
module _ (file : SourceFile) (src : List ℕ) (tokens met : List Token) (fault reported : ShapeFault) (known : fault ≢ Memory) (shape : ShapeIs texts.Program (map (lexeme_of src) tokens) (Err fault)) (tells : reported ≡ reported_fault (map (lexeme_of src) tokens) fault) (meets : met ≡ met_before tokens reported) where
  met_is : map (lexeme_of src) met ≡ met_tokens (map (lexeme_of src) tokens) (Err fault)
  met_is = ap (map (lexeme_of src)) meets ∙ met_map (lexeme_of src) tokens reported ∙ ap (met_before (map (lexeme_of src) tokens)) tells

  met_begins : BeginsText texts.Program (met_tokens (map (lexeme_of src) tokens) (Err fault))
  met_begins = begins_met (map (lexeme_of src) tokens) fault known shape

  abbrev met_lines : List ℕ
  met_lines = begun_by (met_tokens (map (lexeme_of src) tokens) (Err fault)) met_begins

  met_begun : AreBegun (met_tokens (map (lexeme_of src) tokens) (Err fault)) met_lines
  met_begun = are_begun (met_tokens (map (lexeme_of src) tokens) (Err fault)) met_begins

  met_line : (line : Option ℕ) → IsTooMany (map (lexeme_of src) met) line → line ≡ slice_get met_lines MOST_STATEMENTS
  met_line line h = h met_lines (subst (λ ts. AreBegun ts met_lines) (sym met_is) met_begun)

  pub statement_first : (line : ℕ) → IsTooMany (map (lexeme_of src) met) (Some line) → IsProgramShapeRefusal file src tokens (refused_at numbers.Limit file line)
  statement_first line h = inr (inr (record {
    answer = Err fault;
    known = λ e. known (same_fault fault (Err fault) (Err Memory) refl refl e);
    shape = shape;
    lines = met_lines;
    begun = met_begun;
    line = line;
    beyond = sym (met_line (Some line) h);
    is = refl;
  }))

  pub fault_first : IsTooMany (map (lexeme_of src) met) None → IsProgramShapeRefusal file src tokens (refusal_of file tokens reported)
  fault_first h = inr (inl (record {
    fault = fault;
    known = known;
    shape = shape;
    lines = met_lines;
    begun = met_begun;
    within = none_within met_lines MOST_STATEMENTS (met_line None h);
    is = ap (refusal_of file tokens) tells;
  }))

-- a statement too many of a program that is whole
pub statement_only : (file : SourceFile) (src : List ℕ) (tokens : List Token) (u : Unit {0}) → ShapeIs texts.Program (map (lexeme_of src) tokens) (Ok u) → (line : ℕ) → IsTooMany (map (lexeme_of src) tokens) (Some line) → IsProgramShapeRefusal file src tokens (refused_at numbers.Limit file line)
statement_only file src tokens u shape line h =
    let begins = whole_begins (map (lexeme_of src) tokens) shape.0 shape.3 in
    inr (inr (record {
      answer = Ok u;
      known = λ q. not_fault u (Ok u) (Err Memory) refl refl q;
      shape = shape;
      lines = begun_by (map (lexeme_of src) tokens) begins;
      begun = are_begun (map (lexeme_of src) tokens) begins;
      line = line;
      beyond = sym (h (begun_by (map (lexeme_of src) tokens) begins) (are_begun (map (lexeme_of src) tokens) begins));
      is = refl;
    }))

-- a program begins as many statements as it has
whole_lines : (tokens : List Lexeme) (p : ProgramSpelling) → tokens ≡ program p [] → length (program_begun p (length tokens)) ≡ count_in_parts (program_of p).parts
whole_lines tokens p e = ap (λ ts. length (program_begun p (length ts))) e ∙ all_begun p

pub within_most : (tokens : List Lexeme) (p : ProgramSpelling) → tokens ≡ program p [] → IsTooMany tokens None → count_in_parts (program_of p).parts ≤ MOST_STATEMENTS
within_most tokens p e h =
    let within = none_within (program_begun p (length tokens)) MOST_STATEMENTS (h (program_begun p (length tokens)) (are_begun tokens (whole_begins tokens p e))) in
    let count = whole_lines tokens p e in
    omega (arith, within, count)

pub no_line : (tokens : List Lexeme) (p : ProgramSpelling) → tokens ≡ program p [] → count_in_parts (program_of p).parts ≤ MOST_STATEMENTS → (line : ℕ) → IsTooMany tokens (Some line) → ⊥
no_line tokens p e most line h =
    let inside = slice_get_within (program_begun p (length tokens)) MOST_STATEMENTS line (sym (h (program_begun p (length tokens)) (are_begun tokens (whole_begins tokens p e)))) in
    let count = whole_lines tokens p e in
    omega (arith, inside, count, most)
