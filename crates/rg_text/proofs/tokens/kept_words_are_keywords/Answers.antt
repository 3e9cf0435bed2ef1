use Rattle.std.proofs.Common.{◌≡◌, ◌↔◌, Bool, true, false, not, Option, Some, None, refl}
use Rattle.std.specs.Prelude.{is_none, IsSome}
use Rattle.rg_words.specs.Names.{is_keyword}
use Rattle.rg_text.specs.declared.kind.Terminal.{Terminal}
use Rattle.rg_text.specs.Spelling.{keyword_of}
use Rattle.rg_text.proofs.KeywordTables.{no_keyword}
use Rattle.rg_text.proofs.tokens.kept_words_are_keywords.Goals as goal

same : (v : Bool) (o : Option Terminal) → is_none o ≡ not v → (v ≡ true) ↔ IsSome o
same true (Some t) h = (λ _. refl, λ _. refl)
same true None h = absurd (cc)
same false (Some t) h = absurd (cc)
same false None h = (λ e. cc, λ e. cc)

pub returns : goal.returns
returns c = λ text. same (is_keyword text) (keyword_of text) (no_keyword text)
