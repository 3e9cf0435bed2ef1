-- The same bytes over the same words spell one list of lines, which ends on one line.
use Rattle.std.proofs.Common.{sym, ap, ◌∙◌}
use Rattle.rg_text.proofs.TokenLists.{tokens_one}
use Rattle.rg_syntax.specs.declared.text_kind.TextKind.TheVariants as texts
use Rattle.rg_resolve.specs.Derivations.{DerivationStandsFor}
use Rattle.rg_resolve.proofs.Lines.{one_list_of_lines}
use Rattle.rg_parse.specs.Parse.{last_line}
use Rattle.rg_parse.specs.Derivations.{OneSpelledDerivation}
use Rattle.rg_parse.proofs.Spelled.{one_spelled}

pub one_spelled_derivation : OneSpelledDerivation
one_spelled_derivation words source ls ls' last last' h g =
    let same = tokens_one source h.spells.tokens g.spells.tokens h.spells.written.read.tokenized g.spells.written.read.tokenized in
    (one_spelled texts.Derivation (DerivationStandsFor words) (one_list_of_lines words) source ls ls' h.spells g.spells, h.ends ∙ ap last_line same ∙ sym g.ends)
