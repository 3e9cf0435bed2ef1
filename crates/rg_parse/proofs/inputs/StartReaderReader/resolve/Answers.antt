use Rattle.std.proofs.Common.{◌≡◌, ℕ, List, map, IfErr, ◌⊎◌, subst}
use Rattle.rg_words.specs.Refusals.{no_memory}
use Rattle.rg_syntax.specs.declared.written.Setting.{Setting}
use Rattle.rg_syntax.specs.Written.{setting}
use Rattle.rg_resolve.specs.Settings.{StartStandsFor}
use Rattle.rg_parse.proofs.inputs.StartReaderReader.resolve.Goals as goal

pub returns-clause-refused : goal.returns-clause-refused
returns-clause-refused c =
    let Refused = λ (l : List Setting). IfErr c.resolve_start.result (λ e. (e ≡ no_memory) ⊎ ((s : List ℕ) → StartStandsFor c.args.self.now.layout.now (map (setting c.args.source.now) l) s → ⊥)) in
    subst Refused c.deref.ensures.value c.resolve_start.ensures.refused
