-- From the lines that bytes spell to those that derive a program's parts.
use Rattle.std.proofs.Common.{◌≡◌, ℕ, List, ◌⊎◌, inl, inr, subst, ⊎_elim}
use Rattle.rg_words.specs.Refusals.{no_memory}
use Rattle.rg_words.specs.declared.refusal.Refusal.{Refusal}
use Rattle.rg_tree.specs.Statements.{ProgramTree}
use Rattle.rg_tree.specs.Lines.{LineTree}
use Rattle.rg_parse.specs.Derivations.{SpellsDerivation}
use Rattle.rg_parse.proofs.DerivationMeanings.{one_spelled_derivation}
use Rattle.rg_rules.specs.Faults.{Derives, IsFirstFault}
use Rattle.rg_rules.specs.Reading.{FitsProgram, IsDerivationRefusal}
use Rattle.rg_rules.proofs.Demands.{no_fault}

module _ (program : ProgramTree) (source : List ℕ) (lines : List LineTree) (last : ℕ) (spelled : SpellsDerivation program.words source lines last) where
  pub lines_fit : Derives program.parts lines → FitsProgram program source lines
  lines_fit derives = record { last = last; spelled = spelled; derives = derives }

  pub lines_refused : (e : Refusal) → (e ≡ no_memory) ⊎ IsFirstFault program.parts lines last e → IsDerivationRefusal program source e
  lines_refused e r = ⊎_elim (λ m. inl (inl (inr (inr m)))) (λ f. inr (record { lines = lines; last = last; spelled = spelled; fault = f })) r

  pub lines_accepted : (e : Refusal) (ls : List LineTree) → FitsProgram program source ls → (e ≡ no_memory) ⊎ IsFirstFault program.parts lines last e → e ≡ no_memory
  lines_accepted e ls fits r =
      let same = (one_spelled_derivation program.words source ls lines fits.last last fits.spelled spelled).0 in
      ⊎_elim (λ m. m) (λ f. absurd (no_fault program.parts lines last e (subst (λ l. Derives program.parts l) same fits.derives) f)) r
