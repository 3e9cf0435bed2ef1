-- A whole program, from its declared words, its specification and its parts.
use Rattle.std.proofs.Common.{◌≡◌, List, [], map, refl, subst}
use Rattle.rg_words.specs.declared.refusal.Refusal.{Refusal}
use Rattle.rg_words.specs.declared.refusal.SourceFile.{SourceFile}
use Rattle.rg_words.specs.Layout.{Word, IsLayout}
use Rattle.rg_tree.specs.Statements as tree
use Rattle.rg_tree.specs.TypedPrograms.{IsTypedProgram}
use Rattle.rg_syntax.specs.Written.{WrittenProgram}
use Rattle.rg_resolve.specs.Faults.{IsRefusal}
use Rattle.rg_resolve.specs.Words.{words_of, declaration_faults}
use Rattle.rg_resolve.specs.Programs.{spec_faults, parts_faults, program_faults}
use Rattle.rg_resolve.specs.Inner.ProgramTrees.{spec_tree, part_tree}
use Rattle.rg_resolve.specs.ProgramTyping.{ProgramStandsFor}
use Rattle.rg_syntax.specs.ProgramLimits.{IsWithinLimits}
use Rattle.rg_leaves.proofs.Refusals.{of_first, of_rest}
use Rattle.rg_resolve.proofs.ResolvedTyping.{program_typed}
use Rattle.rg_resolve.proofs.ResolvedStands.{program_stands}
use Rattle.rg_resolve.proofs.WholeTrees.{program_tree}

abbrev pub a_program : List Word → tree.Specification → List tree.PartTree → tree.ProgramTree
a_program words spec parts = record { words = words; spec = spec; parts = parts }

module _ (p : WrittenProgram) where
  module _ (words : List Word) (same : words ≡ words_of p.words) (declared : declaration_faults p.words ≡ []) where
    pub whole_spec_refused : (file : SourceFile) (refusal : Refusal) → IsRefusal file (spec_faults words p.spec) refusal → IsRefusal file (program_faults p) refusal
    whole_spec_refused file refusal r = of_rest file _ _ refusal declared (of_first file _ _ refusal (subst (λ ws. IsRefusal file (spec_faults ws p.spec) refusal) same r))

    module _ (spec_fine : spec_faults words p.spec ≡ []) where
      spec_none : spec_faults (words_of p.words) p.spec ≡ []
      spec_none = subst (λ ws. spec_faults ws p.spec ≡ []) same spec_fine

      pub parts_refused : (file : SourceFile) (refusal : Refusal) → IsRefusal file (parts_faults words p.parts) refusal → IsRefusal file (program_faults p) refusal
      parts_refused file refusal r = of_rest file _ _ refusal declared (of_rest file _ _ refusal spec_none (subst (λ ws. IsRefusal file (parts_faults ws p.parts) refusal) same r))

      module _ (parts_fine : parts_faults words p.parts ≡ []) where
        parts_none : parts_faults (words_of p.words) p.parts ≡ []
        parts_none = subst (λ ws. parts_faults ws p.parts ≡ []) same parts_fine

        module _ (spec : tree.Specification) (parts : List tree.PartTree) (spec_is : spec ≡ spec_tree words p.spec) (parts_are : parts ≡ map (part_tree words) p.parts) (layout : IsLayout words) (within : IsWithinLimits p) where
          tree_is : program_tree p ≡ a_program words spec parts
          tree_is = rw (spec_is, parts_are, same) refl

          pub whole_typed : IsTypedProgram (a_program words spec parts)
          whole_typed = subst IsTypedProgram tree_is (program_typed p within (subst IsLayout same layout) spec_none parts_none)

          pub whole_stands : ProgramStandsFor p (a_program words spec parts)
          whole_stands = subst (λ t. ProgramStandsFor p t) tree_is (program_stands p within (subst IsLayout same layout) spec_none parts_none)
