-- The faults of a specification and of a part, from those of what they have in them.
use Rattle.std.proofs.Common.{◌≡◌, ℕ, Bool, true, false, List, [], sym, ap, ◌∙◌}
use Rattle.std.specs.Prelude.{IsTrue, not}
use Rattle.rg_words.specs.declared.refusal.Refusal.{Refusal}
use Rattle.rg_words.specs.declared.refusal.SourceFile.{SourceFile}
use Rattle.rg_words.specs.declared.refusal.RefusalNumber.TheVariants.{NameTwice}
use Rattle.rg_words.specs.Refusals.{refused_at}
use Rattle.rg_words.specs.Layout.{Word}
use Rattle.rg_tree.specs.Trees.{Proposition}
use Rattle.rg_syntax.specs.Written.{SpecTree, WrittenPart}
use Rattle.rg_resolve.specs.Faults.{unless, claim_faults, IsRefusal}
use Rattle.rg_resolve.specs.Inner.FormulaTrees.{IsClaimTree}
use Rattle.rg_resolve.specs.Programs.{spec_faults, has_part, part_faults, block_faults}
use Rattle.rg_leaves.proofs.Refusals.{of_first, of_rest, of_test, no_faults, no_test}

-- the four formulas, of which two are read in one state and two in two
module _ (words : List Word) (s : SpecTree) (one two : Bool) (one_is : IsTrue one) (two_is : two ≡ false) where
  pub pre_refused : (file : SourceFile) (refusal : Refusal) → IsRefusal file (claim_faults words one s.pre) refusal → IsRefusal file (spec_faults words s) refusal
  unfolding spec_faults
  pre_refused file refusal r = of_first file _ _ refusal (rw one_is at r)

  module _ (p : Proposition) (pre : IsClaimTree words one s.pre p) where
    pre_none : claim_faults words true s.pre ≡ []
    pre_none = rw one_is at pre.faultless

    pub rely_refused : (file : SourceFile) (refusal : Refusal) → IsRefusal file (claim_faults words two s.rely) refusal → IsRefusal file (spec_faults words s) refusal
    unfolding spec_faults
    rely_refused file refusal r = of_rest file _ _ refusal pre_none (of_first file _ _ refusal (rw two_is at r))

    module _ (q : Proposition) (rely : IsClaimTree words two s.rely q) where
      rely_none : claim_faults words false s.rely ≡ []
      rely_none = rw two_is at rely.faultless

      pub guar_refused : (file : SourceFile) (refusal : Refusal) → IsRefusal file (claim_faults words two s.guar) refusal → IsRefusal file (spec_faults words s) refusal
      unfolding spec_faults
      guar_refused file refusal r = of_rest file _ _ refusal pre_none (of_rest file _ _ refusal rely_none (of_first file _ _ refusal (rw two_is at r)))

      module _ (g : Proposition) (guar : IsClaimTree words two s.guar g) where
        guar_none : claim_faults words false s.guar ≡ []
        guar_none = rw two_is at guar.faultless

        pub post_refused : (file : SourceFile) (refusal : Refusal) → IsRefusal file (claim_faults words one s.post) refusal → IsRefusal file (spec_faults words s) refusal
        unfolding spec_faults
        post_refused file refusal r = of_rest file _ _ refusal pre_none (of_rest file _ _ refusal rely_none (of_rest file _ _ refusal guar_none (rw one_is at r)))

        pub spec_faultless : (o : Proposition) → IsClaimTree words one s.post o → spec_faults words s ≡ []
        unfolding spec_faults
        spec_faultless o post = no_faults _ _ pre_none (no_faults _ _ rely_none (no_faults _ _ guar_none (rw one_is at post.faultless)))

-- a part after others, of whose name it is known whether one of them has it
module _ (words : List Word) (before : List WrittenPart) (p : WrittenPart) (found : Bool) (name : List ℕ) (named : name ≡ p.name.text) (tested : found ≡ has_part before name) where
  twice : found ≡ has_part before p.name.text
  twice = tested ∙ ap (λ n. has_part before n) named

  pub name_refused : (file : SourceFile) (refusal : Refusal) → found ≡ true → refusal ≡ refused_at NameTwice file p.name.line → IsRefusal file (part_faults words before p) refusal
  unfolding part_faults
  name_refused file refusal there e = of_first file _ _ refusal (of_test file _ NameTwice p.name.line refusal (ap not (sym twice ∙ there)) e)

  module _ (new : found ≡ false) where
    new_name : unless (not (has_part before p.name.text)) NameTwice p.name.line ≡ []
    new_name = no_test _ NameTwice p.name.line (ap not (sym twice ∙ new))

    pub spec_refused : (file : SourceFile) (refusal : Refusal) → IsRefusal file (spec_faults words p.spec) refusal → IsRefusal file (part_faults words before p) refusal
    unfolding part_faults
    spec_refused file refusal r = of_rest file _ _ refusal new_name (of_first file _ _ refusal r)

    module _ (none : spec_faults words p.spec ≡ []) where
      pub body_refused : (file : SourceFile) (refusal : Refusal) → IsRefusal file (block_faults words p.body) refusal → IsRefusal file (part_faults words before p) refusal
      unfolding part_faults
      body_refused file refusal r = of_rest file _ _ refusal new_name (of_rest file _ _ refusal none r)

      pub part_faultless : block_faults words p.body ≡ [] → part_faults words before p ≡ []
      unfolding part_faults
      part_faultless more = no_faults _ _ new_name (no_faults _ _ none more)
