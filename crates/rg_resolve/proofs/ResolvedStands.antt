-- Statements, specifications and parts stand for trees exactly where they have no faults, and then for one.
use Rattle.std.proofs.Common.{◌≡◌, ◌≢◌, ℕ, Bool, true, false, ◌||◌, List, [], ◌∷◌, ◌++◌, map, refl, sym, ap, subst, ◌∙◌, arith, inl, inr}
use Rattle.std.specs.Prelude.{All, ◌⊎◌, not}
use Rattle.std.specs.List.{flat_map}
use Rattle.std.specs.Option.{unwrap_or}
use Rattle.std.specs.Str.{bytes_eq}
use Rattle.std.proofs.lemmas.Bool.{not-true}
use Rattle.std.proofs.lemmas.List.Elements.{All-head, All-tail, All-cons}
use Rattle.std.proofs.lemmas.Slice.Eq.{bytes_eq-Decides}
use Rattle.rg_words.specs.declared.refusal.RefusalNumber.TheVariants.{NameTwice, FixedAssigned}
use Rattle.rg_words.specs.declared.refusal.Refusal.{Refusal}
use Rattle.rg_words.specs.declared.refusal.SourceFile.{SourceFile}
use Rattle.rg_words.specs.Refusals.{no_memory}
use Rattle.rg_words.specs.Layout.{Word, IsLayout}
use Rattle.rg_tree.specs.Trees.{Assignment}
use Rattle.rg_tree.specs.Statements as tree
use Rattle.rg_tree.specs.Numbering.{line_of_statement}
use Rattle.rg_syntax.specs.Written as written
use Rattle.rg_syntax.specs.Written.{AssignedTree, StatementTree, StatementTrees, no_more, also, SpecTree}
use Rattle.rg_resolve.specs.Faults.{width_at, faults_in_turn, IsRefusal}
use Rattle.rg_resolve.specs.Inner.FormulaTrees.{place_of, typed_term}
use Rattle.rg_resolve.specs.Words.{words_of}
use Rattle.rg_resolve.specs.Programs.{is_fixed, assigned_faults, statement_faults, block_faults, spec_faults, has_part, part_faults, parts_faults, program_faults}
use Rattle.rg_resolve.specs.Inner.ProgramTrees.{assignment_tree, items_of, block_of, statement_tree, statement_trees, block_tree, spec_tree, part_tree}
use Rattle.rg_resolve.specs.ProgramTyping.{AssignedStandsFor, AssignmentsStandFor, StatementStandsFor, skip, assign, await, branch, loop, BlockStandsFor, single, several, ItemsStandFor, last, next, SpecStandsFor, PartStandsFor, PartsStandAfter, ProgramStandsFor, OneProgramTree}
use Rattle.rg_syntax.specs.ProgramLimits.{IsFullStatement, IsFullBlock, AreFull, AreFullParts, IsWithinLimits}
use Rattle.rg_resolve.proofs.Assigned.{fine_assignment}
use Rattle.rg_leaves.proofs.Refusals.{no_faults, no_test}
use Rattle.rg_resolve.proofs.Typed.{none_left, none_right, unless-none}
use Rattle.rg_resolve.proofs.Stands.{term_stands, term_faultless, term_tree, claim_stands, claim_faultless, claim_tree}
use Rattle.rg_resolve.proofs.Layouts.{layout_faultless}
use Rattle.rg_resolve.proofs.WholeTrees.{program_tree}

module _ (words : List Word) where
  assigned_stands : (a : AssignedTree) → assigned_faults words a ≡ [] → AssignedStandsFor words a (assignment_tree words a)
  assigned_stands a h =
      let fine = fine_assignment words a h in
      record { target = fine.found; free = fine.free; value = term_stands words true _ a.value fine.value }

  assigned_faultless : (a : AssignedTree) (t : Assignment) → AssignedStandsFor words a t → assigned_faults words a ≡ []
  unfolding assigned_faults
  assigned_faultless a t h = rw h.target (no_faults _ _ (no_test (not (is_fixed words t.target)) FixedAssigned a.target.line (ap not h.free)) (term_faultless words true _ a.value t.value h.value))

  assigned_is : (a : AssignedTree) (t : Assignment) → AssignedStandsFor words a t → t ≡ assignment_tree words a
  assigned_is a t h = by (ap (λ o. unwrap_or o 0) h.target) (term_tree words true _ a.value t.value h.value)
    where
      by : place_of words a.target.text ≡ t.target → t.value ≡ typed_term words (width_at words t.target) a.value → t ≡ assignment_tree words a
      by e d = rw (e, ← d) refl

  assignments_stand : (as_ : List AssignedTree) → flat_map (assigned_faults words) as_ ≡ [] → AssignmentsStandFor words as_ (map (assignment_tree words) as_)
  assignments_stand [] h = tt
  assignments_stand (a ∷ as_) h = (assigned_stands a (none_left _ _ h), assignments_stand as_ (none_right _ _ h))

  assignments_faultless : (as_ : List AssignedTree) (ts : List Assignment) → AssignmentsStandFor words as_ ts → flat_map (assigned_faults words) as_ ≡ []
  assignments_faultless [] [] h = refl
  assignments_faultless (a ∷ as_) (t ∷ ts) h = no_faults _ _ (assigned_faultless a t h.0) (assignments_faultless as_ ts h.1)
  assignments_faultless [] (t ∷ ts) h = absurd h
  assignments_faultless (a ∷ as_) [] h = absurd h

  assignments_are : (as_ : List AssignedTree) (ts : List Assignment) → AssignmentsStandFor words as_ ts → ts ≡ map (assignment_tree words) as_
  assignments_are [] [] h = refl
  assignments_are (a ∷ as_) (t ∷ ts) h = rw (← assigned_is a t h.0, ← assignments_are as_ ts h.1) refl
  assignments_are [] (t ∷ ts) h = absurd h
  assignments_are (a ∷ as_) [] h = absurd h

  -- after another statement, these stand for their trees
  abbrev Stand : StatementTrees → Type 0
  Stand no_more = Unit {0}
  Stand (also t ts) = ItemsStandFor words (also t ts) (items_of (statement_tree words t) (statement_trees words ts))

  items_join : (t : StatementTree) (ts : StatementTrees) → StatementStandsFor words t (statement_tree words t) → Stand ts → Stand (also t ts)
  items_join t no_more h g = last t _ h
  items_join t (also u us) h g = next t _ (also u us) _ h g

  block_join : (s : StatementTree) (ss : StatementTrees) → StatementStandsFor words s (statement_tree words s) → Stand ss → BlockStandsFor words (also s ss) (block_of (statement_trees words (also s ss)))
  block_join s no_more h g = single s _ h
  block_join s (also t ts) h g = several s _ (also t ts) _ h g

  mutual
    statement_stands : (s : StatementTree) → IsFullStatement s → statement_faults words s ≡ [] → StatementStandsFor words s (statement_tree words s)
    statement_stands (written.skip t) full h = skip t
    statement_stands (written.assign a) full h = assign a _ (assigned_stands a h)
    statement_stands (written.await t f act) full h = await t f _ act _ (claim_stands words true f (none_left _ _ h)) (assignments_stand act (none_right _ _ h))
    statement_stands (written.branch t f first second) full h =
        let rest = none_right _ _ h in
        branch t f _ first second _ _ (claim_stands words true f (none_left _ _ h)) (block_stands first full.0 (none_left _ _ rest)) (block_stands second full.1 (none_right _ _ rest))
    statement_stands (written.loop t f body) full h = loop t f _ body _ (claim_stands words true f (none_left _ _ h)) (block_stands body full (none_right _ _ h))

    block_stands : (ss : StatementTrees) → IsFullBlock ss → block_faults words ss ≡ [] → BlockStandsFor words ss (block_of (statement_trees words ss))
    block_stands no_more full h = absurd full
    block_stands (also s ss) full h = block_join s ss (statement_stands s full.0 (none_left _ _ h)) (items_stand ss full.1 (none_right _ _ h))

    items_stand : (ss : StatementTrees) → AreFull ss → block_faults words ss ≡ [] → Stand ss
    items_stand no_more full h = tt
    items_stand (also t ts) full h = items_join t ts (statement_stands t full.0 (none_left _ _ h)) (items_stand ts full.1 (none_right _ _ h))

  mutual
    statement_faultless : (s : StatementTree) (a : tree.Statement) → StatementStandsFor words s a → statement_faults words s ≡ []
    statement_faultless _ _ (skip t) = refl
    statement_faultless _ _ (assign a b h) = assigned_faultless a b h
    statement_faultless _ _ (await t f p act bs h g) = no_faults _ _ (claim_faultless words true f p h) (assignments_faultless act bs g)
    statement_faultless _ _ (branch t f p first second a b h g k) = no_faults _ _ (claim_faultless words true f p h) (no_faults _ _ (block_faultless first a g) (block_faultless second b k))
    statement_faultless _ _ (loop t f p body b h g) = no_faults _ _ (claim_faultless words true f p h) (block_faultless body b g)

    block_faultless : (ss : StatementTrees) (a : tree.Statement) → BlockStandsFor words ss a → block_faults words ss ≡ []
    block_faultless _ _ (single s a h) = no_faults _ _ (statement_faultless s a h) refl
    block_faultless _ _ (several s a ss items h g) = no_faults _ _ (statement_faultless s a h) (items_faultless ss items g)

    items_faultless : (ss : StatementTrees) (items : tree.Items) → ItemsStandFor words ss items → block_faults words ss ≡ []
    items_faultless _ _ (last s a h) = no_faults _ _ (statement_faultless s a h) refl
    items_faultless _ _ (next s a ss items h g) = no_faults _ _ (statement_faultless s a h) (items_faultless ss items g)

  -- after a statement these items are those of the list
  pub record AreItems (ts : List tree.Statement) (items : tree.Items) : Type 0 where
    pub after : (b : tree.Statement) → items_of b ts ≡ tree.more b items
    pub block : (b : tree.Statement) → block_of (b ∷ ts) ≡ tree.sequence (line_of_statement b) b items

  mutual
    statement_is : (s : StatementTree) (a : tree.Statement) → StatementStandsFor words s a → a ≡ statement_tree words s
    statement_is _ _ (skip t) = refl
    statement_is _ _ (assign a b h) = ap (tree.assign a.target.line) (assigned_is a b h)
    statement_is _ _ (await t f p act bs h g) = rw (claim_tree words true f p h, assignments_are act bs g) refl
    statement_is _ _ (branch t f p first second a b h g k) = rw (claim_tree words true f p h, block_is first a g, block_is second b k) refl
    statement_is _ _ (loop t f p body b h g) = rw (claim_tree words true f p h, block_is body b g) refl

    block_is : (ss : StatementTrees) (a : tree.Statement) → BlockStandsFor words ss a → a ≡ block_of (statement_trees words ss)
    block_is _ _ (single s a h) = statement_is s a h
    block_is _ _ (several s a ss items h g) = sym ((items_are ss items g).block a) ∙ ap (λ b. block_of (b ∷ statement_trees words ss)) (statement_is s a h)

    items_are : (ss : StatementTrees) (items : tree.Items) → ItemsStandFor words ss items → AreItems (statement_trees words ss) items
    items_are _ _ (last s a h) =
        let same = sym (statement_is s a h) in
        record { after = λ b. ap (λ x. tree.more b (tree.one x)) same; block = λ b. ap (λ x. tree.sequence (line_of_statement b) b (tree.one x)) same }
    items_are _ _ (next s a ss items h g) =
        let rest = (items_are ss items g).after (statement_tree words s) ∙ ap (λ x. tree.more x items) (sym (statement_is s a h)) in
        record { after = λ b. ap (tree.more b) rest; block = λ b. ap (tree.sequence (line_of_statement b) b) rest }

  pub spec_stands : (s : SpecTree) → spec_faults words s ≡ [] → SpecStandsFor words s (spec_tree words s)
  unfolding spec_faults
  spec_stands s h =
      let rest = none_right _ _ h in
      let more = none_right _ _ rest in
      record { pre = claim_stands words true s.pre (none_left _ _ h); rely = claim_stands words false s.rely (none_left _ _ rest); guar = claim_stands words false s.guar (none_left _ _ more); post = claim_stands words true s.post (none_right _ _ more) }

  pub spec_faultless : (s : SpecTree) (t : tree.Specification) → SpecStandsFor words s t → spec_faults words s ≡ []
  unfolding spec_faults
  spec_faultless s t h =
      no_faults _ _ (claim_faultless words true s.pre t.pre h.pre) (no_faults _ _ (claim_faultless words false s.rely t.rely h.rely) (no_faults _ _ (claim_faultless words false s.guar t.guar h.guar) (claim_faultless words true s.post t.post h.post)))

  pub spec_is : (s : SpecTree) (t : tree.Specification) → SpecStandsFor words s t → t ≡ spec_tree words s
  spec_is s t h = by (claim_tree words true s.pre t.pre h.pre) (claim_tree words false s.rely t.rely h.rely) (claim_tree words false s.guar t.guar h.guar) (claim_tree words true s.post t.post h.post)
    where
      by : t.pre ≡ (spec_tree words s).pre → t.rely ≡ (spec_tree words s).rely → t.guar ≡ (spec_tree words s).guar → t.post ≡ (spec_tree words s).post → t ≡ spec_tree words s
      by p q g o = rw (← p, ← q, ← g, ← o) refl

-- these parts have the names of those trees
abbrev pub AreNamed : List written.WrittenPart → List tree.PartTree → Type 0
AreNamed [] [] = Unit {0}
AreNamed (p ∷ ps) (t ∷ ts) = (p.name.text ≡ t.name) × AreNamed ps ts
AreNamed [] (t ∷ ts) = ⊥
AreNamed (p ∷ ps) [] = ⊥

named-more : (ps : List written.WrittenPart) (ts : List tree.PartTree) (p : written.WrittenPart) (t : tree.PartTree) → AreNamed ps ts → p.name.text ≡ t.name → AreNamed (ps ++ p ∷ []) (ts ++ t ∷ [])
named-more [] [] p t h e = (e, tt)
named-more (q ∷ qs) (u ∷ us) p t h e = (h.0, named-more qs us p t h.1 e)
named-more [] (u ∷ us) p t h e = absurd h
named-more (q ∷ qs) [] p t h e = absurd h

module _ (name : List ℕ) where
  no_part : (ps : List written.WrittenPart) (ts : List tree.PartTree) → AreNamed ps ts → All (λ u. u.name ≢ name) ts → has_part ps name ≡ false
  no_part [] [] h others = refl
  no_part (p ∷ ps) (t ∷ ts) h others = by (bytes_eq name p.name.text) refl (no_part ps ts h.1 (All-tail (λ u. u.name ≢ name) t ts others))
    where
      by : (b : Bool) → bytes_eq name p.name.text ≡ b → has_part ps name ≡ false → (b || has_part ps name) ≡ false
      by true e rest = absurd (All-head (λ u. u.name ≢ name) t ts others (sym h.0 ∙ sym ((bytes_eq-Decides name _).0 e)))
      by false e rest = rest
  no_part [] (t ∷ ts) h others = absurd h
  no_part (p ∷ ps) [] h others = absurd h

  no_name : (ps : List written.WrittenPart) (ts : List tree.PartTree) → AreNamed ps ts → has_part ps name ≡ false → All (λ u. u.name ≢ name) ts
  no_name [] [] h none = λ i d less. absurd (omega arith)
  no_name (p ∷ ps) (t ∷ ts) h none = by (bytes_eq name p.name.text) refl none (λ rest. no_name ps ts h.1 rest)
    where
      differ : bytes_eq name p.name.text ≡ false → name ≡ p.name.text → ⊥
      differ none same = let equal = (bytes_eq-Decides name p.name.text).1 same in cc

      by : (b : Bool) → bytes_eq name p.name.text ≡ b → (b || has_part ps name) ≡ false → (has_part ps name ≡ false → All (λ u. u.name ≢ name) ts) → All (λ u. u.name ≢ name) (t ∷ ts)
      by true e none rest = cc
      by false e none rest = All-cons (λ u. u.name ≢ name) t ts (λ same. differ e (sym (h.0 ∙ same))) (rest none)
  no_name [] (t ∷ ts) h none = absurd h
  no_name (p ∷ ps) [] h none = absurd h

module _ (words : List Word) where
  parts_stand : (before ps : List written.WrittenPart) (others : List tree.PartTree) → AreNamed before others → AreFullParts ps → faults_in_turn (part_faults words) before ps ≡ [] → PartsStandAfter words others ps (map (part_tree words) ps)
  unfolding faults_in_turn part_faults
  parts_stand before [] others named full h = tt
  parts_stand before (p ∷ ps) others named full h =
      let here = none_left _ _ h in
      let rest = none_right _ _ here in (
        record { name = refl; spec = spec_stands words p.spec (none_left _ _ rest); body = block_stands words p.body full.0 (none_right _ _ rest) },
        no_name p.name.text before others named (not-true _ (unless-none _ _ _ (none_left _ _ here))),
        parts_stand (before ++ p ∷ []) ps (others ++ part_tree words p ∷ []) (named-more before others p (part_tree words p) named refl) full.1 (none_right _ _ h),
      )

  parts_faultless : (before ps : List written.WrittenPart) (others ts : List tree.PartTree) → AreNamed before others → PartsStandAfter words others ps ts → faults_in_turn (part_faults words) before ps ≡ []
  unfolding faults_in_turn part_faults
  parts_faultless before [] others [] named h = refl
  parts_faultless before (p ∷ ps) others (t ∷ ts) named h =
      let others_differ = subst (λ n. All (λ u. u.name ≢ n) others) (sym h.0.name) h.1 in
      no_faults _ _ (no_faults _ _ (no_test (not (has_part before p.name.text)) NameTwice p.name.line (ap not (no_part p.name.text before others named others_differ))) (no_faults _ _ (spec_faultless words p.spec t.spec h.0.spec) (block_faultless words p.body t.body h.0.body)))
      (parts_faultless (before ++ p ∷ []) ps (others ++ t ∷ []) ts (named-more before others p t named h.0.name) h.2)
  parts_faultless before [] others (t ∷ ts) named h = absurd h
  parts_faultless before (p ∷ ps) others [] named h = absurd h

  part_is : (p : written.WrittenPart) (t : tree.PartTree) → PartStandsFor words p t → t ≡ part_tree words p
  part_is p t h = by (sym h.name) (spec_is words p.spec t.spec h.spec) (block_is words p.body t.body h.body)
    where
      by : t.name ≡ p.name.text → t.spec ≡ spec_tree words p.spec → t.body ≡ block_tree words p.body → t ≡ part_tree words p
      by n s b = rw (← n, ← s, ← b) refl

  parts_are : (others : List tree.PartTree) (ps : List written.WrittenPart) (ts : List tree.PartTree) → PartsStandAfter words others ps ts → ts ≡ map (part_tree words) ps
  parts_are others [] [] h = refl
  parts_are others (p ∷ ps) (t ∷ ts) h = rw (← part_is p t h.0, ← parts_are (others ++ t ∷ []) ps ts h.2) refl
  parts_are others [] (t ∷ ts) h = absurd h
  parts_are others (p ∷ ps) [] h = absurd h

-- a program
pub program_stands : (p : written.WrittenProgram) → IsWithinLimits p → IsLayout (words_of p.words) → spec_faults (words_of p.words) p.spec ≡ [] → parts_faults (words_of p.words) p.parts ≡ [] → ProgramStandsFor p (program_tree p)
program_stands p within layout spec parts = record {
  words = refl;
  layout = layout;
  spec = spec_stands (words_of p.words) p.spec spec;
  parts = parts_stand (words_of p.words) [] p.parts [] tt within.full parts;
}

pub program_faultless : (p : written.WrittenProgram) (t : tree.ProgramTree) → ProgramStandsFor p t → program_faults p ≡ []
program_faultless p t h =
    let layout = subst IsLayout h.words h.layout in
    let spec = subst (λ words. SpecStandsFor words p.spec t.spec) h.words h.spec in
    let parts = subst (λ words. PartsStandAfter words [] p.parts t.parts) h.words h.parts in
    no_faults _ _ (layout_faultless p.words layout) (no_faults _ _ (spec_faultless (words_of p.words) p.spec t.spec spec) (parts_faultless (words_of p.words) [] p.parts [] t.parts tt parts))

program_is : (p : written.WrittenProgram) (t : tree.ProgramTree) → ProgramStandsFor p t → t ≡ program_tree p
program_is p t h =
    by _ _ _ h.words (spec_is (words_of p.words) p.spec t.spec (subst (λ words. SpecStandsFor words p.spec t.spec) h.words h.spec)) (parts_are (words_of p.words) [] p.parts t.parts (subst (λ words. PartsStandAfter words [] p.parts t.parts) h.words h.parts))
  where
    by : (words : List Word) (spec : tree.Specification) (parts : List tree.PartTree) → t.words ≡ words → t.spec ≡ spec → t.parts ≡ parts → t ≡ record { words = words; spec = spec; parts = parts }
    by words spec parts w s ps = rw (← w, ← s, ← ps) refl

pub one_program_tree : OneProgramTree
one_program_tree p s t h g = program_is p s h ∙ sym (program_is p t g)

pub refused_program : (p : written.WrittenProgram) (file : SourceFile) (refusal : Refusal) → IsRefusal file (program_faults p) refusal → (refusal ≡ no_memory) ⊎ ((t : tree.ProgramTree) → ProgramStandsFor p t → ⊥)
refused_program p file refusal h = elim h.cause [ inl e ↦ inl e | inr e ↦ inr (λ t g. rw (program_faultless p t g) at e) ]
