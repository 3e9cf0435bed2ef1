-- A program without faults, within the limits, is typed.
use Rattle.std.proofs.Common.{◌≡◌, ℕ, ◌+◌, true, false, List, [], ◌∷◌, ◌++◌, length, map, refl, arith, length-append}
use Rattle.std.specs.List.{flat_map}
use Rattle.std.proofs.lemmas.List.{length-map}
use Rattle.rg_words.specs.Layout.{Word, IsLayout, widths_of}
use Rattle.rg_tree.specs.ConditionTrees.{AssignmentsTyped}
use Rattle.rg_tree.specs.Statements as tree
use Rattle.rg_tree.specs.Numbering.{statements, statements_of_items, statements_of_parts}
use Rattle.rg_tree.specs.TypedPrograms.{IsTypedPredicate, TargetsFree, ValuesPlain, IsTypedAction, IsTypedStatement, AreTypedItems, IsTypedSpecification, AreTypedParts, IsTypedProgram}
use Rattle.rg_syntax.specs.Written.{Claim, AssignedTree, StatementTree, skip, assign, await, branch, loop, StatementTrees, no_more, also, SpecTree, WrittenPart, WrittenProgram}
use Rattle.rg_resolve.specs.Faults.{claim_faults, faults_in_turn}
use Rattle.rg_resolve.specs.Inner.FormulaTrees.{typed_claim}
use Rattle.rg_resolve.specs.Words.{words_of}
use Rattle.rg_resolve.specs.Programs.{assigned_faults, statement_faults, block_faults, spec_faults, part_faults, parts_faults}
use Rattle.rg_resolve.specs.Inner.ProgramTrees.{assignment_tree, items_of, block_of, statement_tree, statement_trees, block_tree, spec_tree, part_tree}
use Rattle.rg_syntax.specs.ProgramLimits.{IsFullStatement, IsFullBlock, AreFull, own_count, statement_count, item_count, count_in_parts, AreFullParts, IsWithinLimits}
use Rattle.rg_resolve.proofs.Assigned.{fine_assignment}
use Rattle.rg_resolve.proofs.Typed.{none_left, none_right, found_within, AreNarrow, layout_is_narrow, term_typed, term_plain, claim_typed, claim_plain}
use Rattle.rg_resolve.proofs.WholeTrees.{program_tree}

full_block : (ss : StatementTrees) → IsFullBlock ss → AreFull ss
full_block no_more full = absurd full
full_block (also s ss) full = full

module _ (words : List Word) (narrow : AreNarrow words) where
  assignments_typed : (as_ : List AssignedTree) → flat_map (assigned_faults words) as_ ≡ [] → AssignmentsTyped (widths_of words) (map (assignment_tree words) as_)
  assignments_typed [] h = tt
  assignments_typed (a ∷ as_) h =
      let fine = fine_assignment words a (none_left _ _ h) in
      let inside = found_within words a.target.text _ fine.found in
      (rw (length-map words (λ w. w.width)) inside, term_typed words true narrow a.value _ (narrow _ inside) fine.value, assignments_typed as_ (none_right _ _ h))

  targets_free : (as_ : List AssignedTree) → flat_map (assigned_faults words) as_ ≡ [] → TargetsFree words (map (assignment_tree words) as_)
  targets_free [] h = tt
  targets_free (a ∷ as_) h = ((fine_assignment words a (none_left _ _ h)).free, targets_free as_ (none_right _ _ h))

  values_plain : (as_ : List AssignedTree) → flat_map (assigned_faults words) as_ ≡ [] → ValuesPlain (map (assignment_tree words) as_)
  values_plain [] h = tt
  values_plain (a ∷ as_) h = (term_plain words _ _ a.value (fine_assignment words a (none_left _ _ h)).value, values_plain as_ (none_right _ _ h))

  action_typed : (as_ : List AssignedTree) → flat_map (assigned_faults words) as_ ≡ [] → IsTypedAction words (map (assignment_tree words) as_)
  action_typed as_ h = (assignments_typed as_ h, targets_free as_ h, values_plain as_ h)

  predicate_typed : (f : Claim) → claim_faults words true f ≡ [] → IsTypedPredicate words (typed_claim words f)
  predicate_typed f h = (claim_typed words true narrow f h, claim_plain words f h)

  -- statements that are each typed
  AreTyped : List tree.Statement → Type 0
  AreTyped [] = Unit {0}
  AreTyped (s ∷ ss) = IsTypedStatement words s × AreTyped ss

  items_typed : (s : tree.Statement) (ss : List tree.Statement) → IsTypedStatement words s → AreTyped ss → AreTypedItems words (items_of s ss)
  unfolding AreTyped
  items_typed s [] h g = h
  items_typed s (t ∷ ts) h g = (h, items_typed t ts g.0 g.1)

  block_typed : (ss : List tree.Statement) → AreTyped ss → IsTypedStatement words (block_of ss)
  unfolding AreTyped
  block_typed [] h = tt
  block_typed (s ∷ []) h = h.0
  block_typed (s ∷ t ∷ ts) h = (h.0, items_typed t ts h.1.0 h.1.1)

  mutual
    unfolding AreTyped

    statement_typed : (s : StatementTree) → IsFullStatement s → statement_faults words s ≡ [] → IsTypedStatement words (statement_tree words s)
    statement_typed (skip t) full h = tt
    statement_typed (assign a) full h = action_typed (a ∷ []) (rw h refl)
    statement_typed (await t f act) full h =
        (predicate_typed f (none_left _ _ h), action_typed act (none_right _ _ h), rw length-map full.0, rw length-map full.1)
    statement_typed (branch t f first second) full h =
        let rest = none_right _ _ h in
        (predicate_typed f (none_left _ _ h), block_typed _ (trees_typed first (full_block first full.0) (none_left _ _ rest)), block_typed _ (trees_typed second (full_block second full.1) (none_right _ _ rest)))
    statement_typed (loop t f body) full h = (predicate_typed f (none_left _ _ h), block_typed _ (trees_typed body (full_block body full) (none_right _ _ h)))

    trees_typed : (ss : StatementTrees) → AreFull ss → block_faults words ss ≡ [] → AreTyped (statement_trees words ss)
    trees_typed no_more full h = tt
    trees_typed (also s ss) full h = (statement_typed s full.0 (none_left _ _ h), trees_typed ss full.1 (none_right _ _ h))

  pub spec_typed : (s : SpecTree) → spec_faults words s ≡ [] → IsTypedSpecification words (spec_tree words s)
  unfolding spec_faults
  spec_typed s h =
      let rest = none_right _ _ h in
      let more = none_right _ _ rest in
      (predicate_typed s.pre (none_left _ _ h), claim_typed words false narrow s.rely (none_left _ _ rest), claim_typed words false narrow s.guar (none_left _ _ more), predicate_typed s.post (none_right _ _ more))

  parts_typed : (before ps : List WrittenPart) → AreFullParts ps → faults_in_turn (part_faults words) before ps ≡ [] → AreTypedParts words (map (part_tree words) ps)
  unfolding faults_in_turn part_faults
  parts_typed before [] full h = tt
  parts_typed before (p ∷ ps) full h =
      let here = none_right _ _ (none_left _ _ h) in
      (spec_typed p.spec (none_left _ _ here), block_typed _ (trees_typed p.body (full_block p.body full.0) (none_right _ _ here)), parts_typed (before ++ p ∷ []) ps full.1 (none_right _ _ h))

-- how many statements the trees have
module _ (words : List Word) where
  count_all : List tree.Statement → ℕ
  count_all [] = 0
  count_all (s ∷ ss) = length (statements s) + count_all ss

  count_items : (s : tree.Statement) (ss : List tree.Statement) → length (statements_of_items (items_of s ss)) ≡ length (statements s) + count_all ss
  unfolding count_all
  count_items s [] = omega arith
  count_items s (t ∷ ts) = omega (arith, length-append (statements s) (statements_of_items (items_of t ts)), count_items t ts)

  count_block : (ss : StatementTrees) → IsFullBlock ss → count_all (statement_trees words ss) ≡ item_count ss → length (statements (block_tree words ss)) ≡ own_count ss + item_count ss
  unfolding count_all
  count_block no_more full h = absurd full
  count_block (also s no_more) full h = omega (arith, h)
  count_block (also s (also t ts)) full h =
      omega (arith, h, length-append (statements (statement_tree words s)) (statements_of_items (items_of (statement_tree words t) (statement_trees words ts))), count_items (statement_tree words t) (statement_trees words ts))

  mutual
    unfolding count_all

    count_statement : (s : StatementTree) → IsFullStatement s → length (statements (statement_tree words s)) ≡ statement_count s
    count_statement (skip t) full = refl
    count_statement (assign a) full = refl
    count_statement (await t f act) full = refl
    count_statement (branch t f first second) full =
        let one = count_block first full.0 (count_trees first (full_block first full.0)) in
        let two = count_block second full.1 (count_trees second (full_block second full.1)) in
        omega (arith, one, two, length-append (statements (block_tree words first)) (statements (block_tree words second)))
    count_statement (loop t f body) full =
        let one = count_block body full (count_trees body (full_block body full)) in omega (arith, one)

    count_trees : (ss : StatementTrees) → AreFull ss → count_all (statement_trees words ss) ≡ item_count ss
    count_trees no_more full = refl
    count_trees (also s ss) full =
        let one = count_statement s full.0 in
        let more = count_trees ss full.1 in
        omega (arith, one, more)

  count_parts : (ps : List WrittenPart) → AreFullParts ps → length (statements_of_parts (map (part_tree words) ps)) ≡ count_in_parts ps
  count_parts [] full = refl
  count_parts (p ∷ ps) full =
      let one = count_block p.body full.0 (count_trees p.body (full_block p.body full.0)) in
      let more = count_parts ps full.1 in
      omega (arith, one, more, length-append (statements (block_tree words p.body)) (statements_of_parts (map (part_tree words) ps)))

pub program_typed : (p : WrittenProgram) → IsWithinLimits p → IsLayout (words_of p.words) → spec_faults (words_of p.words) p.spec ≡ [] → parts_faults (words_of p.words) p.parts ≡ [] → IsTypedProgram (program_tree p)
program_typed p within layout spec parts =
    let words = words_of p.words in
    let narrow = layout_is_narrow words layout in
    let count = length-map p.parts (part_tree words) in
    record {
      spec = spec_typed words narrow p.spec spec;
      parts = parts_typed words narrow [] p.parts within.full parts;
      some_part = rw count within.some_part;
      most_parts = rw count within.most_parts;
      most_statements = rw (count_parts words p.parts within.full) within.most_statements;
    }
