-- Blocks: their items from the last to the first.
use Rattle.std.proofs.Common.{◌≡◌, ℕ, Bool, true, Vec, Global, ◌<◌, List, [], ◌∷◌, ◌++◌, length, map, get_or, refl, sym, ap, ◌∙◌, append_assoc}
use Rattle.std.specs.List.{flat_map}
use Rattle.std.specs.Prelude.{IsTrue}
use Rattle.std.proofs.lemmas.List.{map-append}
use Rattle.rg_words.specs.Layout.{Word}
use Rattle.rg_tree.specs.Statements as tree
use Rattle.rg_tree.specs.Numbering.{line_of_statement}
use Rattle.rg_tree.specs.ProgramView.{statement}
use Rattle.rg_tree.specs.declared.statement.Stmt.{Stmt}
use Rattle.rg_text.specs.Text.{leaf_of}
use Rattle.rg_text.specs.declared.token.Token.{Token}
use Rattle.rg_words.specs.declared.refusal.Refusal.{Refusal}
use Rattle.rg_words.specs.declared.refusal.SourceFile.{SourceFile}
use Rattle.rg_tree.specs.Trees.{Proposition}
use Rattle.rg_syntax.specs.declared.written.FormulaText.{FormulaText}
use Rattle.rg_syntax.specs.declared.written.StatementText.{StatementText, If, While}
use Rattle.rg_syntax.specs.Written as written
use Rattle.rg_resolve.specs.Faults.{claim_faults, IsRefusal}
use Rattle.rg_resolve.specs.Inner.FormulaTrees.{IsClaimTree}
use Rattle.rg_syntax.proofs.Rows.{statement-If, statement-While}
use Rattle.rg_syntax.proofs.Sizes.{statement_size, block_size, size_within}
use Rattle.rg_leaves.proofs.Refusals.{of_first, of_rest, no_faults}
use Rattle.rg_syntax.specs.Written.{claim, StatementTree, skip, assign, await, branch, loop, StatementTrees, no_more, also, listed}
use Rattle.rg_resolve.specs.Programs.{statement_faults, block_faults}
use Rattle.rg_resolve.specs.Inner.ProgramTrees.{items_of, block_of, statement_tree, statement_trees}

-- items as a list
unfoldable pub items_list : tree.Items → List tree.Statement
items_list (tree.one s) = s ∷ []
items_list (tree.more s rest) = s ∷ items_list rest

items_are : (s : tree.Statement) (rest : tree.Items) → items_of s (items_list rest) ≡ tree.more s rest
unfolding items_list
items_are s (tree.one t) = refl
items_are s (tree.more t rest) = ap (tree.more s) (items_are t rest)

block_is : (s : tree.Statement) (rest : tree.Items) → block_of (s ∷ items_list rest) ≡ tree.sequence (line_of_statement s) s rest
unfolding items_list
block_is s (tree.one t) = refl
block_is s (tree.more t rest) = ap (tree.sequence (line_of_statement s) s) (items_are t rest)

-- these statements, this one, and these items are all
pub record AreAll (all earlier : List Stmt) (before : tree.Statement) (items : tree.Items) : Type 0 where
  pub whole : map statement earlier ++ before ∷ items_list items ≡ map statement all

pub all_start : (all earlier rest : List Stmt) (before last : Stmt) → all ≡ rest ++ last ∷ [] → rest ≡ earlier ++ before ∷ [] → AreAll all earlier (statement before) (tree.one (statement last))
unfolding items_list
all_start all earlier rest before last e d = record {
  whole = rw (e, d, map-append statement (earlier ++ before ∷ []) (last ∷ []), map-append statement earlier (before ∷ []), append_assoc) refl;
}

pub all_step : (all old earlier : List Stmt) (before : Stmt) (after : tree.Statement) (items : tree.Items) → AreAll all old after items → old ≡ earlier ++ before ∷ [] → AreAll all earlier (statement before) (tree.more after items)
unfolding items_list
all_step all old earlier before after items h e = record {
  whole = sym (append_assoc (map statement earlier) (statement before ∷ []) (after ∷ items_list items)) ∙ ap (λ xs. xs ++ after ∷ items_list items) (sym (ap (λ xs. map statement xs) e ∙ map-append statement earlier (before ∷ []))) ∙ h.whole;
}

pub all_block : (all earlier : List Stmt) (before : tree.Statement) (items : tree.Items) → AreAll all earlier before items → earlier ≡ [] → tree.sequence (line_of_statement before) before items ≡ block_of (map statement all)
all_block all earlier before items h e = sym (block_is before items) ∙ ap block_of (ap (λ xs. map statement xs ++ before ∷ items_list items) (sym e) ∙ h.whole)

-- the statements of a list, one by one
pub trees_listed : (words : List Word) (ss : List StatementTree) → statement_trees words (listed ss) ≡ map (statement_tree words) ss
trees_listed words [] = refl
trees_listed words (s ∷ ss) = ap (λ ts. statement_tree words s ∷ ts) (trees_listed words ss)

pub faults_listed : (words : List Word) (ss : List StatementTree) → block_faults words (listed ss) ≡ flat_map (statement_faults words) ss
faults_listed words [] = refl
faults_listed words (s ∷ ss) = ap (λ fs. statement_faults words s ++ fs) (faults_listed words ss)

-- a conditional, whose blocks are these lists
module _ (src : List ℕ) (s : StatementText) (t : Token) (f : FormulaText) (first second : Vec StatementText Global) (is : s ≡ If t f first second) (xs ys : List StatementText) (left : xs ≡ first.items) (right : ys ≡ second.items) where
  if_view : written.statement src s ≡ branch (leaf_of src t) (claim src f) (listed (map (written.statement src) xs)) (listed (map (written.statement src) ys))
  if_view = rw (is, left, right) (statement-If src t f first second)

  module _ (words : List Word) (one_state : Bool) (one : IsTrue one_state) (p : Proposition) (test : IsClaimTree words one_state (claim src f) p) where
    if_test : claim_faults words true (claim src f) ≡ []
    if_test = rw one at test.faultless

    pub first_refused : (file : SourceFile) (refusal : Refusal) → IsRefusal file (block_faults words (listed (map (written.statement src) xs))) refusal → IsRefusal file (statement_faults words (written.statement src s)) refusal
    first_refused file refusal r = rw if_view (of_rest file _ _ refusal if_test (of_first file _ _ refusal r))

    module _ (none : block_faults words (listed (map (written.statement src) xs)) ≡ []) where
      pub second_refused : (file : SourceFile) (refusal : Refusal) → IsRefusal file (block_faults words (listed (map (written.statement src) ys))) refusal → IsRefusal file (statement_faults words (written.statement src s)) refusal
      second_refused file refusal r = rw if_view (of_rest file _ _ refusal if_test (of_rest file _ _ refusal none r))

      pub if_faultless : block_faults words (listed (map (written.statement src) ys)) ≡ [] → statement_faults words (written.statement src s) ≡ []
      if_faultless more = rw if_view (no_faults _ _ if_test (no_faults _ _ none more))

    pub if_tree : (a b : tree.Statement) (ss us : List Stmt) → a ≡ block_of (map statement ss) → b ≡ block_of (map statement us) → map statement ss ≡ statement_trees words (listed (map (written.statement src) xs)) → map statement us ≡ statement_trees words (listed (map (written.statement src) ys)) → tree.branch t.line p a b ≡ statement_tree words (written.statement src s)
    if_tree a b ss us h g as_ bs = rw (if_view, h, g, as_, bs, test.tree) refl

-- a loop, whose body is this list
module _ (src : List ℕ) (s : StatementText) (t : Token) (f : FormulaText) (body : Vec StatementText Global) (is : s ≡ While t f body) (xs : List StatementText) (same : xs ≡ body.items) where
  while_view : written.statement src s ≡ loop (leaf_of src t) (claim src f) (listed (map (written.statement src) xs))
  while_view = rw (is, same) (statement-While src t f body)

  module _ (words : List Word) (one_state : Bool) (one : IsTrue one_state) (p : Proposition) (test : IsClaimTree words one_state (claim src f) p) where
    while_test : claim_faults words true (claim src f) ≡ []
    while_test = rw one at test.faultless

    pub body_refused : (file : SourceFile) (refusal : Refusal) → IsRefusal file (block_faults words (listed (map (written.statement src) xs))) refusal → IsRefusal file (statement_faults words (written.statement src s)) refusal
    body_refused file refusal r = rw while_view (of_rest file _ _ refusal while_test r)

    pub while_faultless : block_faults words (listed (map (written.statement src) xs)) ≡ [] → statement_faults words (written.statement src s) ≡ []
    while_faultless none = rw while_view (no_faults _ _ while_test none)

    pub while_tree : (a : tree.Statement) (ss : List Stmt) → a ≡ block_of (map statement ss) → map statement ss ≡ statement_trees words (listed (map (written.statement src) xs)) → tree.loop t.line p a ≡ statement_tree words (written.statement src s)
    while_tree a ss h as_ = rw (while_view, h, as_, test.tree) refl

-- the statements of a list, from those that are done
module _ (src : List ℕ) (words : List Word) (items : List StatementText) where
  pub listed_refused : (file : SourceFile) (refusal : Refusal) → IsRefusal file (flat_map (statement_faults words) (map (written.statement src) items)) refusal → IsRefusal file (block_faults words (listed (map (written.statement src) items))) refusal
  listed_refused file refusal r = rw faults_listed r

  pub listed_faultless : flat_map (statement_faults words) (map (written.statement src) items) ≡ [] → block_faults words (listed (map (written.statement src) items)) ≡ []
  listed_faultless h = faults_listed words (map (written.statement src) items) ∙ h

  pub listed_trees : (ts : List tree.Statement) → ts ≡ map (statement_tree words) (map (written.statement src) items) → ts ≡ statement_trees words (listed (map (written.statement src) items))
  listed_trees ts h = h ∙ sym (trees_listed words (map (written.statement src) items))

  pub item_smaller : (i : ℕ) (d : StatementText) → i < length items → d ≡ get_or items i d → statement_size (written.statement src d) < block_size (listed (map (written.statement src) items))
  item_smaller i d inside is = rw is (size_within (written.statement src) items i d inside)
