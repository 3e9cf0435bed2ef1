-- When kinds of words are sound, whoever chose them.
use Rattle.std.specs.Prelude.{◌≡◌, ℕ, ◌<◌, true, false, List, length, Option, None}
use Rattle.std.specs.Bool.{Decides}
use Rattle.std.specs.List.{AllPairs}
use Rattle.rg_tree.specs.Statements.{ProgramTree}
use Rattle.rg_c_plan.specs.Accesses.{accesses, world_access, is_fixed, is_touched, meet}
use Rattle.rg_c_plan.specs.Apart.{may_be_apart}
use Rattle.rg_c_plan.specs.Ways.{kind_at}
use Rattle.rg_c_plan.specs.Orders.{waiting}
use Rattle.rg_c_plan.specs.Views.{views}
use Rattle.rg_c_plan.specs.Kinds.{failing}
use Rattle.rg_c_plan.specs.declared.order.Rank.{Rank}
use Rattle.rg_c_plan.specs.declared.kind.Kind.{Kind}
use Rattle.rg_c_plan.specs.declared.kind.Kind.TheVariants.{Fixed, Own, Apart, Published, Sheltered, Guarded}

-- each word has a kind, and the fixed kind exactly where it is fixed; none is published or sheltered but to a part; no two parties meet at an own word, and only parts at
-- one at which they are kept apart; the world outside neither reads nor writes a guarded word; no part that interrupts another one may wait; and each step is one
-- access, and early if it has to be, as its part sees the words
pub record IsSound (kinds : List Kind) (order : List (Option Rank)) (p : ProgramTree) : Type 0 where
  pub count : length kinds ≡ length p.words
  pub fixed : (k : ℕ) → k < length p.words → Decides (is_fixed p.words k) (kind_at kinds k ≡ Fixed)
  pub published : (k : ℕ) → k < length p.words → kind_at kinds k ≡ Published → ⊥
  pub sheltered : (k : ℕ) → k < length p.words → kind_at kinds k ≡ Sheltered → ⊥
  pub own : (k : ℕ) → k < length p.words → kind_at kinds k ≡ Own → AllPairs (λ a b. meet a b ≡ false) (accesses p k)
  pub apart : (k : ℕ) → k < length p.words → kind_at kinds k ≡ Apart → may_be_apart p k ≡ true
  pub guarded : (k : ℕ) → k < length p.words → kind_at kinds k ≡ Guarded → is_touched (world_access k p.words p.spec.rely) ≡ false
  pub waits : waiting p order ≡ None
  pub steps : failing (views p order kinds) ≡ None
