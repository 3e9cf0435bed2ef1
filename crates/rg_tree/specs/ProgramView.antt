-- Statements, specifications and parts of the code, without where they lie in memory.
use Rattle.std.specs.Prelude.{map, string_bytes}
use Rattle.rg_tree.specs.declared.statement.Stmt.{Stmt}
use Rattle.rg_tree.specs.declared.statement.Stmt.TheVariants.{Skip, Await, Seq', If', While'}
use Rattle.rg_tree.specs.declared.statement.Stmt.TheVariants as variants
use Rattle.rg_tree.specs.declared.statement.Items.TheVariants.{One', More'}
use Rattle.rg_tree.specs.declared.statement.Items as declared
use Rattle.rg_tree.specs.declared.part.Spec.{Spec}
use Rattle.rg_tree.specs.declared.part.Part.{Part}
use Rattle.rg_tree.specs.View.{formula}
use Rattle.rg_tree.specs.ConditionTrees.{assignment}
use Rattle.rg_tree.specs.Statements.{Statement, skip, assign, await, sequence, branch, loop, Items, one, more, Specification, PartTree}

-- a statement of the code, and the items of a sequence, without where they lie in memory
abbrev mutual
  pub statement : Stmt → Statement
  statement (Skip n) = skip n
  statement (variants.Assign n a) = assign n (assignment a)
  statement (Await n f act) = await n (formula f) (map assignment act.items)
  statement (Seq' n p s q rest) = sequence n (statement s) (items rest)
  statement (If' n f p s q t) = branch n (formula f) (statement s) (statement t)
  statement (While' n f p s) = loop n (formula f) (statement s)

  pub items : declared.Items → Items
  items (One' p s) = one (statement s)
  items (More' p s q rest) = more (statement s) (items rest)

-- a specification of the code, without where it lies in memory
abbrev pub specification : Spec → Specification
specification s = record { pre = formula s.pre; rely = formula s.rely; guar = formula s.guar; post = formula s.post }

-- a part of the code, without where it lies in memory
abbrev pub part : Part → PartTree
part p = record { name = string_bytes p.name; spec = specification p.spec; body = statement p.body }
