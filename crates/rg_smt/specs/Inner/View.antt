-- A state of the code, without where it lies in memory.
use Rattle.std.specs.Prelude.{map}
use Rattle.rg_tree.specs.ConditionTrees.{assignment}
use Rattle.rg_smt.specs.declared.symbols.Moment.{Moment}
use Rattle.rg_smt.specs.declared.symbols.Moment.TheVariants.{Second, Done}
use Rattle.rg_smt.specs.Symbols.{Reading, second, done}

abbrev pub reading : Moment → Reading
reading Second = second
reading (Done act) = done (map assignment act.now)
