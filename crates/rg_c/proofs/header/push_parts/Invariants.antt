use Rattle.std.proofs.Common.{◌≡◌, ◌++◌, length, map, drop}
use Rattle.std.specs.String.{string_bytes}
use Rattle.rg_tree.specs.ProgramView.{part}
use Rattle.rg_tree.specs.ProgramTrees.{program as program_tree}
use Rattle.rg_c.specs.Headers.{parts_text}
use Rattle.rg_c.specs.Fitting.{PartsFit}
use Rattle.rg_c.specs.View.{operation}
use Rattle.rg_c.proofs.header.push_parts.Given as goal

abbrev pub invariant-loop-part : goal.invariant-loop-part
invariant-loop-part l = record {
  text : string_bytes l.text ++ parts_text l.whole.options.now.name.now (program_tree l.whole.program.now) l.whole.order.now l.whole.kinds.now l.whole.options.now.is_traced l.whole.lines.now (map operation l.whole.options.now.operations.now) l.place (map part (drop l.part-index l.parts))
      ≡ string_bytes l.initial.text ++ parts_text l.whole.options.now.name.now (program_tree l.whole.program.now) l.whole.order.now l.whole.kinds.now l.whole.options.now.is_traced l.whole.lines.now (map operation l.whole.options.now.operations.now) 0 (map part l.parts);
  rest : PartsFit (length l.whole.program.now.layout) (map part (drop l.part-index l.parts));
  place : l.place ≡ l.part-index;
}
