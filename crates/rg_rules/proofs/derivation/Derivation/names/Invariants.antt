use Rattle.std.proofs.Common.{◌≡◌, ◌++◌, suc, map, drop}
use Rattle.std.specs.Prelude.{string_bytes}
use Rattle.rg_rules.specs.Names.{line_names}
use Rattle.rg_tree.specs.Lines.{line_tree}
use Rattle.rg_rules.proofs.derivation.Derivation.names.Given as goal

abbrev pub invariant-loop-i : goal.invariant-loop-i
invariant-loop-i l =
    map string_bytes l.all.items ++ line_names (suc l.i) (map line_tree (drop l.i l.self.lines.items)) ≡ line_names 1 (map line_tree l.self.lines.items)
