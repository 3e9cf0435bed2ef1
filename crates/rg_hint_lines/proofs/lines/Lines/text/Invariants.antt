use Rattle.std.proofs.Common.{◌≡◌, take}
use Rattle.std.specs.List.{flat_map}
use Rattle.std.specs.String.{string_bytes}
use Rattle.rg_hint_lines.specs.Normal.{hint_line_text}
use Rattle.rg_hint_lines.proofs.lines.Lines.text.Given as goal

abbrev pub invariant-loop-index : goal.invariant-loop-index
invariant-loop-index l = string_bytes l.text ≡ flat_map hint_line_text (take l.index l.self.lines)
