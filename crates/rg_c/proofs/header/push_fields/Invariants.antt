use Rattle.std.proofs.Common.{◌≡◌, ◌++◌, ◌-◌, length}
use Rattle.std.specs.List.{flat_map, range_with_len}
use Rattle.std.specs.String.{string_bytes}
use Rattle.rg_tree.specs.ProgramTrees.{program}
use Rattle.rg_c_plan.specs.Accesses.{places}
use Rattle.rg_c.specs.Headers.{field_text}
use Rattle.rg_c.proofs.header.push_fields.Given as goal

abbrev pub invariant-loop-word : goal.invariant-loop-word
invariant-loop-word l =
    string_bytes l.text ++ flat_map (field_text (program l.program) l.kinds) (range_with_len l.word (length l.program.layout - l.word)) ≡ string_bytes l.initial.text ++ flat_map (field_text (program l.program) l.kinds) (places l.program.layout)
