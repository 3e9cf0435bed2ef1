use Rattle.std.proofs.Common.{◌≡◌, ◌++◌, ◌-◌, length}
use Rattle.std.specs.String.{string_bytes}
use Rattle.rg_smt.specs.Scripts.{unchanged}
use Rattle.rg_smt.specs.Inner.View.{reading}
use Rattle.rg_smt.proofs.scripts.push_unchanged.Given as goal

-- those so far, and those of the rest
abbrev pub invariant-loop-word : goal.invariant-loop-word
invariant-loop-word l =
    string_bytes l.text ++ unchanged l.layout (reading l.moment) l.word (length l.layout - l.word)
    ≡ string_bytes l.initial.text ++ unchanged l.layout (reading l.moment) 0 (length l.layout)
