use Rattle.std.proofs.Common.{◌≡◌, ◌++◌, map, drop}
use Rattle.std.specs.String.{string_bytes}
use Rattle.rg_c.specs.Together.{all_given}
use Rattle.rg_c.specs.View.{given, on}
use Rattle.rg_c.proofs.together.push_to_words.Given as goal

-- those so far are written, and as many of the rest
abbrev pub invariant-loop-at : goal.invariant-loop-at
invariant-loop-at l =
    string_bytes l.text ++ on l.s (all_given l.s.layout.now l.s.kinds.now l.written (map given (drop l.at l.gs))) ≡ string_bytes l.initial.text ++ on l.s (all_given l.s.layout.now l.s.kinds.now 0 (map given l.gs))
