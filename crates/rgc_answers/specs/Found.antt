-- What is printed of a condition that was searched.
use Rattle.std.specs.Prelude.{List, [], ℕ, codes}
use Rattle.rg_words.specs.Layout.{Word}
use Rattle.rg_hints.specs.Normal.{section_text}
use Rattle.rg_find.specs.declared.judgement.Judged.{Judged}
use Rattle.rg_find.specs.declared.judgement.Judged.TheVariants.{Holds, Fails, GaveUp, TooLarge}
use Rattle.rgc.specs.Failures.{failure_text}

-- the lines that prove it, or the states over these words at which it fails, or that the search gave up
abbrev pub found_text : List Word → Judged → List ℕ
found_text words (Holds lines) = section_text lines
found_text words (Fails first second) = failure_text words first second
found_text words GaveUp = codes "gave up\n"
found_text words TooLarge = codes "gave up\n"

-- why the search gave up: its steps were used up, or it found a proof that is too large; nothing where it didn't
abbrev pub reason_text : Judged → List ℕ
reason_text GaveUp = codes "no answer was found within the bounds of the search\n"
reason_text TooLarge = codes "no proof within the 16777216 bytes of a file was found; a smaller condition may help\n"
reason_text (Holds lines) = []
reason_text (Fails first second) = []
