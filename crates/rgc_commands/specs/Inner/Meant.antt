-- Refusals for want of memory.
use Rattle.std.specs.Prelude.{Bool, true, false}
use Rattle.rg_words.specs.declared.refusal.RefusalNumber.{RefusalNumber}
use Rattle.rg_words.specs.declared.refusal.RefusalNumber.TheVariants.{Memory}

-- memory was refused
abbrev pub is_memory : RefusalNumber → Bool
is_memory Memory = true
is_memory _ = false
