-- What may define words, of the code.
use Rattle.rg_erase.specs.Faults.{Defining}
use Rattle.rg_erase.specs.declared.definitions.Definable.{Definable}

-- what may define words, without where it lies in memory
abbrev pub defining : Definable → Defining
defining d = record { words = d.words.now; primed = d.primed; excluded = d.excluded.now; excluded_next = d.excluded_next.now }
