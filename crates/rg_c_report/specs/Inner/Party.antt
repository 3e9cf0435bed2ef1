-- Parties of the code, without where they lie in memory.
use Rattle.rg_c_report.specs.declared.parties.Party.{Party}
use Rattle.rg_c_report.specs.Parties.{PartyTree}

-- a party of the code
abbrev pub party : Party → PartyTree
party q = record { name = q.name.now; access = q.access }
