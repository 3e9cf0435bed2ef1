-- Parts that are named, without where they lie in memory.
use Rattle.rgc_commands.specs.declared.priority.Named.{Named}
use Rattle.rgc_commands.specs.Priority.{NamedTree}

abbrev pub named : Named → NamedTree
named n = record { name = n.name.now; rank = n.rank }
