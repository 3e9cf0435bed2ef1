-- Traces and lists of statements of the code, without where they lie in memory.
use Rattle.std.specs.Prelude.{List, map}
use Rattle.rg_tree.specs.Traces as traces
use Rattle.rg_runs.specs.declared.trace.Step.{Step}

-- who makes a step, and the values that it leads to
abbrev pub step : Step → traces.Step
step x = record { who = x.who; after = x.after.values }

-- the steps of a trace, without where they lie in memory
abbrev pub steps : List Step → List traces.Step
steps xs = map step xs
