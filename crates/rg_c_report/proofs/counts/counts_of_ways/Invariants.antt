use Rattle.std.proofs.Common.{◌≡◌, ◌+◌, ◌≤◌, length, drop}
use Rattle.rg_c_plan.specs.Apart.{is_store}
use Rattle.rg_c_report.specs.Counts.{is_direct, is_load, is_exchange, is_select, is_section, count_of}
use Rattle.rg_c_report.proofs.counts.counts_of_ways.Given as goal

-- those so far, and those of the rest
abbrev pub invariant-loop-way : goal.invariant-loop-way
invariant-loop-way l = record {
  steps : l.counts.steps ≡ length l.ways;
  direct : l.counts.direct + count_of is_direct (drop l.way-index l.ways) ≡ count_of is_direct l.ways;
  loads : l.counts.loads + count_of is_load (drop l.way-index l.ways) ≡ count_of is_load l.ways;
  stores : l.counts.stores + count_of is_store (drop l.way-index l.ways) ≡ count_of is_store l.ways;
  exchanges : l.counts.exchanges + count_of is_exchange (drop l.way-index l.ways) ≡ count_of is_exchange l.ways;
  selects : l.counts.selects + count_of is_select (drop l.way-index l.ways) ≡ count_of is_select l.ways;
  sections : l.counts.sections + count_of is_section (drop l.way-index l.ways) ≡ count_of is_section l.ways;
  room-direct : l.counts.direct ≤ l.way-index;
  room-loads : l.counts.loads ≤ l.way-index;
  room-stores : l.counts.stores ≤ l.way-index;
  room-exchanges : l.counts.exchanges ≤ l.way-index;
  room-selects : l.counts.selects ≤ l.way-index;
  room-sections : l.counts.sections ≤ l.way-index;
}
