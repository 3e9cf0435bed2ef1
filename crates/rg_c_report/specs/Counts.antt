-- How many steps are done in each way, and what is said of that.
use Rattle.std.specs.Prelude.{ℕ, Bool, true, false, List, ◌++◌, codes, length, map, Option}
use Rattle.std.specs.List.{filter, flat_map}
use Rattle.std.specs.Fmt.{decimal}
use Rattle.rg_tree.specs.Statements.{ProgramTree}
use Rattle.rg_c_plan.specs.Accesses.{StepTree}
use Rattle.rg_c_plan.specs.Apart.{is_store}
use Rattle.rg_c_plan.specs.Ways.{way_of}
use Rattle.rg_c_plan.specs.Views.{ViewTree, views}
use Rattle.rg_c_plan.specs.declared.kind.Kind.{Kind}
use Rattle.rg_c_plan.specs.declared.order.Rank.{Rank}
use Rattle.rg_c_plan.specs.declared.way.Way.{Way}
use Rattle.rg_c_plan.specs.declared.way.Way.TheVariants.{Direct, Load, Exchange, Select, Section}
use Rattle.rg_c_report.specs.declared.counts.Counts.{Counts}
use Rattle.rg_c_report.specs.Words.{counted}

-- how a step is done, by the kinds of words as its part sees them
abbrev pub way_of_step : List Kind → StepTree → Way
way_of_step kinds s = way_of kinds s.guard s.act

-- the way is this one
abbrev pub is_direct : Way → Bool
is_direct Direct = true
is_direct way = false

abbrev pub is_load : Way → Bool
is_load (Load k) = true
is_load way = false

abbrev pub is_exchange : Way → Bool
is_exchange (Exchange k) = true
is_exchange way = false

abbrev pub is_select : Way → Bool
is_select Select = true
is_select way = false

abbrev pub is_section : Way → Bool
is_section Section = true
is_section way = false

-- how many ways pass
abbrev pub count_of : (Way → Bool) → List Way → ℕ
count_of passes ways = length (filter passes ways)

-- how many steps are done in each of these ways
abbrev pub counts_of_ways : List Way → Counts
counts_of_ways ways = record {
  steps = length ways;
  direct = count_of is_direct ways;
  loads = count_of is_load ways;
  stores = count_of is_store ways;
  exchanges = count_of is_exchange ways;
  selects = count_of is_select ways;
  sections = count_of is_section ways;
}

-- how the steps of these parts are done
abbrev pub ways_of : List ViewTree → List Way
ways_of vs = flat_map (λ (v : ViewTree). map (way_of_step v.kinds) v.steps) vs

-- how many steps of a program are done in each way
abbrev pub counts_of : ProgramTree → List (Option Rank) → List Kind → Counts
counts_of p order kinds = counts_of_ways (ways_of (views p order kinds))

-- what is said of the steps, of those that meet no other part, of loads and stores
unfoldable pub counts_first : Counts → List ℕ
counts_first counts =
    codes "Steps: " ++ (decimal counts.steps ++ (codes ". "
    ++ (counted counts.direct (codes " meets no other part, ") (codes " meet no other part, ")
    ++ (counted counts.loads (codes " is one load, ") (codes " are one load, ")
    ++ counted counts.stores (codes " is one store,") (codes " are one store,")))))

-- and of exchanges, of accesses that are chosen, and of sections
unfoldable pub counts_second : Counts → List ℕ
counts_second counts =
    counted counts.exchanges (codes " is one compare-and-exchange, ") (codes " are one compare-and-exchange, ")
    ++ (counted counts.selects (codes " accesses one of several words, ") (codes " access one of several words, ")
    ++ counted counts.sections (codes " is a critical section.") (codes " are a critical section."))

-- the whole sentence
unfoldable pub counts_text : Counts → List ℕ
counts_text counts = counts_first counts ++ (codes " " ++ counts_second counts)
