-- The report on the words and the steps of a program in C.
use Rattle.std.specs.Prelude.{ℕ, zero, suc, ◌+◌, Bool, not, ◌&&◌, nat_eq, List, [], ◌∷◌, ◌++◌, codes, length, map, slice_index, Option, Some, None, option_map, if◌then◌else◌}
use Rattle.std.specs.List.{list_any, find, filter, flat_map}
use Rattle.std.specs.Option.{option_map_or}
use Rattle.std.specs.Fmt.{decimal}
use Rattle.rg_words.specs.Layout.{Word, widths_of}
use Rattle.rg_tree.specs.Trees.{Proposition, Assignment}
use Rattle.rg_tree.specs.Statements.{PartTree, ProgramTree}
use Rattle.rg_c_plan.specs.Accesses.{StepTree, steps}
use Rattle.rg_c_plan.specs.Ways.{kind_at, is_guarded, way_of, met_words}
use Rattle.rg_c_plan.specs.Views.{kinds_for, ViewTree, views}
use Rattle.rg_c_plan.specs.declared.kind.Kind.{Kind}
use Rattle.rg_c_plan.specs.declared.order.Rank.{Rank}
use Rattle.rg_c_plan.specs.declared.kind.Kind.TheVariants.{Fixed, Own, Apart, Published, Sheltered, Atomic, Guarded}
use Rattle.rg_c_plan.specs.declared.way.Way.{Way}
use Rattle.rg_c_plan.specs.declared.way.Way.TheVariants.{Direct, Load, Store, Exchange, Select, Section}
use Rattle.rg_c_report.specs.Words.{joined, name_of, counted, commas}
use Rattle.rg_c_report.specs.Counts.{counts_of, counts_text}
use Rattle.rg_c_report.specs.Lines.{line_shown}
use Rattle.rg_c_report.specs.Orders.{interrupted}
use Rattle.rg_c_report.specs.Parties.{parties_text}
use Rattle.rg_c_report.specs.declared.report.Since.{Since}

-- what is said of a kind
abbrev pub kind_text : Kind → List ℕ
kind_text Fixed = codes "fixed"
kind_text Own = codes "plain"
kind_text Apart = codes "plain: assertions keep its parts apart"
kind_text Published = codes "atomic"
kind_text Sheltered = codes "atomic"
kind_text Atomic = codes "atomic"
kind_text Guarded = codes "in critical sections"

-- a word is one of these
abbrev pub is_met : ℕ → List ℕ → Bool
is_met k met = list_any (λ j. nat_eq j k) met

-- the first guarded one of these words beside this one
abbrev pub guarded_beside : List Kind → ℕ → List ℕ → Option ℕ
guarded_beside kinds k met = find (λ j. not (nat_eq j k) && is_guarded (kind_at kinds j)) met

-- the first guarded word that a step touches beside this one, where it touches this one
abbrev pub word_beside : List Kind → ℕ → StepTree → Option ℕ
word_beside kinds k s = if is_met k (met_words kinds s.guard s.act) then guarded_beside kinds k (met_words kinds s.guard s.act) else None

-- the statement of this line touches the k-th word too
unfoldable pub since_text : List Word → ℕ → ℕ → List ℕ
since_text words line k = joined (codes "    since line " ∷ decimal line ∷ codes " accesses it with " ∷ name_of words k ∷ codes "\n" ∷ [])

-- why a guarded word is: the first step that touches it and another guarded word, by the kinds of words as its part sees them
abbrev pub since_of : List Kind → ℕ → StepTree → Option Since
since_of kinds k s = option_map (λ j. record { line = s.line; word = j }) (word_beside kinds k s)

abbrev pub first_since : List Kind → ℕ → List StepTree → Option Since
first_since kinds k [] = None
first_since kinds k (s ∷ ss) = option_map_or (λ x. Some x) (since_of kinds k s) (first_since kinds k ss)

abbrev pub first_reason : List ViewTree → ℕ → Option Since
first_reason [] k = None
first_reason (v ∷ vs) k = option_map_or (λ x. Some x) (first_since v.kinds k v.steps) (first_reason vs k)

-- nothing is said where there is no such step; these are the lines that are printed for those of the text
abbrev pub reason_text : List Word → List ℕ → List ViewTree → ℕ → List ℕ
reason_text words lines vs k = option_map_or (λ (x : Since). since_text words (line_shown lines x.line) x.word) (first_reason vs k) []

-- the k-th word, of this kind
unfoldable pub word_line : ProgramTree → Kind → ℕ → List ℕ
word_line p kind k =
    codes "  " ++ (name_of p.words k ++ (codes ": " ++ (counted (slice_index (widths_of p.words) k) (codes " bit, ") (codes " bits, ")
    ++ (kind_text kind ++ (codes ", " ++ (parties_text p k ++ codes "\n"))))))

-- the k-th word, and where it is guarded, why; these are the program's parts
unfoldable pub word_text : ProgramTree → List Kind → List ℕ → List ViewTree → ℕ → List ℕ
word_text p kinds lines vs k = word_line p (kind_at kinds k) k ++ (if is_guarded (kind_at kinds k) then reason_text p.words lines vs k else [])

-- n words, from the k-th one on
abbrev pub words_text : ProgramTree → List Kind → List ℕ → List ViewTree → ℕ → ℕ → List ℕ
words_text p kinds lines vs k zero = []
words_text p kinds lines vs k (suc n) = word_text p kinds lines vs k ++ words_text p kinds lines vs (k + 1) n

-- the words at which a step may meet others, after a text
abbrev pub met_text : List Word → List Kind → List ℕ → Option Proposition → List Assignment → List ℕ
met_text words kinds before guard act = before ++ commas (map (name_of words) (met_words kinds guard act))

-- how a step is done with this guard or test, if it has one, and these assignments
abbrev pub way_text : List Word → List Kind → Option Proposition → List Assignment → Way → List ℕ
way_text words kinds guard act Direct = codes "meets no other part"
way_text words kinds guard act (Load k) = joined (codes "one load of " ∷ name_of words k ∷ [])
way_text words kinds guard act (Store k) = joined (codes "one store to " ∷ name_of words k ∷ [])
way_text words kinds guard act (Exchange k) = joined (codes "one compare-and-exchange of " ∷ name_of words k ∷ [])
way_text words kinds guard act Select = met_text words kinds (codes "one load or store, of one of ") guard act
way_text words kinds guard act Section = met_text words kinds (codes "a critical section, for ") guard act

-- the words at which a step would meet others if none stood still while it is made: what the others are is seen so without an order, and so with it
abbrev pub spared : List Kind → List Kind → Option Proposition → List Assignment → List ℕ
spared bare kinds guard act = filter (λ k. not (is_met k (met_words kinds guard act))) (met_words bare guard act)

-- why a step meets nobody at these words; nothing is said where there are none
unfoldable pub spared_text : List Word → List ℕ → List ℕ
spared_text words ks = if nat_eq (length ks) 0 then [] else codes "; none that accesses " ++ (commas (map (name_of words) ks) ++ codes " interrupts it")

-- a step
unfoldable pub step_text : List Word → List ℕ → List Kind → List Kind → StepTree → List ℕ
step_text words lines bare kinds s =
    codes "  line " ++ (decimal (line_shown lines s.line) ++ (codes ": " ++ (way_text words kinds s.guard s.act (way_of kinds s.guard s.act)
    ++ (spared_text words (spared bare kinds s.guard s.act) ++ codes "\n"))))

abbrev pub steps_text : List Word → List ℕ → List Kind → List Kind → List StepTree → List ℕ
steps_text words lines bare kinds ss = flat_map (step_text words lines bare kinds) ss

-- which parts it interrupts; nothing is said where it interrupts none
unfoldable pub handler_text : List (List ℕ) → List ℕ
handler_text names = if nat_eq (length names) 0 then [] else codes ", which interrupts " ++ commas names

-- the i-th part, by the kinds of words as it sees them
unfoldable pub part_text : ProgramTree → List (Option Rank) → List Kind → List ℕ → ℕ → PartTree → List ℕ
part_text p order kinds lines i part =
    codes "part " ++ (part.name ++ (handler_text (interrupted p order i) ++ (codes "\n"
    ++ steps_text p.words lines (kinds_for p [] kinds i) (kinds_for p order kinds i) (steps part.body))))

-- parts, from the i-th one on
abbrev pub parts_text : ProgramTree → List (Option Rank) → List Kind → List ℕ → ℕ → List PartTree → List ℕ
parts_text p order kinds lines i [] = []
parts_text p order kinds lines i (part ∷ parts) = part_text p order kinds lines i part ++ parts_text p order kinds lines (i + 1) parts

-- the words, the parts, and the counts; these are the lines that are printed for those of the text
abbrev pub report_text : ProgramTree → List (Option Rank) → List Kind → List ℕ → List ℕ
report_text p order kinds lines =
    codes "words\n" ++ (words_text p kinds lines (views p order kinds) 0 (length p.words)
    ++ (parts_text p order kinds lines 0 p.parts ++ (counts_text (counts_of p order kinds) ++ codes "\n")))
