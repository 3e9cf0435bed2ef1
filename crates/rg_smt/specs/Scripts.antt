-- A condition as a script in SMT-LIB 2. It can be satisfied where the condition fails.
use Rattle.std.specs.Prelude.{ℕ, zero, suc, ◌+◌, false, List, [], ◌∷◌, ◌++◌, codes, length, cond, if◌then◌else◌, slice_index, slice_index_or}
use Rattle.std.specs.Fmt.{decimal}
use Rattle.std.specs.List.{flat_map}
use Rattle.rg_words.specs.Layout.{Word, widths_of, fixed_of}
use Rattle.rg_tree.specs.Trees.{Proposition, Assignment}
use Rattle.rg_tree.specs.Printed.{name_text}
use Rattle.rg_tree.specs.ConditionTrees.{SecondState, same, free, after, ConditionTree}
use Rattle.rg_smt.specs.Symbols.{Reading, second, done, symbol}
use Rattle.rg_smt.specs.Formulas.{value_text, formula_text, of_two}

-- the second state that hypotheses read: there is one only where it is free
abbrev pub before : SecondState → Reading
before free = second
before _ = done []

-- the second state that the goal reads
abbrev pub reached : SecondState → Reading
reached same = done []
reached free = second
reached (after as_) = done as_

-- bit vectors as wide as the k-th word
abbrev pub sort_text : List Word → ℕ → List ℕ
sort_text words k = codes "(_ BitVec " ++ (decimal (slice_index (widths_of words) k) ++ codes ")")

-- the k-th word has any value in a state
abbrev pub declaration : List Word → Reading → ℕ → List ℕ
declaration words r k = codes "(declare-fun " ++ (symbol words r k ++ (codes " () " ++ (sort_text words k ++ codes ")\n")))

-- in a second state that is free, unless the word is fixed
abbrev pub second_declaration : List Word → Reading → ℕ → List ℕ
second_declaration words second k = if slice_index_or (fixed_of words) k false then [] else declaration words second k
second_declaration words (done as_) k = []

-- n words from the k-th on, in the first and in a second state
abbrev pub declarations : List Word → Reading → ℕ → ℕ → List ℕ
declarations words r k zero = []
declarations words r k (suc n) = declaration words (done []) k ++ (second_declaration words r k ++ declarations words r (k + 1) n)

-- what is asserted
abbrev pub assertion : List ℕ → List ℕ
assertion text = codes "(assert " ++ (text ++ codes ")\n")

-- the hypotheses
abbrev pub assertions : List Word → Reading → List Proposition → List ℕ
assertions words r fs = flat_map (λ f. assertion (formula_text words (done []) r f)) fs

-- an assignment, once those before it are done: its word has its value in the state after it
abbrev pub definition : List Word → List Assignment → Assignment → List ℕ
definition words as_ a =
    codes "(define-fun |" ++ (name_text words a.target ++ (codes "@" ++ (decimal (length as_ + 1) ++ (codes "| () " ++ (sort_text words a.target
    ++ (codes " " ++ (value_text words (done as_) (done as_) a.value ++ codes ")\n")))))))

-- assignments, in order
abbrev pub definitions : List Word → List Assignment → List Assignment → List ℕ
definitions words as_ [] = []
definitions words as_ (a ∷ rest) = definition words as_ a ++ definitions words (as_ ++ a ∷ []) rest

-- those that make the second state, if there are any
abbrev pub step_definitions : List Word → SecondState → List ℕ
step_definitions words (after as_) = definitions words [] as_
step_definitions words _ = []

-- the k-th word keeps its value
abbrev pub kept : List Word → Reading → ℕ → List ℕ
kept words r k = of_two (codes " (= ") (symbol words (done []) k) (symbol words r k)

-- so do n words from the k-th on
abbrev pub unchanged : List Word → Reading → ℕ → ℕ → List ℕ
unchanged words r k zero = []
unchanged words r k (suc n) = kept words r k ++ unchanged words r (k + 1) n

-- the goal, or that no word changes
abbrev pub goal_text : ConditionTree → List ℕ
goal_text c =
    let r = reached c.second in
    let goal = formula_text c.words (cond c.alone r (done [])) r c.goal in
    cond c.or_no_change (codes "(or " ++ (goal ++ (codes " (and true" ++ (unchanged c.words r 0 (length c.words) ++ codes "))")))) goal

-- the words, the hypotheses, the assignments, and that the goal isn't met
abbrev pub script_text : ConditionTree → List ℕ
script_text c =
    codes "(set-logic QF_BV)\n"
    ++ (declarations c.words (before c.second) 0 (length c.words)
    ++ (assertions c.words (before c.second) c.hypotheses
    ++ (step_definitions c.words c.second
    ++ (codes "(assert (not " ++ (goal_text c ++ codes "))\n(check-sat)\n")))))
