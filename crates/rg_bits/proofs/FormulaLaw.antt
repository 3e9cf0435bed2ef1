-- what a condition's literal means over its input bits
use Rattle.std.proofs.Common.{◌≡◌, ◌+◌, ◌≤◌, Bool, List, [], length, map, refl, sym, ap, ◌∙◌, arith, subst}
use Rattle.std.specs.Prelude.{Vec}
use Rattle.std.specs.Global.{Global}
use Rattle.std.proofs.lemmas.List.{get_or-map, length-map}
use Rattle.rg_gates.specs.declared.Lit.{Lit}
use Rattle.rg_gates.specs.Circuit.{Circuit, variable_count, lit_value}
use Rattle.rg_gates.specs.Extends.{GatesHold}
use Rattle.rg_words.specs.Layout.{Word, widths_of}
use Rattle.rg_tree.specs.ConditionTrees.{ConditionTree, SecondState, same, free, after, before, ConditionTyped, condition_holds}
use Rattle.rg_rows.specs.Rows.{row_value}
use Rattle.rg_rows.specs.Within.{AreRowsIn, rows_of}
use Rattle.rg_bits.proofs.StandFor.{StandFor}
use Rattle.rg_rows.specs.Inputs.{first_rows, total_width, free_width, before_rows, first_of, second_of}
use Rattle.rg_bits.specs.Conditions.{condition_of}
use Rattle.rg_bits.proofs.ConditionsMean.{implication-means}
use Rattle.rg_rows.proofs.RowsOf.{length-rows_of}
use Rattle.rg_bits.proofs.Widths.{first_lengths, before_lengths, row_width}
use Rattle.rg_rows.proofs.InputRows.{first_in, free_in, length-first_rows, length-free_rows}

pub row_counts : (first : List (Vec Lit Global)) (words : List Word) → rows_of first ≡ first_rows 0 words → length first ≡ length words
row_counts first words e = sym (length-rows_of first) ∙ ap length e ∙ length-first_rows 0 words

-- rows of the words' widths stand for the numbers that they have
stand : (v : List Bool) (words : List Word) (rows : List (List Lit)) → map length rows ≡ widths_of words → StandFor v (widths_of words) rows (map (row_value v) rows)
stand v words rows e =
    let count = length-map words (λ (w : Word). w.width) in
    let sizes : length rows ≡ length words = sym (length-map rows length) ∙ ap length e ∙ count in
    record {
      row_count = sizes ∙ sym count;
      word_count = length-map rows (row_value v) ∙ sizes ∙ sym count;
      width = λ k less. row_width words rows k e (omega (arith, count));
      value = λ k less. sym (get_or-map (row_value v) rows k [] 0 (omega (arith, sizes, count)));
    }

pub first_stands : (c : ConditionTree) (v : List Bool) → StandFor v (widths_of c.words) (first_rows 0 c.words) (first_of c v)
first_stands c v = stand v c.words (first_rows 0 c.words) (first_lengths 0 c.words)

before_stands : (second : SecondState) (words : List Word) (v : List Bool) → StandFor v (widths_of words) (before_rows second words) (before second (map (row_value v) (first_rows 0 words)) (map (row_value v) (before_rows second words)))
before_stands same words v = stand v words (first_rows 0 words) (first_lengths 0 words)
before_stands (after as_) words v = stand v words (first_rows 0 words) (first_lengths 0 words)
before_stands free words v = stand v words (before_rows free words) (before_lengths free words)

-- for all values of the circuit the literal says whether the condition holds of the states with these bits
pub condition_law : (c : ConditionTree) (g new : Circuit) (l : Lit) → ConditionTyped c → condition_of c g ≡ (l, new) → (values : List Bool) → GatesHold new values → lit_value values l ≡ condition_holds c (first_of c values) (second_of c values)
condition_law c g new l typed e values hold =
    let means = implication-means c (first_rows 0 c.words) (before_rows c.second c.words) in
    let P : Lit × Circuit → Type 0 = λ r. GatesHold r.1 values in
    sym (ap (λ (r : Lit × Circuit). lit_value values r.0) e)
    ∙ means.value g values (subst P (sym e) hold) (first_of c values) (second_of c values) (first_stands c values) (before_stands c.second c.words values) typed

-- the rows are of the circuit, and as many as the words
pub before_in : (c : Circuit) (k : SecondState) (words : List Word) → total_width words ≤ variable_count c → (k ≡ free → total_width words + free_width words ≤ variable_count c) → AreRowsIn c (before_rows k words)
before_in c same words h more = first_in c 0 words (omega arith)
before_in c (after as_) words h more = first_in c 0 words (omega arith)
before_in c free words h more = free_in c (total_width words) words (first_rows 0 words) (first_in c 0 words (omega arith)) (more refl)

pub length-before_rows : (k : SecondState) (words : List Word) → length (before_rows k words) ≡ length words
length-before_rows same words = length-first_rows 0 words
length-before_rows (after as_) words = length-first_rows 0 words
length-before_rows free words = length-free_rows (total_width words) words (first_rows 0 words) (length-first_rows 0 words)
