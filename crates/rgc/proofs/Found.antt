-- Why a search is refused.
use Rattle.std.proofs.Common.{◌≡◌, ℕ, ◌<◌, ◌≤◌, List, rules, inl, inr, ⊎_elim, subst}
use Rattle.rg_words.specs.declared.limits.TheConstants.{MOST_VARIABLES}
use Rattle.rg_words.specs.declared.refusal.Refusal.{Refusal}
use Rattle.rg_words.specs.declared.refusal.SourceFile.TheVariants.{Text}
use Rattle.rg_words.specs.Layout.{Word}
use Rattle.rg_tree.specs.Trees.{Proposition}
use Rattle.rg_tree.specs.Conditions.{ConditionTree, shown}
use Rattle.rg_parse.specs.Shown.{SpellsShow}
use Rattle.rg_clauses.specs.Conditions.{clauses_of_condition}
use Rattle.rg_find.specs.Judged.{IsJudgeRefusal}
use Rattle.rgc.specs.Valid.{IsFindRefusal, clauses_shown}

-- a formula that a text spells is not judged: want of memory, its variables, or the decisions
pub find_refused : (text : List ℕ) (steps : ℕ) (words : List Word) (f : Proposition) (c : ConditionTree) (e : Refusal) → SpellsShow text words f → c ≡ shown words f → IsJudgeRefusal c Text 1 steps e → IsFindRefusal text steps e
find_refused text steps words f c e spells is r =
    ⊎_elim
    (λ m. inl (inl (inl (inr (inr m)))))
    (λ other. ⊎_elim
    (λ many. inl (inr (words, f, spells, subst (λ (d : ConditionTree). MOST_VARIABLES < (clauses_of_condition d).variables) is many.0, many.1)))
    (λ steps_. inr (
      clauses_shown words f,
      record {
        words = words;
        formula = f;
        spells = spells;
        are = search rules;
        within = subst (λ (d : ConditionTree). (clauses_of_condition d).variables ≤ MOST_VARIABLES) is steps_.0;
      },
      steps_.1,
      steps_.2,
    ))
    other)
    r
