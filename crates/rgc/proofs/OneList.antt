-- A text has one list of clauses, and a proof over it is one section.
use Rattle.std.proofs.Common.{◌≡◌, ◌∙◌, ℕ, List, length, sym, ap, subst, ⊎_elim, Ok, Err}
use Rattle.rg_words.specs.Layout.{Word}
use Rattle.rg_words.specs.Refusals.{no_memory}
use Rattle.rg_words.specs.declared.refusal.Refusal.{Refusal}
use Rattle.rg_tree.specs.Trees.{Proposition}
use Rattle.rg_tree.specs.Conditions.{ConditionTree, shown}
use Rattle.rg_parse.specs.Shown.{OneShown}
use Rattle.rg_clauses.specs.ClauseLists.{Cnf}
use Rattle.rg_hints.specs.Lines.{Section}
use Rattle.rg_hints.specs.Reading.{section_of, IsReadingRefusal}
use Rattle.rg_hints.specs.Verdict.{IsClosed}
use Rattle.rgc.specs.Valid.{clauses_shown, HasClauses, IsProved}

pub shown_moves : (c : ConditionTree) (words words' : List Word) (f f' : Proposition) → c ≡ shown words f → (words ≡ words') × (f ≡ f') → c ≡ shown words' f'
shown_moves c words words' f f' e same = e ∙ ap (λ (w : List Word). shown w f) same.0 ∙ ap (λ (g : Proposition). shown words' g) same.1

pub one_list : OneShown → (text : List ℕ) (a b : Cnf) → HasClauses text a → HasClauses text b → a ≡ b
one_list one text a b ha hb =
    let same = one text ha.words hb.words ha.formula hb.formula ha.spells hb.spells in
    ha.are ∙ ap (λ (w : List Word). clauses_shown w ha.formula) same.0 ∙ ap (λ (f : Proposition). clauses_shown hb.words f) same.1 ∙ sym hb.are

-- what is proved is read, unless memory runs out
pub reads_proved : (given : ℕ) (clauses : Cnf) (text proofs : List ℕ) (e : Refusal) (p : IsProved text proofs) → clauses ≡ p.clauses → given ≡ length clauses.clauses → IsReadingRefusal (section_of 1 given proofs) e → e ≡ no_memory
reads_proved given clauses text proofs e p same count r =
    let number = count ∙ ap (λ (f : Cnf). length f.clauses) same in
    ⊎_elim (λ m. m) (λ (f : section_of 1 given proofs ≡ Err e). let clash : Ok p.section ≡ Err e = sym p.reads ∙ sym (ap (λ n. section_of 1 n proofs) number) ∙ f in cc) r

-- its section is the one that was read
pub closed_proved : (given : ℕ) (clauses : Cnf) (text proofs : List ℕ) (lines : Section) (p : IsProved text proofs) → clauses ≡ p.clauses → given ≡ length clauses.clauses → section_of 1 given proofs ≡ Ok lines → IsClosed clauses.clauses lines
closed_proved given clauses text proofs lines p same count reads =
    let number = count ∙ ap (λ (f : Cnf). length f.clauses) same in
    let both : Ok p.section ≡ Ok lines = sym p.reads ∙ sym (ap (λ n. section_of 1 n proofs) number) ∙ reads in
    let section_is : p.section ≡ lines = cc both in
    subst (λ s. IsClosed clauses.clauses s) section_is (subst (λ (f : Cnf). IsClosed f.clauses p.section) (sym same) p.closed)
