-- Declared words, texts to show and programs without faults stand for something.
use Rattle.std.proofs.Common.{◌≡◌, ◌≤◌, ◌+◌, ℕ, true, false, List, [], ◌∷◌, ◌++◌, length, refl, subst, arith, append_assoc}
use Rattle.std.specs.Prelude.{Option, Some, None, is_none, nat_le, All}
use Rattle.std.proofs.lemmas.Bool.{leb-true}
use Rattle.std.proofs.lemmas.List.{append-nil, length-append}
use Rattle.std.proofs.lemmas.List.Elements.{All-head, All-tail}
use Rattle.rg_words.specs.declared.limits.TheConstants.{MOST_WORDS, MOST_WIDTH}
use Rattle.rg_words.specs.Names.{IsName}
use Rattle.rg_words.specs.Layout.{Word, IsLayout}
use Rattle.rg_words.proofs.Words.{layout_more}
use Rattle.rg_syntax.specs.Written.{DeclaredWord}
use Rattle.rg_syntax.proofs.Clauses.{and_both}
use Rattle.rg_resolve.specs.Faults.{number_of}
use Rattle.rg_resolve.specs.Words.{word_of, words_of, name_faults, width_faults, faults_after, declaration_faults}
use Rattle.rg_resolve.specs.Programs.{spec_faults}
use Rattle.rg_resolve.specs.Faultless.{AreDeclarable, FaultlessWords, FaultlessShown, FaultlessProgram}
use Rattle.rg_leaves.proofs.Refusals.{no_faults}
use Rattle.rg_resolve.proofs.Typed.{none_left, none_right, unless-none}
use Rattle.rg_resolve.proofs.Layouts.{layout_faultless}
use Rattle.rg_resolve.proofs.Stands.{faultless_stand}
use Rattle.rg_resolve.proofs.ResolvedStands.{program_stands, program_faultless}
use Rattle.rg_resolve.proofs.WholeTrees.{program_tree}

is_none-None : (found : Option ℕ) → is_none found ≡ true → found ≡ None
is_none-None None h = refl
is_none-None (Some k) h = cc

-- after the words of a layout, declarations without faults make a layout
layout_after : (before : List Word) (ds : List DeclaredWord) → IsLayout before → length before + length ds ≤ MOST_WORDS → All (λ d. IsName d.name.text) ds → faults_after before ds ≡ [] → IsLayout (before ++ words_of ds)
unfolding faults_after
layout_after before [] layout room named h = rw (append-nil before) layout
layout_after before (d ∷ ds) layout room named h =
    let here = none_left _ _ h in
    let absent = is_none-None _ (unless-none _ _ _ (none_left (name_faults before d.name) (width_faults d.width) here)) in
    let range = unless-none _ _ _ (none_right (name_faults before d.name) (width_faults d.width) here) in
    let both = and_both (nat_le 1 (number_of d.width.text)) (nat_le (number_of d.width.text) MOST_WIDTH) range in
    let least = leb-true _ _ both.0 in
    let most = leb-true _ _ both.1 in
    let one = layout_more before (word_of d) layout absent (omega (arith, room)) (least, most) (All-head (λ d. IsName d.name.text) d ds named) in
    let rest = layout_after (before ++ word_of d ∷ []) ds one (omega (arith, length-append before (word_of d ∷ []), room)) (All-tail (λ d. IsName d.name.text) d ds named) (none_right _ _ h) in
    subst IsLayout (append_assoc before (word_of d ∷ []) (words_of ds)) rest

no_words : IsLayout []
no_words = record { count = omega arith; widths = λ k d less. absurd (omega arith); names = λ k d less. absurd (omega arith); distinct = λ i j d less within. absurd (omega arith) }

words_stand : (ds : List DeclaredWord) → AreDeclarable ds → declaration_faults ds ≡ [] → IsLayout (words_of ds)
words_stand ds fine h = layout_after [] ds no_words (omega (arith, fine.count)) fine.names h

pub faultless_words : FaultlessWords
faultless_words ds fine = (words_stand ds fine, layout_faultless ds)

pub faultless_shown : FaultlessShown
faultless_shown ds f fine = (
  λ h. (words_stand ds fine (none_left _ _ h), (faultless_stand (words_of ds) false f).0 (none_right (declaration_faults ds) _ h)),
  λ s. no_faults (declaration_faults ds) _ (layout_faultless ds s.0) ((faultless_stand (words_of ds) false f).1 s.1),
)

pub faultless_program : FaultlessProgram
faultless_program p fine within = (
  λ h. let rest = none_right (declaration_faults p.words) _ h in
      (program_tree p, program_stands p within (words_stand p.words fine (none_left _ _ h)) (none_left (spec_faults (words_of p.words) p.spec) _ rest) (none_right (spec_faults (words_of p.words) p.spec) _ rest)),
  λ s. program_faultless p s.0 s.1,
)
