use Rattle.std.proofs.Common.{◌≡◌, [], ◌∷◌, ◌++◌, ap, ◌∙◌, None}
use Rattle.std.specs.Prelude.{string_bytes}
use Rattle.rg_words.specs.Layout.{Word, index_of, words_of_entries, IsLayout}
use Rattle.rg_words.proofs.Entries.{added}
use Rattle.rg_words.proofs.Words.{layout_more}
use Rattle.rg_words.proofs.layout.Layout.push.Goals as goal
use Rattle.rg_words.proofs.layout.Layout.push.Goals.{In_ok-insert}

abbrev word_of_args : In_ok-insert → Word
word_of_args c = record { name = c.args.name.now; width = c.args.width; fixed = c.args.fixed }

-- the words after the map took the new name
new_words : (c : In_ok-insert) → words_of_entries c.insert.new.self.entries ≡ c.args.self.now ++ word_of_args c ∷ []
new_words c =
    let bytes : string_bytes c.in_ok-name.name ≡ c.args.name.now = c.in_ok-name.ensures.ok in
    let absent : index_of (words_of_entries c.self.inside.words.entries) (string_bytes c.in_ok-name.name) ≡ None = rw (bytes, c.self.view_is) c.requires.absent in
    ap words_of_entries c.in_ok-insert.ensures.entries
    ∙ added c.self.inside.words c.in_ok-name.name record { width = c.args.width; fixed = c.args.fixed } absent
    ∙ ap (λ words. words ++ record { name = string_bytes c.in_ok-name.name; width = c.args.width; fixed = c.args.fixed } ∷ []) c.self.view_is
    ∙ ap (λ n. c.args.self.now ++ record { name = n; width = c.args.width; fixed = c.args.fixed } ∷ []) bytes

pub returns-clause-ok : goal.returns-clause-ok
returns-clause-ok c = new_words c

pub invariant_of-self-2 : goal.invariant_of-self-2
invariant_of-self-2 c =
    let w : IsLayout c.args.self.now = rw c.self.view_is at c.self.invariant in
    rw (new_words c) (layout_more c.args.self.now (word_of_args c) w c.requires.absent c.requires.room c.requires.width c.requires.name)
