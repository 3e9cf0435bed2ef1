-- The declaration of one of the words.
use Rattle.std.specs.Prelude.{ℕ, List, [], false, slice_index, slice_index_or}
use Rattle.rg_words.specs.Layout.{Word, names_of, widths_of, fixed_of}
use Rattle.rgc_answers.specs.Blocks.{word_text}

-- the declaration of the word at this place
abbrev pub declaration : List Word → ℕ → List ℕ
declaration words k = word_text (slice_index_or (fixed_of words) k false) (slice_index_or (names_of words) k []) (slice_index (widths_of words) k)
