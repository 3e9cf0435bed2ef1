use Rattle.std.proofs.Common.{◌≡◌, ℕ, ◌+◌, ◌-◌, ◌*◌, List, map, take, length}
use Rattle.std.specs.Prelude.{option_map}
use Rattle.rg_tree.specs.View.{formula}
use Rattle.rg_outline_syntax.specs.declared.written.ExpressionKind.TheVariants.{Join}
use Rattle.rg_outline_meaning.specs.Meanings.{Meaning, claim}
use Rattle.rg_outline_meaning.specs.Names.{text_of, HasKind}
use Rattle.rg_outline_meaning.specs.Expressions.{StandsFor, AllStandFor, InstancesStandFor, WordsStandFor}
use Rattle.rg_outline_meaning.specs.Inner.{Descends}
use Rattle.rg_outline_meaning.proofs.Collections.{IsCollectedSoFar}
use Rattle.rg_outline_meaning.specs.View.{meaning, bound, outline, words, names}
use Rattle.rg_outline_meaning.proofs.names.Reader.+reading.Given as goal

-- each call of `meaning` within one goes one deeper, and the others lead to one
abbrev pub decreases-meaning : goal.decreases-meaning
decreases-meaning l = l.depth * 10 + 0

abbrev pub decreases-formula : goal.decreases-formula
decreases-formula l = l.depth * 10 + 1

abbrev pub decreases-whole : goal.decreases-whole
decreases-whole l = l.depth * 10 + 1

abbrev pub decreases-number_or_value : goal.decreases-number_or_value
decreases-number_or_value l = l.depth * 10 + 1

abbrev pub decreases-arguments : goal.decreases-arguments
decreases-arguments l = l.depth * 10 + 2

abbrev pub decreases-selected : goal.decreases-selected
decreases-selected l = l.depth * 10 + 2

abbrev pub decreases-meanings : goal.decreases-meanings
decreases-meanings l = l.depth * 10 + 1

abbrev pub decreases-wholes : goal.decreases-wholes
decreases-wholes l = l.depth * 10 + 2

abbrev pub decreases-instance : goal.decreases-instance
decreases-instance l = l.depth * 10 + 2

abbrev pub decreases-chain : goal.decreases-chain
decreases-chain l = l.depth * 10 + 2

abbrev pub decreases-named : goal.decreases-named
decreases-named l = l.depth * 10 + 3

abbrev pub decreases-range : goal.decreases-range
decreases-range l = l.depth * 10 + 3

abbrev pub decreases-words_named : goal.decreases-words_named
decreases-words_named l = l.depth * 10 + 3

abbrev pub decreases-collected : goal.decreases-collected
decreases-collected l = l.depth * 10 + 4

abbrev pub decreases-listed_words : goal.decreases-listed_words
decreases-listed_words l = l.depth * 10 + 4

abbrev pub decreases-claim : goal.decreases-claim
decreases-claim l = l.depth * 10 + 5

-- what those so far stand for
abbrev pub invariant-meanings-loop-index : goal.invariant-meanings-loop-index
invariant-meanings-loop-index l = AllStandFor (outline l.self) (words l.self) (names l.self l.names) (take l.index-index l.indices) (map meaning l.meanings.items)

-- the words so far
abbrev pub invariant-listed_words-loop-index : goal.invariant-listed_words-loop-index
invariant-listed_words-loop-index l = WordsStandFor (outline l.self) (words l.self) (names l.self l.names) (take l.index-index l.index-items) l.words.items

-- the arguments so far, under the names of their parameters
abbrev pub invariant-arguments-loop-place : goal.invariant-arguments-loop-place
invariant-arguments-loop-place l =
    (map (λ b. b.name) l.bound.items ≡ take l.place l.parameters) × AllStandFor (outline l.self) (words l.self) (names l.self l.names) (take l.place l.indices) (map (λ b. meaning b.meaning) l.bound.items)

-- what the operands so far make stands where the links that are left lead to
abbrev pub invariant-chain-loop-place : goal.invariant-chain-loop-place
invariant-chain-loop-place l =
    (index : ℕ) → HasKind (outline l.self) index (Join l.fn.last.junction l.fn.before l.fn.last.operand) → (node : ℕ) × Descends (outline l.self) index (map (λ k. (k.junction, k.operand)) (take (length l.links.items - l.place) l.links.items)) node × StandsFor (outline l.self) (words l.self) (names l.self l.names) node (claim (formula l.formula))

-- what the instances so far make
abbrev pub invariant-collected-loop-number : goal.invariant-collected-loop-number
invariant-collected-loop-number l =
    (names l.self l.inner ≡ names l.self l.names)
    × (ms : List Meaning) × InstancesStandFor (outline l.self) (words l.self) (names l.self l.names) l.instances.binder (text_of (outline l.self) l.instances.index) l.instances.body (take l.number-index l.number-items) ms × IsCollectedSoFar l.instances.binder ms (option_map meaning l.made)
